-- The tests of a node's or an edge's line, group by group, come to all of its causes.
use Rattle.std.proofs.Common.{◌≡◌, ℕ, true, false, List, ◌++◌, Option, Some, None, ap, ◌∙◌}
use Rattle.std.specs.Option.{option_map}
use Rattle.tfpg_base.specs.Words.{number_of}
use Rattle.tfpg_graph.specs.declared.cause.GraphCause.{GraphCause}
use Rattle.tfpg_graph.specs.declared.kind.Kind.{Kind}
use Rattle.tfpg_graph.specs.declared.kind.Lag.{Lag}
use Rattle.tfpg_graph.specs.declared.kind.Kind.TheVariants.{Failure, Or, And}
use Rattle.tfpg_graph.specs.Graph.{Tfpg, is_failure}
use Rattle.tfpg_graph.specs.Statements.{NodeWords, FailureWords, OrWords, AndWords, DeclaresNode, DeclaresEdge}
use Rattle.tfpg_graph.specs.Declares.{kind_of_words, lag_of_words}
use Rattle.tfpg_base.specs.Choice.{first_of}
use Rattle.tfpg_graph.specs.Causes.{causes, are_failure_words}
use Rattle.tfpg_graph.specs.inside.reading.LineCauses.{node_number_causes, node_name_causes, node_room_causes, edge_name_causes, delay_causes, end_causes, edge_room_causes}
use Rattle.tfpg_graph.specs.inside.reading.Turns.{is_misplaced}
use Rattle.tfpg_base.proofs.lemmas.lists.Choices.{first_of-append_some, first_of-append_none}

-- ---- a node

failure_word : (number : Option ℕ) (kind : Kind) → option_map Failure number ≡ Some kind → true ≡ is_failure kind
failure_word None kind is = absurd cc
failure_word (Some n) kind is = ap is_failure (let same : Failure n ≡ kind = cc in same)

or_word : (lag : Option (Option Lag)) (kind : Kind) → option_map Or lag ≡ Some kind → false ≡ is_failure kind
or_word None kind is = absurd cc
or_word (Some l) kind is = ap is_failure (let same : Or l ≡ kind = cc in same)

and_word : (lag : Option (Option Lag)) (kind : Kind) → option_map And lag ≡ Some kind → false ≡ is_failure kind
and_word None kind is = absurd cc
and_word (Some l) kind is = ap is_failure (let same : And l ≡ kind = cc in same)

-- whether the words are those of a failure mode
failure_words : (words : NodeWords) (kind : Kind) → kind_of_words words ≡ Some kind → are_failure_words words ≡ is_failure kind
failure_words (FailureWords rarity) kind is = failure_word (number_of rarity) kind is
failure_words (OrWords lag) kind is = or_word (lag_of_words lag) kind is
failure_words (AndWords lag) kind is = and_word (lag_of_words lag) kind is

module _ (graph : Tfpg) (name : List ℕ) (words : NodeWords) where
  -- the first cause of the line
  abbrev pub node_cause : Option GraphCause
  node_cause = first_of (causes (is_misplaced graph (DeclaresNode name words)) graph (DeclaresNode name words))

  -- the tests after those of the name
  abbrev node_rest : List (Option GraphCause)
  node_rest = node_number_causes words ++ node_room_causes graph (are_failure_words words)

  pub node_cause-name : (cause : GraphCause) → first_of (node_name_causes graph name) ≡ Some cause → node_cause ≡ Some cause
  node_cause-name cause is = first_of-append_some (node_name_causes graph name) node_rest cause is

  module _ (named : first_of (node_name_causes graph name) ≡ None) where
    pub node_cause-number : (cause : GraphCause) → first_of (node_number_causes words) ≡ Some cause → node_cause ≡ Some cause
    node_cause-number cause is =
        first_of-append_none (node_name_causes graph name) node_rest named ∙ first_of-append_some (node_number_causes words) (node_room_causes graph (are_failure_words words)) cause is

    pub node_cause-room : (kind : Kind) → first_of (node_number_causes words) ≡ None → kind_of_words words ≡ Some kind → node_cause ≡ first_of (node_room_causes graph (is_failure kind))
    node_cause-room kind numbers is =
        first_of-append_none (node_name_causes graph name) node_rest named
        ∙ first_of-append_none (node_number_causes words) (node_room_causes graph (are_failure_words words)) numbers
        ∙ ap (λ failure. first_of (node_room_causes graph failure)) (failure_words words kind is)

-- ---- an edge

module _ (graph : Tfpg) (source target tmin tmax modes : List ℕ) where
  -- the first cause of the line
  abbrev pub edge_cause : Option GraphCause
  edge_cause = first_of (causes (is_misplaced graph (DeclaresEdge source target tmin tmax modes)) graph (DeclaresEdge source target tmin tmax modes))

  abbrev after_ends : List (Option GraphCause)
  after_ends = edge_room_causes graph target modes

  abbrev after_delays : List (Option GraphCause)
  after_delays = end_causes graph source target ++ after_ends

  abbrev after_names : List (Option GraphCause)
  after_names = delay_causes tmin tmax ++ after_delays

  pub edge_cause-name : (cause : GraphCause) → first_of (edge_name_causes graph source target modes) ≡ Some cause → edge_cause ≡ Some cause
  edge_cause-name cause is = first_of-append_some (edge_name_causes graph source target modes) after_names cause is

  module _ (named : first_of (edge_name_causes graph source target modes) ≡ None) where
    to_delays : edge_cause ≡ first_of after_names
    to_delays = first_of-append_none (edge_name_causes graph source target modes) after_names named

    pub edge_cause-delay : (cause : GraphCause) → first_of (delay_causes tmin tmax) ≡ Some cause → edge_cause ≡ Some cause
    edge_cause-delay cause is = to_delays ∙ first_of-append_some (delay_causes tmin tmax) after_delays cause is

    module _ (delayed : first_of (delay_causes tmin tmax) ≡ None) where
      pub edge_cause-end : (cause : GraphCause) → first_of (end_causes graph source target) ≡ Some cause → edge_cause ≡ Some cause
      edge_cause-end cause is = to_delays ∙ first_of-append_none (delay_causes tmin tmax) after_delays delayed ∙ first_of-append_some (end_causes graph source target) after_ends cause is

      pub edge_cause-room : first_of (end_causes graph source target) ≡ None → edge_cause ≡ first_of (edge_room_causes graph target modes)
      edge_cause-room ended = to_delays ∙ first_of-append_none (delay_causes tmin tmax) after_delays delayed ∙ first_of-append_none (end_causes graph source target) after_ends ended
