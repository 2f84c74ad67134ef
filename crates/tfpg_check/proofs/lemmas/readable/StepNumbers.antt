-- What right steps of a log within its limits name has small numbers.
use Rattle.std.proofs.Common.{◌≡◌, ℕ, ◌+◌, ◌≤◌, leb, ltb, not, ◌&&◌, List, [], ◌∷◌, ◌++◌, length, take, Option, Some, zero, suc, sym, ap, ◌∙◌, subst, arith, append-nil}
use Rattle.std.specs.Prelude.{option_and_then, slice_get}
use Rattle.std.specs.List.{All, Contains}
use Rattle.std.proofs.lemmas.Bool.{leb-true, and_parts}
use Rattle.std.proofs.lemmas.List.{length-take}
use Rattle.std.proofs.lemmas.List.Elements.{All-contains, All-take}
use Rattle.std.proofs.lemmas.Option.{option_and_then_some, slice_get_within, slice_get-map}
use Rattle.tfpg_base.specs.Choice.{item_at}
use Rattle.tfpg_base.specs.declared.constraint.Constraint.{Constraint}
use Rattle.tfpg_base.specs.declared.limits.TheConstants.{MAX_LINE_NUMBER, MAX_TIME}
use Rattle.tfpg_base.proofs.lemmas.lists.Choices.{Contains-each_of, option_map-some, then_some-true}
use Rattle.tfpg_base.proofs.lemmas.lists.Cuts.{slice_get-take}
use Rattle.tfpg_base.proofs.lemmas.lists.Written.{slice_get-append_some}
use Rattle.tfpg_base.proofs.lemmas.lists.Elements.{All-at, All-from_indexes, All-from_members, Contains-at}
use Rattle.tfpg_graph.specs.declared.edge.Edge.{Edge}
use Rattle.tfpg_graph.specs.Graph.{Tfpg, edges_into, is_and, is_kind_at, is_or}
use Rattle.tfpg_graph.specs.Valid.{IsValid}
use Rattle.tfpg_log.specs.declared.event.Event.{Event}
use Rattle.tfpg_log.specs.declared.limits.TheConstants.{MAX_EVENTS}
use Rattle.tfpg_log.specs.Log.{Logbook, first_events, now_of, quiet_at, time_of_event, event_at}
use Rattle.tfpg_log.specs.Spans.{joint_of, window_of}
use Rattle.tfpg_log.proofs.lemmas.events.NodesEvents.{event_within}
use Rattle.tfpg_log.proofs.lemmas.events.Order.{last_upto}
use Rattle.tfpg_log.proofs.lemmas.events.SilenceTimes.{quiet_by, silence_event}
use Rattle.tfpg_evidence.specs.declared.clause_name.ClauseName.{ClauseName}
use Rattle.tfpg_evidence.specs.declared.clause_name.ClauseName.TheVariants.{OrMay, AndMay, OrMust, AndMust}
use Rattle.tfpg_evidence.specs.declared.reason.Reason.{Reason}
use Rattle.tfpg_evidence.specs.declared.reason.Reason.TheVariants.{Zero, Top, Unreached, From, Upto, Quiet, Pick}
use Rattle.tfpg_evidence.specs.declared.step.Step.{Step}
use Rattle.tfpg_evidence.specs.declared.step.Step.TheVariants.{Split, Cycle, Again}
use Rattle.tfpg_evidence.specs.declared.finding.Finding.{Finding}
use Rattle.tfpg_evidence.specs.declared.finding.Status.{Status}
use Rattle.tfpg_evidence.specs.declared.finding.Status.TheVariants.{Ranked, Covered, Rejected, Open}
use Rattle.tfpg_base.specs.Bounds.{at_least}
use Rattle.tfpg_graph.specs.Reach.{is_among}
use Rattle.tfpg_clause.specs.Case.{Case, case_of}
use Rattle.tfpg_clause.specs.Clauses.{IsSmall, alternatives, constraint_at}
use Rattle.tfpg_clause.specs.inside.ClausesByKind.{and_may, or_must}
use Rattle.tfpg_clause.specs.declared.limits.TheConstants.{MAX_CONSTRAINTS}
use Rattle.tfpg_clause.specs.Facts.{from_alarm, upto_alarm}
use Rattle.tfpg_clause.specs.Order.{span_of}
use Rattle.tfpg_clause.specs.Trees.{Chosen, IsPartial, IsRefutation, IsRight, IsRightStep, Judged, TreePlace, StepPlace, Tree, picked, places_of, stated, steps_of}
use Rattle.tfpg_clause.proofs.lemmas.alternatives.SmallAlternatives.{small_clause}
use Rattle.tfpg_clause.proofs.lemmas.logs.StaysAllowed.{allowed_by_now, must_has_window}
use Rattle.tfpg_hyp.specs.Rounds.{HasEvidence}
use Rattle.tfpg_check.proofs.lemmas.readable.PathsOfTrees.{path_short}
use Rattle.tfpg_check.proofs.lemmas.readable.SmallNumbers.{HasSmallName, HasSmallReason}
use Rattle.tfpg_check.proofs.lemmas.readable.SpansOfLogs.{some_span_few}

-- The log is within its limits: it has few events, and none is too late.
pub record IsWithin (log : Logbook) : Type 0 where
  pub few : length log.events ≤ MAX_EVENTS
  pub in_range : All (λ event. time_of_event event ≤ MAX_TIME) log.events

-- so are its first events
first_within : (log : Logbook) (seen : ℕ) → IsWithin log → IsWithin (first_events log seen)
first_within log seen within =
    let few = within.few in
    record { few = omega (arith, few, length-take seen log.events); in_range = All-take (λ event. time_of_event event ≤ MAX_TIME) seen log.events within.in_range }

-- its time is not too late
pub now_within : (log : Logbook) → IsWithin log → now_of log ≤ MAX_TIME
now_within log within = last_upto log.events 0 MAX_TIME (omega arith) within.in_range

-- What a step names has small numbers.
abbrev pub HasSmallStep : Step → Type 0
HasSmallStep (Split name) = HasSmallName name
HasSmallStep (Cycle reasons) = All HasSmallReason reasons
HasSmallStep Again = Unit {0}

-- what is at a number is not past the end,
item_within : {X : Type 0} (items : List X) (number : ℕ) (x : X) → item_at items number ≡ Some x → number ≤ length items
item_within items zero x at = absurd cc
item_within items (suc before) x at = omega (arith, slice_get_within items before x at)

-- and it is one of the items
item_contained : {X : Type 0} (items : List X) (number : ℕ) (x : X) → item_at items number ≡ Some x → Contains items x
item_contained items zero x at = absurd cc
item_contained items (suc before) x at = Contains-at items before x at

module _ (graph : Tfpg) (valid : IsValid graph) (log : Logbook) (within : IsWithin log) where
  -- ---- clauses

  -- the span of an allowed clause
  allowed_few : (name : ClauseName) (clause : List (List Constraint)) → alternatives graph log name ≡ Some clause → span_of name ≤ length log.events
  allowed_few (OrMay node number horizon) clause is = some_span_few log number horizon _ clause is
  allowed_few (AndMay edge number horizon) clause is =
      option_and_then_some (λ (e : Edge). and_may graph log e number horizon) (slice_get graph.edges edge) clause is (λ e at rest. some_span_few log number horizon _ clause rest)
  allowed_few (OrMust edge number horizon) clause is =
      option_and_then_some (λ (e : Edge). or_must graph log e number horizon) (slice_get graph.edges edge) clause is
      (λ e at rest. (
      let w = must_has_window log (is_kind_at is_or graph e.target) e.target (e ∷ []) (window_of log e number horizon) number horizon clause rest in
      some_span_few log number horizon _ w.0 w.1
      ))
  allowed_few (AndMust node number horizon) clause is =
      let w = must_has_window log (is_kind_at is_and graph node) node (edges_into graph node) (joint_of graph log node number horizon) number horizon clause is in
      some_span_few log number horizon _ w.0 w.1

  allowed_small : (name : ClauseName) (clause : List (List Constraint)) → alternatives graph log name ≡ Some clause → HasSmallName name
  allowed_small name clause is =
      let few = within.few in
      (omega (arith, allowed_few name clause is, few), omega (arith, allowed_by_now graph log name clause is, now_within log within))

  -- ---- reasons

  -- the number of a constraint of an allowed clause is small
  constraint_few : (name : ClauseName) (clause : List (List Constraint)) (alternative number : ℕ) (constraint : Constraint) → alternatives graph log name ≡ Some clause
      → constraint_at clause alternative number ≡ Some constraint → number ≤ MAX_CONSTRAINTS
  constraint_few name clause alternative number constraint is at =
      option_and_then_some (λ (constraints : List Constraint). item_at constraints number) (item_at clause alternative) constraint at
      (λ constraints there rest. (
      let small = All-contains (IsSmall (length graph.nodes)) clause constraints (small_clause graph valid log name clause is) (item_contained clause alternative constraints there) in
      let few = small.few in
      omega (arith, few, item_within constraints number constraint rest)
      ))

  picked_small : (path : List Chosen) (split number : ℕ) (constraint : Constraint) → picked graph log path split number ≡ Some constraint → (split ≤ length path) × (number ≤ MAX_CONSTRAINTS)
  picked_small path split number constraint is =
      option_and_then_some
      (λ (taken : Chosen). option_and_then (λ (clause : List (List Constraint)). constraint_at clause taken.alternative number) (alternatives graph log taken.name)) (item_at path split) constraint is
      (λ taken there rest. (
        item_within path split taken there,
        option_and_then_some (λ (clause : List (List Constraint)). constraint_at clause taken.alternative number) (alternatives graph log taken.name) constraint rest
            (λ clause allowed at. constraint_few taken.name clause taken.alternative number constraint allowed at),
      ))

  alarm_few : (event : ℕ) (f : Event → Option Constraint) (constraint : Constraint) → option_and_then f (event_at log event) ≡ Some constraint → event ≤ length log.events
  alarm_few event f constraint is = option_and_then_some f (event_at log event) constraint is (λ there at rest. event_within log there event at)

  -- a reason that states a constraint on a path that is not too long has small numbers
  stated_small : (reach : List ℕ) (path : List Chosen) → length path ≤ MAX_LINE_NUMBER → (reason : Reason) (constraint : Constraint)
      → stated (case_of graph log reach) path reason ≡ Some constraint → HasSmallReason reason
  stated_small reach path short (Zero node) constraint is = tt
  stated_small reach path short (Top node) constraint is = tt
  stated_small reach path short (Unreached node horizon) constraint is =
      let tests = then_some-true (ltb node (length graph.nodes) && (leb horizon (now_of log) && not (is_among reach node))) (at_least node (horizon + 1)) constraint is in
      let upto = (and_parts (leb horizon (now_of log)) _ (and_parts (ltb node (length graph.nodes)) _ tests.0).1).0 in
      omega (arith, leb-true horizon (now_of log) upto, now_within log within)
  stated_small reach path short (From event) constraint is =
      let few = within.few in
      omega (arith, few, alarm_few event (from_alarm graph log) constraint is)
  stated_small reach path short (Upto event) constraint is =
      let few = within.few in
      omega (arith, few, alarm_few event (upto_alarm graph log) constraint is)
  stated_small reach path short (Quiet event node) constraint is =
      let few = within.few in
      let told = option_map-some (λ (time : ℕ). at_least node (time + 1)) (quiet_at graph log event node) constraint is in
      let by = quiet_by graph log node event told.0 told.1 in
      let silence = silence_event graph log node event by.time by.silent in
      omega (arith, few, event_within log silence.event event silence.there)
  stated_small reach path short (Pick split number) constraint is =
      let small = picked_small path split number constraint is in
      (omega (arith, small.0, short), omega (arith, small.1))

  -- ---- steps

  -- a right step names what has small numbers
  right_small : (reach : List ℕ) (place : TreePlace) (subtrees : ℕ) → length place.path ≤ MAX_LINE_NUMBER → (step : Step) → IsRightStep (case_of graph log reach) place subtrees step → HasSmallStep step
  right_small reach place subtrees short (Split name) right =
      let clause = option_map-some length (alternatives graph log name) subtrees right in
      allowed_small name clause.0 clause.1
  right_small reach place subtrees short (Cycle reasons) right =
      All-from_members HasSmallReason reasons
      (λ reason has. (
      let states = Contains-each_of (stated (case_of graph log reach) place.path) reasons right.constraints reason right.hold has in
      stated_small reach place.path short reason states.0 states.2
      ))
  right_small reach place subtrees short Again right = tt

-- ---- trees

module _ (case : Case) (valid : IsValid case.graph) (within : IsWithin case.log) where
  -- So do the first steps of a tree, where its places are right and they are not too many.
  tree_small : (tree : Tree) (steps more : List Judged) → steps ++ more ≡ steps_of tree → All (IsRight case) (take (length steps) (places_of tree)) → length steps ≤ MAX_LINE_NUMBER
      → All (λ judged. HasSmallStep judged.step) steps
  tree_small tree steps more are right few =
      All-from_indexes (λ judged. HasSmallStep judged.step) steps
      (λ index judged at. (
      let before = slice_get_within steps index judged at in
      let there : slice_get (steps_of tree) index ≡ Some judged = ap (λ (all : List Judged). slice_get all index) (sym are) ∙ slice_get-append_some steps more index judged at in
      let place = option_map-some (λ (place : StepPlace). place.step) (slice_get (places_of tree) index) judged (sym (slice_get-map (λ (place : StepPlace). place.step) (places_of tree) index) ∙ there) in
      let own = All-at (IsRight case) (take (length steps) (places_of tree)) index place.0 right (slice_get-take (length steps) (places_of tree) index before ∙ place.1) in
      subst (λ (j : Judged). HasSmallStep j.step) place.2
      (right_small case.graph valid (first_events case.log place.0.step.seen) (first_within case.log place.0.step.seen within) case.reach place.0.place place.0.subtrees
      (omega (arith, path_short tree index place.0 place.1, before, few)) place.0.step.step own)
      ))

  partial_small : (steps : List Judged) → IsPartial case steps → length steps ≤ MAX_LINE_NUMBER → All (λ judged. HasSmallStep judged.step) steps
  partial_small steps is few = tree_small is.tree steps is.more is.steps_are is.right few

  refutation_small : (steps : List Judged) → IsRefutation case steps → length steps ≤ MAX_LINE_NUMBER → All (λ judged. HasSmallStep judged.step) steps
  refutation_small steps is few =
      tree_small is.tree steps [] (append-nil steps ∙ is.steps_are) (All-take (IsRight case) (length steps) (places_of is.tree) is.right) few

  -- So do the steps of a finding, whatever its status.
  pub evidence_small : (budget : ℕ) (findings : List Finding) (steps : List Judged) (finding : Finding) (status : Status) → HasEvidence case budget findings steps finding status
      → length steps ≤ MAX_LINE_NUMBER → All (λ judged. HasSmallStep judged.step) steps
  evidence_small budget findings steps finding (Ranked trace cost alarmed monitored) own few = partial_small steps own.0 few
  evidence_small budget findings steps finding (Covered by) own few = partial_small steps own.0 few
  evidence_small budget findings steps finding Rejected own few = refutation_small steps own few
  evidence_small budget findings steps finding Open own few = partial_small steps own.0 few
