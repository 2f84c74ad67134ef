-- The steps of a tree whose places are right name only what the graph has.
use Rattle.std.proofs.Common.{◌≡◌, ℕ, ltb, List, length, Some, take, sym, ap, ◌∙◌}
use Rattle.std.specs.Prelude.{slice_get, All, map}
use Rattle.std.proofs.Math.Seq.{take-append_seam}
use Rattle.std.proofs.lemmas.Bool.{ltb-true, and_parts}
use Rattle.std.proofs.lemmas.Option.{slice_get_within, option_and_then_some}
use Rattle.std.proofs.lemmas.List.{take-map}
use Rattle.std.proofs.lemmas.List.Elements.{All-take, All-same, All-map, All-weaker}
use Rattle.tfpg_base.proofs.lemmas.lists.Choices.{Contains-each_of, option_map-some, then_some-true}
use Rattle.tfpg_base.proofs.lemmas.lists.Elements.{All-from_members}
use Rattle.tfpg_base.specs.declared.constraint.Constraint.{Constraint}
use Rattle.tfpg_graph.specs.declared.edge.Edge.{Edge}
use Rattle.tfpg_graph.specs.Graph.{Tfpg, sizes_of, is_kind_at, is_or, is_and, edges_into}
use Rattle.tfpg_graph.proofs.lemmas.NodeAt.{kind_within}
use Rattle.tfpg_log.specs.Log.{Logbook, IsLogOf, IsEventOf, first_events, quiet_at}
use Rattle.tfpg_log.specs.Spans.{joint_of}
use Rattle.tfpg_log.proofs.lemmas.events.SilentNodes.{quiet_within}
use Rattle.tfpg_evidence.specs.declared.clause_name.ClauseName.{ClauseName}
use Rattle.tfpg_evidence.specs.declared.clause_name.ClauseName.TheVariants.{OrMay, AndMay, OrMust, AndMust}
use Rattle.tfpg_evidence.specs.declared.reason.Reason.{Reason}
use Rattle.tfpg_evidence.specs.declared.reason.Reason.TheVariants.{Zero, Top, Unreached, From, Upto, Quiet, Pick}
use Rattle.tfpg_evidence.specs.declared.step.Step.{Step}
use Rattle.tfpg_evidence.specs.declared.step.Step.TheVariants.{Split, Cycle, Again}
use Rattle.tfpg_evidence.specs.RoundOf.{IsReasonOf, IsClauseOf, IsStepOf}
use Rattle.tfpg_clause.specs.Clauses.{alternatives}
use Rattle.tfpg_clause.specs.inside.ClausesByKind.{and_may, or_must}
use Rattle.tfpg_clause.proofs.lemmas.rules.RulesMet.{may_holds, must_holds}
use Rattle.tfpg_clause.specs.Case.{Case, case_at}
use Rattle.tfpg_clause.specs.Trees.{stated, IsRightStep, Judged, Chosen, TreePlace, StepPlace, IsRight, IsRefutation, IsPartial, places_of}

-- ---- clauses

-- a clause that is allowed names a node or an edge of the graph
allowed_named : (graph : Tfpg) (log : Logbook) (name : ClauseName) (clause : List (List Constraint))
    → alternatives graph log name ≡ Some clause → IsClauseOf (sizes_of graph) name
allowed_named graph log (OrMay node number horizon) clause is =
    kind_within graph is_or node (may_holds log (is_kind_at is_or graph node) node (edges_into graph node) number horizon clause is)
allowed_named graph log (AndMay edge number horizon) clause is =
    option_and_then_some (λ (e : Edge). and_may graph log e number horizon) (slice_get graph.edges edge) clause is
    (λ e at rest. slice_get_within graph.edges edge e at)
allowed_named graph log (OrMust edge number horizon) clause is =
    option_and_then_some (λ (e : Edge). or_must graph log e number horizon) (slice_get graph.edges edge) clause is
    (λ e at rest. slice_get_within graph.edges edge e at)
allowed_named graph log (AndMust node number horizon) clause is =
    kind_within graph is_and node
    (must_holds log (is_kind_at is_and graph node) node (edges_into graph node)
    (joint_of graph log node number horizon) number horizon clause is)

-- the first events of a log of the graph are one
first_events_of : (graph : Tfpg) (log : Logbook) (seen : ℕ) → IsLogOf graph log → IsLogOf graph (first_events log seen)
first_events_of graph log seen of = record { own = All-take (IsEventOf graph) seen log.events of.own; ignored = of.ignored }

-- ---- reasons and steps

-- a reason that states a constraint names no node but those of the graph
stated_named : (case : Case) (path : List Chosen) → IsLogOf case.graph case.log → (reason : Reason) (constraint : Constraint)
    → stated case path reason ≡ Some constraint → IsReasonOf (sizes_of case.graph) reason
stated_named case path of (Zero node) constraint is =
    ltb-true node (length case.graph.nodes) (then_some-true (ltb node (length case.graph.nodes)) _ constraint is).0
stated_named case path of (Top node) constraint is =
    ltb-true node (length case.graph.nodes) (then_some-true (ltb node (length case.graph.nodes)) _ constraint is).0
stated_named case path of (Unreached node horizon) constraint is =
    ltb-true node (length case.graph.nodes) (and_parts (ltb node (length case.graph.nodes)) _ (then_some-true _ _ constraint is).0).0
stated_named case path of (From event) constraint is = tt
stated_named case path of (Upto event) constraint is = tt
stated_named case path of (Quiet event node) constraint is =
    let silence = option_map-some _ (quiet_at case.graph case.log event node) constraint is in
    quiet_within case.graph case.log event node silence.0 of silence.1
stated_named case path of (Pick split index) constraint is = tt

-- a right step names only what the graph has
right_named : (case : Case) (place : TreePlace) (subtrees : ℕ) → IsLogOf case.graph case.log → (step : Step)
    → IsRightStep case place subtrees step
    → IsStepOf (sizes_of case.graph) step
right_named case place subtrees of (Split name) right =
    let clause = option_map-some length (alternatives case.graph case.log name) subtrees right in
    allowed_named case.graph case.log name clause.0 clause.1
right_named case place subtrees of (Cycle reasons) right =
    All-from_members (IsReasonOf (sizes_of case.graph)) reasons
    (λ reason has.
    let states = Contains-each_of (stated case place.path) reasons right.constraints reason right.hold has in
    stated_named case place.path of reason states.0 states.2)
right_named case place subtrees of Again right = tt

-- ---- trees

-- The judged steps name only what the graph has.
abbrev pub AreStepsOfGraph : Tfpg → List Judged → Type 0
AreStepsOfGraph graph steps = All (λ (judged : Judged). IsStepOf (sizes_of graph) judged.step) steps

-- The steps of a tree whose log is one of its graph.
module _ (case : Case) (of : IsLogOf case.graph case.log) where
  places_named : (places : List StepPlace) → All (IsRight case) places
      → AreStepsOfGraph case.graph (map (λ (place : StepPlace). place.step) places)
  places_named places right =
      All-map (λ (judged : Judged). IsStepOf (sizes_of case.graph) judged.step) (λ (place : StepPlace). place.step) places
      (All-weaker (IsRight case) (λ (place : StepPlace). IsStepOf (sizes_of case.graph) place.step.step)
      (λ place is. right_named (case_at case place.step.seen) place.place place.subtrees
      (first_events_of case.graph case.log place.step.seen of) place.step.step is) places right)

  -- those of a refutation
  pub refutation_named : (steps : List Judged) → IsRefutation case steps → AreStepsOfGraph case.graph steps
  refutation_named steps is =
      All-same (λ (judged : Judged). IsStepOf (sizes_of case.graph) judged.step) steps
      (map (λ (place : StepPlace). place.step) (places_of is.tree)) is.steps_are
      (places_named (places_of is.tree) is.right)

  -- those of a partial tree
  pub partial_named : (steps : List Judged) → IsPartial case steps → AreStepsOfGraph case.graph steps
  partial_named steps is =
      let front : steps ≡ take (length steps) (map (λ (place : StepPlace). place.step) (places_of is.tree)) =
      sym (take-append_seam steps is.more) ∙ ap (take (length steps)) is.steps_are
      in
      All-same (λ (judged : Judged). IsStepOf (sizes_of case.graph) judged.step) steps
      (map (λ (place : StepPlace). place.step) (take (length steps) (places_of is.tree)))
      (front ∙ take-map (λ (place : StepPlace). place.step) (length steps) (places_of is.tree))
      (places_named (take (length steps) (places_of is.tree)) is.right)
