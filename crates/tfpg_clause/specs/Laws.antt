-- What the laws on clauses and trees say, each by its name, so that crates above can name what they rest on.
use Rattle.std.specs.Prelude.{◌≡◌, ℕ, ◌<◌, ◌≤◌, List, [], ◌∷◌, ◌++◌, length, All, Some, None, pos, ◌↔◌, slice_index}
use Rattle.tfpg_base.specs.declared.constraint.Constraint.{Constraint}
use Rattle.tfpg_base.specs.Constraint.{Meets}
use Rattle.tfpg_graph.specs.Graph.{Tfpg, edges_into}
use Rattle.tfpg_graph.specs.Valid.{IsValid}
use Rattle.tfpg_log.specs.Log.{Logbook, GoesOn, IsOrdered, first_events}
use Rattle.tfpg_evidence.specs.declared.clause_name.ClauseName.{ClauseName}
use Rattle.tfpg_evidence.specs.declared.reason.Reason.{Reason}
use Rattle.tfpg_evidence.specs.declared.step.Step.{Step}
use Rattle.tfpg_base.specs.Bounds.{at_least, at_most}
use Rattle.tfpg_clause.specs.Case.{Case, at_log}
use Rattle.tfpg_clause.specs.Facts.{fact}
use Rattle.tfpg_clause.specs.Clauses.{alternatives, count_of, alternatives_limit, IsSmall}
use Rattle.tfpg_clause.specs.Trees.{Judged, Chosen, TreePlace, stated, IsReusable, IsRefutation, IsPartial, IsPresentLeaf}
use Rattle.tfpg_clause.specs.Paths.{with_step, MovesTo, HasPath, IsPathOf, IsRightNext}
use Rattle.tfpg_clause.specs.declared.path.PathSplit.{PathSplit}

-- Times meet the bound "at least so much" exactly where the time of its node is at least so much.
abbrev pub LowerBoundsHold : Type 0
LowerBoundsHold =
    (times : List ℕ) (node bound : ℕ) → Meets times (at_least node bound) ↔ (bound ≤ slice_index times node)

-- Times meet the bound "at most so much" exactly where the time of its node is at most so much.
abbrev pub UpperBoundsHold : Type 0
UpperBoundsHold =
    (times : List ℕ) (node bound : ℕ) → Meets times (at_most node (pos bound)) ↔ (slice_index times node ≤ bound)

-- An allowed clause has an alternative.
abbrev pub AllowedClausesHaveAlternatives : Type 0
AllowedClausesHaveAlternatives =
    (graph : Tfpg) (log : Logbook) (name : ClauseName) (count : ℕ) → count_of graph log name ≡ Some count → 0 < count

-- Where at most `maximum` edges enter any node, an allowed clause has fewer than `alternatives_limit maximum` alternatives.
abbrev pub AllowedClausesAreShort : Type 0
AllowedClausesAreShort =
    (graph : Tfpg) (log : Logbook) (maximum : ℕ) → ((node : ℕ) → length (edges_into graph node) ≤ maximum)
    → (name : ClauseName) (count : ℕ) → count_of graph log name ≡ Some count → count < alternatives_limit maximum

-- Each alternative of an allowed clause has at most three constraints, and these are on nodes of the graph.
abbrev pub AllowedClausesAreSmall : Type 0
AllowedClausesAreSmall =
    (graph : Tfpg) (log : Logbook) (name : ClauseName) (clause : List (List Constraint)) → IsValid graph
    → alternatives graph log name ≡ Some clause → All (IsSmall (length graph.nodes)) clause

-- A log goes on from its first events.
abbrev pub LogsGoOnFromTheirFirstEvents : Type 0
LogsGoOnFromTheirFirstEvents =
    (log : Logbook) (seen : ℕ) → GoesOn (first_events log seen) log

-- A clause that is allowed at a log is allowed, with the same constraints, at each log that goes on from it.
abbrev pub AllowedClausesStay : Type 0
AllowedClausesStay =
    (graph : Tfpg) (earlier later : Logbook) (name : ClauseName) (clause : List (List Constraint)) → IsOrdered later
    → GoesOn earlier later
    → alternatives graph earlier name ≡ Some clause → alternatives graph later name ≡ Some clause

-- What a reason states as a fact at a log, it states at each log that goes on from it.
abbrev pub FactsStay : Type 0
FactsStay =
    (case : Case) (later : Logbook) (reason : Reason) (stated : Constraint) → IsOrdered later → GoesOn case.log later
    → fact case reason ≡ Some stated → fact (at_log case later) reason ≡ Some stated

-- What a reason states on a path at a log, it states there at each log that goes on from it.
abbrev pub StatedConstraintsStay : Type 0
StatedConstraintsStay =
    (case : Case) (later : Logbook) (path : List Chosen) (reason : Reason) (constraint : Constraint)
    → IsOrdered later → GoesOn case.log later
    → stated case path reason ≡ Some constraint → stated (at_log case later) path reason ≡ Some constraint

-- What a partial tree begins with is a partial tree.
abbrev pub FrontsOfPartialTreesArePartial : Type 0
FrontsOfPartialTreesArePartial =
    (case : Case) (front back : List Judged) → IsPartial case (front ++ back) → IsPartial case front

-- What a refutation begins with is a partial tree, where at least one step comes after.
abbrev pub FrontsOfRefutationsArePartial : Type 0
FrontsOfRefutationsArePartial =
    (case : Case) (front : List Judged) (next : Judged) (back : List Judged) → IsRefutation case (front ++ next ∷ back)
    → IsPartial case front

-- Without a step the path is that of the root.
abbrev pub TreesBeginAtTheRoot : Type 0
TreesBeginAtTheRoot = (case : Case) → HasPath case [] []

-- After a step that is right at the leaf of a path and moves to a next leaf, the path is that of the next leaf.
abbrev pub PathsFollowSteps : Type 0
PathsFollowSteps =
    (case : Case) (steps : List Judged) (path next : List PathSplit) (step : Step) → HasPath case steps path
    → MovesTo case path step (Some next) → HasPath case (with_step steps case.log step) next

-- After a step that is right at the leaf of a path, and from which no leaf is left, the steps are a refutation.
abbrev pub LastLeavesEndInRefutations : Type 0
LastLeavesEndInRefutations =
    (case : Case) (steps : List Judged) (path : List PathSplit) (step : Step) → HasPath case steps path
    → MovesTo case path step None → IsRefutation case (with_step steps case.log step)

-- A path that steps lead to is that of their present leaf, and its last mark says whether a subtree is reusable there.
abbrev pub PathsAreThoseOfPresentLeaves : Type 0
PathsAreThoseOfPresentLeaves =
    (case : Case) (steps : List Judged) (path : List PathSplit) → HasPath case steps path
    → (place : TreePlace) × IsPresentLeaf case steps place × IsPathOf path place

-- A partial tree has a present leaf.
abbrev pub PartialTreesHaveAPresentLeaf : Type 0
PartialTreesHaveAPresentLeaf =
    (case : Case) (steps : List Judged) → IsPartial case steps
    → (place : TreePlace) × IsPresentLeaf case steps place

-- A partial tree has no two present leaves: the path to them is one, and a subtree is reusable at both or at none.
abbrev pub PresentLeavesAreAlone : Type 0
PresentLeavesAreAlone =
    (case : Case) (steps : List Judged) (one other : TreePlace) → IsPresentLeaf case steps one
    → IsPresentLeaf case steps other → (one.path ≡ other.path) × (IsReusable one ↔ IsReusable other)

-- A present leaf at a log is one at each log that goes on from it.
abbrev pub PresentLeavesStay : Type 0
PresentLeavesStay =
    (case : Case) (later : Logbook) (steps : List Judged) (place : TreePlace) → IsOrdered later
    → GoesOn case.log later → IsPresentLeaf case steps place → IsPresentLeaf (at_log case later) steps place

-- A path that steps lead to at a log is one at each log that goes on from it.
abbrev pub PathsStay : Type 0
PathsStay =
    (case : Case) (later : Logbook) (steps : List Judged) (path : List PathSplit) → IsOrdered later
    → GoesOn case.log later → HasPath case steps path → HasPath (at_log case later) steps path

-- A partial tree at a log is one at each log that goes on from it.
abbrev pub PartialTreesStay : Type 0
PartialTreesStay =
    (case : Case) (later : Logbook) (steps : List Judged) → IsOrdered later → GoesOn case.log later
    → IsPartial case steps → IsPartial (at_log case later) steps

-- A refutation at a log is one at each log that goes on from it.
abbrev pub RefutationsStay : Type 0
RefutationsStay =
    (case : Case) (later : Logbook) (steps : List Judged) → IsOrdered later → GoesOn case.log later
    → IsRefutation case steps → IsRefutation (at_log case later) steps

-- A refutation is no partial tree: no step comes after it.
abbrev pub RefutationsAreNotPartial : Type 0
RefutationsAreNotPartial = (case : Case) (steps : List Judged) → IsRefutation case steps → IsPartial case steps → ⊥

-- The last step of a refutation is right at the present leaf of the steps before it.
abbrev pub LastStepsOfRefutationsAreRight : Type 0
LastStepsOfRefutationsAreRight =
    (case : Case) (steps : List Judged) (last : Judged) → IsRefutation case (steps ++ last ∷ [])
    → IsRightNext case steps last

-- The last step of a partial tree is right at the present leaf of the steps before it.
abbrev pub LastStepsOfPartialTreesAreRight : Type 0
LastStepsOfPartialTreesAreRight =
    (case : Case) (steps : List Judged) (last : Judged) → IsPartial case (steps ++ last ∷ [])
    → IsRightNext case steps last
