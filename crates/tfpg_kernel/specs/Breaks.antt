-- The seven conditions of a step, and the first that it breaks.
use Rattle.std.specs.Prelude.{◌≡◌, ◌⊎◌, pos, ◌≤ℤ◌, List, map, Option, Some, None, is_none}
use Rattle.std.specs.Bool.{then_some}
use Rattle.tfpg_base.specs.Choice.{first_of, each_of}
use Rattle.tfpg_base.specs.declared.constraint.Constraint.{Constraint}
use Rattle.tfpg_evidence.specs.declared.reason.Reason.{Reason}
use Rattle.tfpg_evidence.specs.declared.reason.Reason.TheVariants.{Pick}
use Rattle.tfpg_evidence.specs.declared.step.Step.{Step}
use Rattle.tfpg_evidence.specs.declared.step.Step.TheVariants.{Split, Cycle, Again}
use Rattle.tfpg_clause.specs.Case.{Case, case_at}
use Rattle.tfpg_clause.specs.Clauses.{count_of}
use Rattle.tfpg_clause.specs.Trees.{Judged, TreePlace, stated, IsReusable, IsRefutation, IsPresentLeaf}
use Rattle.tfpg_base.specs.ConstraintCycle.{IsCycle, sum_of}
use Rattle.tfpg_kernel.specs.declared.taken.BadStep.{BadStep}
use Rattle.tfpg_kernel.specs.declared.taken.BadStep.TheVariants.{AfterClosed, NotReusable, NotAClause, NotAFact, NotOnPath, Unchained, NotNegative}

-- what is wrong with a reason that states no constraint
abbrev pub fault_of : Reason → BadStep
fault_of (Pick split number) = NotOnPath
fault_of _ = NotAFact

-- the fault of the first reason that states no constraint, where there is one
abbrev pub reasons_fault : (Reason → Option Constraint) → List Reason → Option BadStep
reasons_fault stated reasons = first_of (map (λ reason. then_some (is_none (stated reason)) (fault_of reason)) reasons)

-- The constraints of a cycle break this condition, and none before it: they do not chain into a cycle; or their sum is not
-- negative.
abbrev pub ClosingBreaks : List Constraint → BadStep → Type 0
ClosingBreaks constraints bad =
    ((bad ≡ Unchained) × (IsCycle constraints → ⊥))
    ⊎ ((bad ≡ NotNegative) × IsCycle constraints × (pos 0 ≤ℤ sum_of constraints))

-- The reasons of a cycle break this condition, and none before it: some reason states no constraint; or the constraints of all
-- break it.
abbrev pub CycleBreaks : (Reason → Option Constraint) → List Reason → BadStep → Type 0
CycleBreaks stated reasons bad =
    (reasons_fault stated reasons ≡ Some bad)
    ⊎ ((constraints : List Constraint) × (each_of (map stated reasons) ≡ Some constraints) × ClosingBreaks constraints bad)

-- The step breaks this condition at a leaf in this place, and none before it.
abbrev pub BreaksAt : Case → TreePlace → Step → BadStep → Type 0
BreaksAt case place (Split name) bad = (bad ≡ NotAClause) × (count_of case.graph case.log name ≡ None)
BreaksAt case place (Cycle reasons) bad = CycleBreaks (stated case place.path) reasons bad
BreaksAt case place Again bad = (bad ≡ NotReusable) × (IsReusable place → ⊥)

-- The step that comes next after these steps breaks this condition, and none before it: they are a refutation already; or it
-- breaks it at the present leaf.
abbrev pub IsFirstBroken : Case → List Judged → Judged → BadStep → Type 0
IsFirstBroken case steps next bad =
    ((bad ≡ AfterClosed) × IsRefutation case steps)
    ⊎ ((place : TreePlace) × IsPresentLeaf case steps place
    × BreaksAt (case_at case next.seen) place next.step bad)
