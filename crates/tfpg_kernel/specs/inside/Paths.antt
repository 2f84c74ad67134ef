-- What a step does to the path of a checker.
use Rattle.std.specs.Prelude.{◌≡◌, List, true, false, Some, None}
use Rattle.tfpg_graph.specs.Graph.{Tfpg}
use Rattle.tfpg_log.specs.Log.{Logbook}
use Rattle.tfpg_evidence.specs.declared.step.Step.{Step}
use Rattle.tfpg_evidence.specs.declared.step.Step.TheVariants.{Split, Cycle, Again}
use Rattle.tfpg_clause.specs.Case.{Case, case_of}
use Rattle.tfpg_clause.specs.Clauses.{count_of}
use Rattle.tfpg_clause.specs.Trees.{stated}
use Rattle.tfpg_clause.specs.Paths.{chosen_on, IsMarkedReusable, MovesTo}
use Rattle.tfpg_clause.specs.declared.path.PathSplit.{PathSplit}
use Rattle.tfpg_kernel.specs.declared.taken.Taken.{Taken}
use Rattle.tfpg_kernel.specs.declared.taken.Taken.TheVariants.{Open, Closed, Bad}
use Rattle.tfpg_kernel.specs.CheckerState.{CheckerState}
use Rattle.tfpg_kernel.specs.declared.taken.BadStep.{BadStep}
use Rattle.tfpg_kernel.specs.declared.taken.BadStep.TheVariants.{NotReusable, NotAClause}
use Rattle.tfpg_kernel.specs.Breaks.{CycleBreaks}

-- the case that a checker judges by
abbrev pub case_of_checker : Tfpg → Logbook → CheckerState → Case
case_of_checker graph log checker = case_of graph log checker.reach

-- The step breaks this condition at the leaf of a path with marks, and none before it.
abbrev pub BreaksOn : Case → List PathSplit → Step → BadStep → Type 0
BreaksOn case path (Split name) bad = (bad ≡ NotAClause) × (count_of case.graph case.log name ≡ None)
BreaksOn case path (Cycle reasons) bad = CycleBreaks (stated case (chosen_on path)) reasons bad
BreaksOn case path Again bad = (bad ≡ NotReusable) × (IsMarkedReusable path → ⊥)

-- what a checker that is not closed does at a step
abbrev pub Moves : Tfpg → Logbook → CheckerState → Step → Taken → CheckerState → Type 0
Moves graph log old step Open new =
    MovesTo (case_of_checker graph log old) old.path step (Some new.path) × (new.closed ≡ false)
Moves graph log old step Closed new = MovesTo (case_of_checker graph log old) old.path step None × (new.closed ≡ true)
Moves graph log old step (Bad bad) new = BreaksOn (case_of_checker graph log old) old.path step bad × (new ≡ old)
