-- What a checker that took some steps looks like.
use Rattle.std.specs.Prelude.{List, Bool, true, false}
use Rattle.tfpg_graph.specs.Graph.{Tfpg}
use Rattle.tfpg_log.specs.Log.{Logbook}
use Rattle.tfpg_evidence.specs.declared.step.Step.{Step}
use Rattle.tfpg_clause.specs.Case.{Case, case_of}
use Rattle.tfpg_clause.specs.Trees.{Judged, IsRefutation}
use Rattle.tfpg_clause.specs.Paths.{with_step, HasPath}
use Rattle.tfpg_clause.specs.declared.path.PathSplit.{PathSplit}
use Rattle.tfpg_kernel.specs.declared.taken.Taken.{Taken}
use Rattle.tfpg_kernel.specs.declared.taken.Taken.TheVariants.{Bad}
use Rattle.tfpg_kernel.specs.CheckerState.{CheckerState}

-- A checker that is closed represents a refutation, and one that is not a partial tree, whose steps lead to its path.
abbrev pub Represented : Case → List PathSplit → List Judged → Bool → Type 0
Represented case path steps true = IsRefutation case steps
Represented case path steps false = HasPath case steps path

-- The checker represents these steps: it took them, each judged by the first events of this log, and each was right.
pub record CheckerRepresents (graph : Tfpg) (log : Logbook) (checker : CheckerState)
    (steps : List Judged) : Type 0 where
  pub steps_are : Represented (case_of graph log checker.reach) checker.path steps checker.closed

-- the steps taken after a step with this result: a bad one is not among them
abbrev pub steps_after : Taken → List Judged → Logbook → Step → List Judged
steps_after (Bad bad) steps log step = steps
steps_after _ steps log step = with_step steps log step
