-- That the checker of refutations takes steps.
use Rattle.std.specs.Prelude.{◌≡◌, ℕ, List, []}
use Rattle.tfpg_graph.specs.Graph.{Tfpg}
use Rattle.tfpg_log.specs.Log.{Logbook}
use Rattle.tfpg_evidence.specs.declared.step.Step.{Step}
use Rattle.tfpg_clause.specs.Trees.{Judged}
use Rattle.tfpg_clause.specs.Paths.{with_step, with_steps}
use Rattle.tfpg_kernel.specs.CheckerState.{CheckerState}
use Rattle.tfpg_kernel.specs.Represents.{CheckerRepresents}

-- The checker took the step, judged by the whole log: it represents one step more, whichever steps it represented.
pub record HasTaken (graph : Tfpg) (log : Logbook) (step : Step) (old new : CheckerState) : Type 0 where
  pub reach : new.reach ≡ old.reach
  pub represents : (steps : List Judged) → CheckerRepresents graph log old steps
      → CheckerRepresents graph log new (with_step steps log step)

-- It took all these steps, and no other.
pub record HasTakenAll (graph : Tfpg) (log : Logbook) (reach : List ℕ) (steps : List Step) (checker : CheckerState) : Type 0 where
  pub reach_is : checker.reach ≡ reach
  pub represents : CheckerRepresents graph log checker (with_steps [] log steps)
