-- What the result for a step says.
use Rattle.std.specs.Prelude.{◌≡◌, ◌↔◌, List}
use Rattle.tfpg_evidence.specs.declared.step.Step.{Step}
use Rattle.tfpg_clause.specs.Case.{Case}
use Rattle.tfpg_clause.specs.Trees.{Judged, IsRefutation, IsPartial}
use Rattle.tfpg_clause.specs.Paths.{judged_by, with_step}
use Rattle.tfpg_kernel.specs.declared.taken.Taken.{Taken}
use Rattle.tfpg_kernel.specs.declared.taken.Taken.TheVariants.{Open, Closed, Bad}
use Rattle.tfpg_kernel.specs.declared.taken.BadStep.{BadStep}
use Rattle.tfpg_kernel.specs.CheckerState.{CheckerState}
use Rattle.tfpg_kernel.specs.Breaks.{IsFirstBroken}
use Rattle.tfpg_kernel.specs.Represents.{CheckerRepresents, steps_after}

-- The result is right for a step after these steps, and the checker then represents the steps taken.
pub record IsStepResult (case : Case) (steps : List Judged) (step : Step) (result : Taken)
    (after : CheckerState) : Type 0 where
  pub closed : (result ≡ Closed) ↔ IsRefutation case (with_step steps case.log step)
  pub partial : (result ≡ Open) ↔ IsPartial case (with_step steps case.log step)
  pub bad : (bad : BadStep) → (result ≡ Bad bad) ↔ IsFirstBroken case steps (judged_by case.log step) bad
  pub represents : CheckerRepresents case.graph case.log after (steps_after result steps case.log step)
