use Rattle.tfpg_base.proofs.lemmas.Appended.{Appends-err_after}
use Rattle.tfpg_report.proofs.steps_block.append_each_step.Goals as goal

pub returns-in_err-append_step : goal.returns-in_err-append_step
returns-in_err-append_step c = Appends-err_after _ _ _ _ _ _ c.from_residual.ensures.0 c.loop-step.invariant c.in_err-append_step.ensures
