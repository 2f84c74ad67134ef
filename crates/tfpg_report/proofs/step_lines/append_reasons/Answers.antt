use Rattle.tfpg_base.proofs.lemmas.Appended.{Appends-err_after}
use Rattle.tfpg_report.proofs.step_lines.append_reasons.Goals as goal

pub returns-in_err-append_reason : goal.returns-in_err-append_reason
returns-in_err-append_reason c = Appends-err_after _ _ _ _ _ _ c.from_residual.ensures.0 c.loop-reason.invariant c.in_err-append_reason.ensures
