use Rattle.tfpg_base.proofs.lemmas.Appended.{Appends-err_after}
use Rattle.tfpg_report.proofs.sections.append_section.Goals as goal

pub returns-in_err-append_entry : goal.returns-in_err-append_entry
returns-in_err-append_entry c = Appends-err_after _ _ _ _ _ _ c.from_residual.ensures.0 c.loop-finding.invariant c.in_err-append_entry.ensures
