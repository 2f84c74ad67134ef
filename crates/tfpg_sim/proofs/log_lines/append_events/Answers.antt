use Rattle.tfpg_base.proofs.lemmas.Appended.{Appends-err_after}
use Rattle.tfpg_sim.proofs.log_lines.append_events.Goals as goal

pub returns-in_err-append_event : goal.returns-in_err-append_event
returns-in_err-append_event c = Appends-err_after _ _ _ _ _ _ c.from_residual.ensures.0 c.loop-event.invariant c.in_err-append_event.ensures
