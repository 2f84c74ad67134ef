use Rattle.std.proofs.Common.{Some, ap, ◌∙◌}
use Rattle.tfpg_embed.proofs.lemmas.SessionCalls.{line_refused, line_taken, line_too_late}
use Rattle.tfpg_embed.proofs.session.calls.tfpg_line.Goals as goal

pub returns-in-Ok-clause-answers : goal.returns-in-Ok-clause-answers
returns-in-Ok-clause-answers c = line_taken _ _ _ _ _ _ c.in-Ok.count c.in-Ok.count (ap Some c.deref_mut.ensures.value ∙ c.in-Some.ensures.taken) c.put.ensures c.in-Ok.ensures.block c.in-Ok.ensures.work c.in-Ok.ensures.count c.in-Ok.ensures.ended c.with_count.ensures

pub returns-in-Err-clause-answers : goal.returns-in-Err-clause-answers
returns-in-Err-clause-answers c = line_refused _ _ _ _ _ c.in-Err.fault (ap Some c.deref_mut.ensures.value ∙ c.in-Some.ensures.taken) c.in-Some.ensures.closed c.in-Err.ensures.ended c.of_event_fault.ensures

pub returns-in_default-clause-answers : goal.returns-in_default-clause-answers
returns-in_default-clause-answers c = line_too_late _ _ _ _ c.in_default.ensures.taken c.in_default.ensures.closed c.plain.ensures
