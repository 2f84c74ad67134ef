use Rattle.std.proofs.Common.{◌∙◌}
use Rattle.tfpg_base.proofs.lemmas.Traces.{time_of-stands, time_of-absent}
use Rattle.tfpg_base.proofs.trace.Trace.at.Goals as goal

pub returns-in-Ok : goal.returns-in-Ok
returns-in-Ok c = cc (time_of-stands _ _ _ c.index.result.now c.in-Ok.ensures.found, c.deref.ensures.value ∙ c.self.view_is)

pub returns-in-Err : goal.returns-in-Err
returns-in-Err c = cc (time_of-absent _ _ _ c.in-Err.ensures.absent, c.deref.ensures.value ∙ c.self.view_is)
