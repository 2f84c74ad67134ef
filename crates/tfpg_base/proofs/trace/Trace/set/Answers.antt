use Rattle.std.proofs.Common.{◌∙◌}
use Rattle.tfpg_base.proofs.lemmas.Traces.{TimesAfter-with_time, with_time-stands, with_time-absent}
use Rattle.tfpg_base.proofs.trace.Trace.set.Goals as goal

pub returns-in-Ok-clause-list : goal.returns-in-Ok-clause-list
returns-in-Ok-clause-list c =
    cc (with_time-stands _ c.args.node c.args.time _ c.in-Ok.ensures.found, c.deref.ensures.value ∙ c.self.view_is)

pub returns-in_ok-insert-in-Err-clause-list : goal.returns-in_ok-insert-in-Err-clause-list
returns-in_ok-insert-in-Err-clause-list c =
    cc (with_time-absent _ c.args.node c.args.time _ c.in-Err.ensures.absent, c.deref.ensures.value ∙ c.self.view_is, c.in_ok-insert-in-Err.ensures.items)

pub returns-in-Ok-clause-times : goal.returns-in-Ok-clause-times
returns-in-Ok-clause-times c =
    TimesAfter-with_time _ _ c.args.node c.args.time (cc (with_time-stands _ c.args.node c.args.time _ c.in-Ok.ensures.found, c.deref.ensures.value ∙ c.self.view_is))

pub returns-in_ok-insert-in-Err-clause-times : goal.returns-in_ok-insert-in-Err-clause-times
returns-in_ok-insert-in-Err-clause-times c =
    TimesAfter-with_time _ _ c.args.node c.args.time
    (cc (with_time-absent _ c.args.node c.args.time _ c.in-Err.ensures.absent, c.deref.ensures.value ∙ c.self.view_is, c.in_ok-insert-in-Err.ensures.items))
