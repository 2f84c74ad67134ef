use Rattle.tfpg_log.specs.declared.event.Event.TheVariants.{Alarm}
use Rattle.tfpg_predict.proofs.lemmas.keeping.NextEvents.{next_at}
use Rattle.tfpg_predict.proofs.events_log.log_of_events.Goals as goal

pub add-requires-clause-next : goal.add-requires-clause-next
add-requires-clause-next c =
    next_at c.args.graph.now c.args.events.now c.requires c.loop-event.event-index (Alarm 0 0) c.loop-event-test.true c.loop-event.log c.loop-event.invariant.log_is
