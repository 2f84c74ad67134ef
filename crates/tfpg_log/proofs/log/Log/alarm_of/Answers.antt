use Rattle.std.proofs.Common.{Some, sym, ap, ◌∙◌}
use Rattle.tfpg_log.proofs.lemmas.events.AlarmEvents.{alarm_event_within, alarm_of_event, alarm_event_none}
use Rattle.tfpg_log.proofs.log.Log.alarm_of.Goals as goal

pub event-requires-clause-high : goal.event-requires-clause-high
event-requires-clause-high c = (alarm_event_within c.args.self.now c.args.node c.in-Some.number (sym c.in-Some.ensures)).1

pub returns-in-Some : goal.returns-in-Some
returns-in-Some c =
    ap Some c.time.ensures
    ∙ sym (alarm_of_event c.args.self.now c.args.node c.in-Some.number c.event.result (sym c.in-Some.ensures) c.event.ensures)

pub returns-in-None : goal.returns-in-None
returns-in-None c = sym (alarm_event_none c.args.self.now c.args.node (sym c.in-None.ensures))
