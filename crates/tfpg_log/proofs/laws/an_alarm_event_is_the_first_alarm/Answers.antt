use Rattle.tfpg_log.proofs.lemmas.events.AlarmEvents.{alarm_event_is, alarm_event_first, alarm_event_of}
use Rattle.tfpg_log.proofs.laws.an_alarm_event_is_the_first_alarm.Goals as goal

pub returns : goal.returns
returns c = record {
  event = alarm_event_is;
  first = alarm_event_first;
  there = alarm_event_of;
}
