use Rattle.tfpg_log.proofs.lemmas.events.PastKept.{events_kept, alarms_kept, alarm_events_kept, quiets_kept, now_kept, modes_kept, numbers_kept, spans_kept, windows_kept, joints_kept, ages_kept}
use Rattle.tfpg_log.proofs.lemmas.events.SilenceTimes.{last_never_falls}
use Rattle.tfpg_log.proofs.lemmas.events.LastAlarms.{last_alarm_never_falls}
use Rattle.tfpg_log.proofs.laws.a_log_that_goes_on_keeps_the_past.Goals as goal

pub returns : goal.returns
returns c = record {
  event = events_kept;
  alarm = alarms_kept;
  alarm_event = alarm_events_kept;
  last_alarm = last_alarm_never_falls;
  silence = quiets_kept;
  last_silence = last_never_falls;
  now = now_kept;
  mode = modes_kept;
  number = numbers_kept;
  span = spans_kept;
  window = windows_kept;
  joint = joints_kept;
  age = ages_kept;
}
