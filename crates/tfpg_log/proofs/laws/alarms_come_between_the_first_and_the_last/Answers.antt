use Rattle.tfpg_log.proofs.lemmas.events.LastAlarms.{first_is_earliest, last_alarm_is_latest}
use Rattle.tfpg_log.proofs.laws.alarms_come_between_the_first_and_the_last.Goals as goal

pub returns : goal.returns
returns c = record { first = first_is_earliest; last = last_alarm_is_latest }
