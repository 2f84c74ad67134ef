use Rattle.tfpg_log.proofs.lemmas.events.ShownByLookUp.{alarm_is_shown, silence_is_shown}
use Rattle.tfpg_log.proofs.laws.what_is_shown_is_what_is_looked_up.Goals as goal

pub returns : goal.returns
returns c = record {
  alarm = alarm_is_shown;
  silence = silence_is_shown;
}
