use Rattle.tfpg_log.proofs.lemmas.events.SilenceTimes.{last_is_latest}
use Rattle.tfpg_log.proofs.laws.the_last_silence_has_the_greatest_time.Goals as goal

pub returns : goal.returns
returns c = last_is_latest
