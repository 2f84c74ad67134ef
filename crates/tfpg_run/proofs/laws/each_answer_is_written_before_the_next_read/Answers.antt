use Rattle.tfpg_run.proofs.lemmas.InTime.{answers_in_time}
use Rattle.tfpg_run.proofs.laws.each_answer_is_written_before_the_next_read.Goals as goal

pub returns : goal.returns
returns c = answers_in_time
