use Rattle.tfpg_run.proofs.lemmas.InTime.{blocks_in_time}
use Rattle.tfpg_run.proofs.laws.each_block_is_written_before_the_next_read.Goals as goal

pub returns : goal.returns
returns c = blocks_in_time
