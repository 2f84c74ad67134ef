-- The lines before the counts end nothing, and the last line of a block does.
use Rattle.tfpg_report.proofs.lemmas.block_reader.BegunLines.{begun_in_block, begun_in_round}
use Rattle.tfpg_report.proofs.laws.order.a_round_is_begun_by_its_lines.Goals as goal

pub returns : goal.returns
returns c = record { ended = begun_in_block; begun = begun_in_round }
