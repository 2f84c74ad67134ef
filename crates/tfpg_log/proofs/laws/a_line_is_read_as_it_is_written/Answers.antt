use Rattle.tfpg_log.proofs.lemmas.logs_of_lines.WrittenLines.{read_as_written}
use Rattle.tfpg_log.proofs.laws.a_line_is_read_as_it_is_written.Goals as goal

pub returns : goal.returns
returns c = read_as_written
