-- From the last line to the first, the lines give the round back.
use Rattle.tfpg_report.proofs.lemmas.laws.LinesOfOneRound.{one_round_read}
use Rattle.tfpg_report.proofs.laws.read_back.lines_say_one_round.Goals as goal

pub returns : goal.returns
returns c = one_round_read
