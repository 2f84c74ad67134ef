-- From the last line to the first, both say the same.
use Rattle.tfpg_report.proofs.lemmas.laws.RoundsReadBack.{round_read_back}
use Rattle.tfpg_report.proofs.laws.read_back.a_round_is_read_back.Goals as goal

pub returns : goal.returns
returns c = round_read_back
