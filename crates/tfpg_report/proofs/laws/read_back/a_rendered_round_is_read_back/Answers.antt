-- Line by line, each may come, and the last one completes the round.
use Rattle.tfpg_report.proofs.lemmas.laws.RenderedRounds.{rendered_round_read_back}
use Rattle.tfpg_report.proofs.laws.read_back.a_rendered_round_is_read_back.Goals as goal

pub returns : goal.returns
returns c = rendered_round_read_back
