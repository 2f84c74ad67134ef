use Rattle.tfpg_check.proofs.lemmas.going_on.RoundsPass.{rounds_pass_if_right}
use Rattle.tfpg_check.proofs.laws.a_round_passes_if_it_is_right.Goals as goal

pub returns : goal.returns
returns c = rounds_pass_if_right
