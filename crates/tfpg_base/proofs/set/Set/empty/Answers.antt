use Rattle.tfpg_base.proofs.lemmas.Sets.{members_of-zero}
use Rattle.tfpg_base.proofs.set.Set.empty.Goals as goal

pub returns : goal.returns
returns c = members_of-zero
