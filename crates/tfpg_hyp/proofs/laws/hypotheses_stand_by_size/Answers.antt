use Rattle.tfpg_hyp.proofs.lemmas.Subsets.{by_size, fewer_members}
use Rattle.tfpg_hyp.proofs.laws.hypotheses_stand_by_size.Goals as goal

pub returns : goal.returns
returns c = record { in_order = by_size; fewer = fewer_members }
