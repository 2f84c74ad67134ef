use Rattle.tfpg_hyp.proofs.lemmas.Subsets.{hypothesis_part, part_first}
use Rattle.tfpg_hyp.proofs.laws.subsets_stand_before_their_supersets.Goals as goal

pub returns : goal.returns
returns c = record { hypothesis = hypothesis_part; before = part_first }
