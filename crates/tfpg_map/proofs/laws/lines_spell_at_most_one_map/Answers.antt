use Rattle.tfpg_map.proofs.lemmas.OneMap.{one_map}
use Rattle.tfpg_map.proofs.laws.lines_spell_at_most_one_map.Goals as goal

pub returns : goal.returns
returns c = one_map
