use Rattle.tfpg_map.proofs.lemmas.WrittenMaps.{written_believing, written_map}
use Rattle.tfpg_map.proofs.laws.the_text_of_a_map_spells_it.Goals as goal

pub returns : goal.returns
returns c = record { short = written_map; believing = written_believing }
