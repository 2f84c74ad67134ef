use Rattle.tfpg_graph.proofs.lemmas.reading.faults.NoFault.{Spells-one}
use Rattle.tfpg_graph.proofs.laws.a_text_spells_at_most_one_valid_graph.Goals as goal

pub returns : goal.returns
returns c = Spells-one
