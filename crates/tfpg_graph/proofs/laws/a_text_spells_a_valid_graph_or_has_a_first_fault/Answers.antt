use Rattle.tfpg_graph.proofs.lemmas.reading.faults.EachText.{each_text}
use Rattle.tfpg_graph.proofs.laws.a_text_spells_a_valid_graph_or_has_a_first_fault.Goals as goal

pub returns : goal.returns
returns c = each_text
