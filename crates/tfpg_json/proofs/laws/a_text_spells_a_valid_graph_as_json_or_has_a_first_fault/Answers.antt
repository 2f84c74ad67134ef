use Rattle.tfpg_json.proofs.lemmas.StoodFor.{spells_or_has_fault}
use Rattle.tfpg_json.proofs.laws.a_text_spells_a_valid_graph_as_json_or_has_a_first_fault.Goals as goal

pub returns : goal.returns
returns c = spells_or_has_fault c.a_text_spells_a_valid_graph_or_has_a_first_fault.ensures
