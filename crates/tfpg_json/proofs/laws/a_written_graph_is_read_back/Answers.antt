use Rattle.tfpg_json.proofs.lemmas.ReadAgain.{spells_again}
use Rattle.tfpg_json.proofs.laws.a_written_graph_is_read_back.Goals as goal

pub returns : goal.returns
returns c = spells_again
