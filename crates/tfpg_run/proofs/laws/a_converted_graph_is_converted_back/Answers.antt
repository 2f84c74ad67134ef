use Rattle.tfpg_run.proofs.lemmas.ConvertedBack.{converted_back}
use Rattle.tfpg_run.proofs.laws.a_converted_graph_is_converted_back.Goals as goal

pub returns : goal.returns
returns c = converted_back c.a_written_graph_is_read_back.ensures
