use Rattle.tfpg_graph.proofs.lemmas.zero_cycle.ZeroRanks.{HasZeroOrder-valid}
use Rattle.tfpg_graph.proofs.laws.a_valid_graph_has_a_zero_order.Goals as goal

pub returns : goal.returns
returns c = HasZeroOrder-valid
