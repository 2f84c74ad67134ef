use Rattle.tfpg_base.proofs.lemmas.NodeSets.{nodes_of-zero}
use Rattle.tfpg_base.proofs.node_numbers.NodeNumbers.empty.Goals as goal

pub returns : goal.returns
returns c = nodes_of-zero
