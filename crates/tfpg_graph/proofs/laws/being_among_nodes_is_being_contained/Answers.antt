use Rattle.tfpg_graph.proofs.lemmas.reach.Reaches.{among-from_Contains, Contains-from_among}
use Rattle.tfpg_graph.proofs.laws.being_among_nodes_is_being_contained.Goals as goal

pub returns : goal.returns
returns c = λ nodes node. (Contains-from_among nodes node, among-from_Contains nodes node)
