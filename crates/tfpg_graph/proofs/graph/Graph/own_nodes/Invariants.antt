use Rattle.tfpg_graph.proofs.lemmas.reach.Reaches.{AreReachedBefore}
use Rattle.tfpg_graph.proofs.graph.Graph.own_nodes.Given as goal

abbrev pub invariant-loop-position : goal.invariant-loop-position
invariant-loop-position l = AreReachedBefore l.self l.set l.position l.nodes
