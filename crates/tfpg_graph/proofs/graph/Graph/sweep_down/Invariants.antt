use Rattle.tfpg_graph.specs.inside.reach.Reaching.{Widens}
use Rattle.tfpg_graph.proofs.graph.Graph.sweep_down.Given as goal

abbrev pub invariant-loop-node : goal.invariant-loop-node
invariant-loop-node l = Widens l.self l.initial.reached l.reached
