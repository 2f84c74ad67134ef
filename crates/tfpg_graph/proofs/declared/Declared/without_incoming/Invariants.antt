use Rattle.tfpg_graph.specs.Valid.{HasIncomingBefore}
use Rattle.tfpg_graph.proofs.declared.Declared.without_incoming.Given as goal

abbrev pub invariant-loop-node : goal.invariant-loop-node
invariant-loop-node l = HasIncomingBefore l.self l.node
