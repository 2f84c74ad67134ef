use Rattle.std.proofs.Common.{◌≡◌, ◌<◌, true, false, length}
use Rattle.tfpg_graph.specs.inside.reach.Reaching.{IsFullBefore, Widens}
use Rattle.tfpg_graph.proofs.graph.Graph.sweep_up.Given as goal

abbrev pub invariant-loop-node : goal.invariant-loop-node
invariant-loop-node l = record {
  widens : Widens l.self l.initial.reached l.reached;
  added : l.added ≡ true → length l.initial.reached < length l.reached;
  full : l.added ≡ false → IsFullBefore l.self l.reached l.node;
}
