use Rattle.std.proofs.Common.{◌≡◌, length, take, fold}
use Rattle.tfpg_graph.specs.Graph.{lag_of}
use Rattle.tfpg_sim.specs.Draws.{after_lag, latenesses_from}
use Rattle.tfpg_sim.specs.inside.Entries.{AreLatenessesInRange}
use Rattle.tfpg_sim.proofs.draws.draw_latenesses.Given as goal

-- the latenesses of the nodes so far
abbrev pub invariant-loop-node : goal.invariant-loop-node
invariant-loop-node l = record {
  latenesses : l.latenesses.items ≡ latenesses_from l.initial.state (take l.node l.graph.nodes);
  after : l.state ≡ fold (λ before node. after_lag before (lag_of node.kind)) l.initial.state (take l.node l.graph.nodes);
  small : AreLatenessesInRange l.latenesses.items;
  count : length l.latenesses.items ≡ l.node;
}
