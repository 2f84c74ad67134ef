-- What is left of the row, and what is pending.
use Rattle.std.proofs.Common.{◌+◌, ◌<◌, ◌≤◌, List, [], ◌∷◌, length, drop, ℕ}
use Rattle.std.specs.List.{All}
use Rattle.tfpg_graph.specs.inside.reach.Reaching.{IsFullBut, Widens}
use Rattle.tfpg_graph.proofs.graph.Graph.spread.Given as goal

abbrev pub invariant-loop-next : goal.invariant-loop-next
invariant-loop-next l = record {
  widens : Widens l.self l.fn.reached l.reached;
  full : IsFullBut l.self l.fn.onward [] (l.fn.node ∷ l.fn.pending) l.fn.reached → IsFullBut l.self l.fn.onward (drop l.next-index l.next-items) l.left l.reached;
  within : All (λ next. next < length l.self.nodes) l.fn.pending → All (λ next. next < length l.self.nodes) l.left;
  shorter : length l.left + length l.fn.reached ≤ length l.fn.pending + length l.reached;
}
