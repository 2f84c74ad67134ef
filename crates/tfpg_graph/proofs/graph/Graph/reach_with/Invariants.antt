-- What is found so far, and what is pending.
use Rattle.std.proofs.Common.{◌+◌, ◌-◌, ◌*◌, ◌<◌, ℕ, List, [], length}
use Rattle.std.specs.List.{All}
use Rattle.tfpg_graph.specs.Reach.{IsReach}
use Rattle.tfpg_graph.specs.declared.limits.TheConstants.{MAX_NODES}
use Rattle.tfpg_graph.specs.inside.reach.Reaching.{IsFullBut, Widens}
use Rattle.tfpg_graph.proofs.graph.Graph.reach_with.Given as goal

abbrev pub invariant-loop-parts : goal.invariant-loop-parts
invariant-loop-parts l = record {
  widens : Widens l.self l.initial.reached l.reached;
  full : IsFullBut l.self l.onward [] l.initial.pending l.initial.reached → IsFullBut l.self l.onward [] l.pending l.reached;
  within : All (λ next. next < length l.self.nodes) l.pending;
}

abbrev pub decreases-loop-parts : goal.decreases-loop-parts
decreases-loop-parts l = 2 * (MAX_NODES - length l.reached) + length l.pending
