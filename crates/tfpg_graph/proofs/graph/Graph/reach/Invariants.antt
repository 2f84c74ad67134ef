use Rattle.std.proofs.Common.{◌-◌, length}
use Rattle.tfpg_graph.specs.declared.limits.TheConstants.{MAX_NODES}
use Rattle.tfpg_graph.specs.inside.reach.Reaching.{AreReached}
use Rattle.tfpg_graph.proofs.graph.Graph.reach.Given as goal

abbrev pub invariant-loop-reached : goal.invariant-loop-reached
invariant-loop-reached l = AreReached l.self l.fn.set l.reached

abbrev pub decreases-loop-reached : goal.decreases-loop-reached
decreases-loop-reached l = MAX_NODES - length l.reached
