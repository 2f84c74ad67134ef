use Rattle.std.proofs.Common.{length, take}
use Rattle.tfpg_graph.specs.inside.zero_cycle.ZeroEdges.{AreZeroSteps}
use Rattle.tfpg_graph.proofs.node_steps.NodeSteps.of_edges.Given as goal

abbrev pub invariant-loop-number : goal.invariant-loop-number
invariant-loop-number l = AreZeroSteps (length l.declared.nodes) (take l.number l.declared.edges) l.reversed l.steps
