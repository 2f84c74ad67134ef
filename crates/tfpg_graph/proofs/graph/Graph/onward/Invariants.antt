use Rattle.std.proofs.Common.{length, take}
use Rattle.tfpg_graph.specs.Onward.{AreOnward}
use Rattle.tfpg_graph.proofs.graph.Graph.onward.Given as goal

abbrev pub invariant-loop-number : goal.invariant-loop-number
invariant-loop-number l = AreOnward (length l.self.nodes) (take l.number l.self.edges) l.steps
