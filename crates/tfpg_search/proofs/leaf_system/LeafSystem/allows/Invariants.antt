use Rattle.std.proofs.Common.{ℕ, ◌<◌, get_or}
use Rattle.tfpg_diff.specs.Demands.{Bounded}
use Rattle.tfpg_diff.specs.Solution.{IsBetween}
use Rattle.tfpg_diff.specs.VariableBounds.{VariableBounds}
use Rattle.tfpg_search.proofs.leaf_system.LeafSystem.allows.Given as goal

abbrev pub invariant-loop-node : goal.invariant-loop-node
invariant-loop-node l = (variable : ℕ) → variable < l.node → (bounds : VariableBounds) → Bounded l.self.demands variable bounds → IsBetween bounds (get_or l.times variable 0)
