use Rattle.std.proofs.Common.{◌≡◌}
use Rattle.tfpg_base.proofs.lemmas.lists.Below.{below}
use Rattle.tfpg_hyp.specs.Table.{monitors}
use Rattle.tfpg_hyp.proofs.monitors.monitors_of.Given as goal

abbrev pub invariant-loop-node : goal.invariant-loop-node
invariant-loop-node l = l.nodes.items ≡ below l.node (monitors l.graph)
