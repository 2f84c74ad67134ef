use Rattle.std.proofs.Common.{◌≡◌, ◌≤◌, length}
use Rattle.tfpg_base.proofs.lemmas.lists.Below.{below}
use Rattle.tfpg_hyp.specs.Table.{monitors}
use Rattle.tfpg_hyp.proofs.monitors.monitor_count.Given as goal

abbrev pub invariant-loop-node : goal.invariant-loop-node
invariant-loop-node l = (l.count ≡ length (below l.node (monitors l.graph))) × (l.count ≤ l.node)
