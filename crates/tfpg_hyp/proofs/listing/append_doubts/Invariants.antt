use Rattle.std.proofs.Common.{◌≡◌, ◌++◌, map, take}
use Rattle.tfpg_hyp.specs.inside.Larger.{from_node, with_doubt}
use Rattle.tfpg_hyp.proofs.listing.append_doubts.Given as goal

abbrev pub invariant-loop-node : goal.invariant-loop-node
invariant-loop-node l =
    l.list.items ≡ l.initial.list.items ++ map (with_doubt l.hypothesis) (from_node l.least (take l.node-index l.monitors))
