use Rattle.std.proofs.Common.{◌≡◌, take}
use Rattle.tfpg_clause.specs.Cut.{cut}
use Rattle.tfpg_search.proofs.cut.cut.Given as goal

abbrev pub invariant-loop-node : goal.invariant-loop-node
invariant-loop-node l = l.trace ≡ cut l.instant (take l.node l.times)
