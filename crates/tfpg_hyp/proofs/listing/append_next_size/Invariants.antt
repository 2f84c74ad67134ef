use Rattle.std.proofs.Common.{◌≡◌, ◌-◌, ◌++◌, take, drop}
use Rattle.std.specs.List.{flat_map}
use Rattle.tfpg_hyp.specs.inside.Larger.{larger}
use Rattle.tfpg_hyp.proofs.listing.append_next_size.Given as goal

abbrev pub invariant-loop-number : goal.invariant-loop-number
invariant-loop-number l =
    l.list.items ≡ l.initial.list.items ++ flat_map (larger l.monitors l.doubt l.count 0) (take (l.number - l.first) (drop l.first l.initial.list.items))
