use Rattle.std.proofs.Common.{◌-◌, length}
use Rattle.tfpg_graph.specs.inside.zero_cycle.ZeroSearch.{IsGroupedFrom}
use Rattle.tfpg_graph.proofs.zero_cycle.find_groups.groups.Given as goal

abbrev pub invariant-loop-turn : goal.invariant-loop-turn
invariant-loop-turn l = IsGroupedFrom l.steps l.reversed l.order.items l.search.marks.items l.search.order.items
    (length l.order.items - l.turn)
