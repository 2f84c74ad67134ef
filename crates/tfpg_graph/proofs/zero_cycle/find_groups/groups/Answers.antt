use Rattle.std.proofs.Common.{◌≡◌, ◌<◌, ◌+◌, ◌-◌, length, Contains, sym, arith}
use Rattle.tfpg_graph.proofs.lemmas.zero_cycle.ZeroGroups.{IsGroupedFrom-begin, IsGroupedFrom-turn, AreGroups-end}
use Rattle.tfpg_graph.proofs.zero_cycle.find_groups.groups.Goals as goal

pub loop-turn-init : goal.loop-turn-init
loop-turn-init c =
    let search = c.in_ok-search.search in
    IsGroupedFrom-begin c.args.steps.now c.args.reversed.now c.in_ok-order.order.items c.args.count search.marks.items
    search.order.items
    c.requires.count c.in_ok-search.ensures.marks c.in_ok-search.ensures.order

pub visit-requires-clause-node : goal.visit-requires-clause-node
visit-requires-clause-node c =
    let order = c.in_ok-order.order.items in
    let index = c.len.result - 1 - c.loop-turn.turn in
    let within : index < length order = omega arith in
    let has : Contains order c.index.result.now = (index, within, sym c.index.ensures) in
    omega (arith, c.in_ok-order.ensures.inside c.index.result.now has, c.requires.reversed.count)

pub loop-turn-preserved : goal.loop-turn-preserved
loop-turn-preserved c =
    let order = c.in_ok-order.order.items in
    let index = c.len.result - 1 - c.loop-turn.turn in
    let was = c.loop-turn.search in
    let now = c.visit.new.search in
    let stands : index + c.loop-turn.turn + 1 ≡ length order = omega arith in
    IsGroupedFrom-turn c.args.steps.now c.args.reversed.now order c.loop-turn.turn index c.index.result.now
    was.marks.items was.order.items now.marks.items now.order.items
    c.requires.reversed c.in_ok-order.ensures stands c.index.ensures c.loop-turn.invariant c.in_ok-visit.ensures

pub returns : goal.returns
returns c =
    let search = c.loop-turn.search in
    AreGroups-end c.args.steps.now c.args.reversed.now c.in_ok-order.order.items search.marks.items search.order.items
    c.loop-turn.turn
    c.requires.reversed c.in_ok-order.ensures (omega arith) c.loop-turn.invariant
