use Rattle.std.proofs.Common.{arith}
use Rattle.tfpg_graph.proofs.lemmas.zero_cycle.ZeroGroups.{HasSwept-begin, HasSwept-more, IsFinishingOrder-swept}
use Rattle.tfpg_graph.proofs.zero_cycle.find_groups.finishing_order.Goals as goal

pub loop-node-init : goal.loop-node-init
loop-node-init c =
    let search = c.in_ok-search.search in
    HasSwept-begin c.args.steps.now c.args.count search.marks.items search.order.items c.requires
    c.in_ok-search.ensures.marks c.in_ok-search.ensures.order

pub loop-node-preserved : goal.loop-node-preserved
loop-node-preserved c =
    let was = c.loop-node.search in
    let now = c.visit.new.search in
    HasSwept-more c.args.steps.now c.loop-node.node 0 was.marks.items was.order.items now.marks.items now.order.items
    c.loop-node.invariant c.in_ok-visit.ensures

pub returns : goal.returns
returns c =
    let search = c.loop-node.search in
    IsFinishingOrder-swept c.args.steps.now search.marks.items search.order.items c.loop-node.node
    c.loop-node.invariant (omega arith)
