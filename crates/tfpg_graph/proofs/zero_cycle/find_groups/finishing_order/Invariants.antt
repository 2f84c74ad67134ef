use Rattle.tfpg_graph.specs.inside.zero_cycle.ZeroSearch.{HasSwept}
use Rattle.tfpg_graph.proofs.zero_cycle.find_groups.finishing_order.Given as goal

abbrev pub invariant-loop-node : goal.invariant-loop-node
invariant-loop-node l = HasSwept l.steps l.search.marks.items l.search.order.items l.node
