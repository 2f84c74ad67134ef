use Rattle.tfpg_graph.specs.inside.zero_cycle.ZeroEdges.{NoneStaysBefore}
use Rattle.tfpg_graph.proofs.zero_cycle.first_in_group.Given as goal

abbrev pub invariant-loop-number : goal.invariant-loop-number
invariant-loop-number l = NoneStaysBefore l.declared l.groups l.number
