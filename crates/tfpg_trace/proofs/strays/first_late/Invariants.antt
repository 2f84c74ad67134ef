use Rattle.tfpg_trace.specs.FirstFault.{NoneBefore, IsLate}
use Rattle.tfpg_trace.proofs.strays.first_late.Given as goal

abbrev pub invariant-loop-node : goal.invariant-loop-node
invariant-loop-node l = NoneBefore (IsLate l.log l.trace) l.node
