use Rattle.tfpg_trace.specs.FirstFault.{NoneBefore, IsStranger}
use Rattle.tfpg_trace.proofs.strays.first_stranger.Given as goal

abbrev pub invariant-loop-node : goal.invariant-loop-node
invariant-loop-node l = NoneBefore (IsStranger l.graph l.set l.trace) l.node
