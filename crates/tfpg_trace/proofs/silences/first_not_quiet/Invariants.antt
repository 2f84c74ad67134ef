use Rattle.tfpg_trace.specs.FirstFault.{NoneBefore}
use Rattle.tfpg_trace.specs.inside.Shown.{IsNotQuiet}
use Rattle.tfpg_trace.proofs.silences.first_not_quiet.Given as goal

abbrev pub invariant-loop-node : goal.invariant-loop-node
invariant-loop-node l = NoneBefore (IsNotQuiet l.graph l.log l.trace l.number) l.node
