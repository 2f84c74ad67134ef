use Rattle.std.proofs.Common.{◌≡◌, length}
use Rattle.tfpg_trace.proofs.lemmas.TimesFilled.{AreFilledUpto}
use Rattle.tfpg_trace.proofs.trace_table.times_by_node.Given as goal

abbrev pub invariant-loop-activation : goal.invariant-loop-activation
invariant-loop-activation l = record {
  filled : AreFilledUpto l.by_node l.trace l.activation-index;
  room : length l.by_node ≡ 512;
}
