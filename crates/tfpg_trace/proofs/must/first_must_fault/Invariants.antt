use Rattle.std.proofs.Common.{◌≡◌, length}
use Rattle.tfpg_graph.specs.declared.limits.TheConstants.{MAX_INCOMING}
use Rattle.tfpg_trace.specs.inside.Gaps.{AreGaps}
use Rattle.tfpg_trace.proofs.lemmas.FirstMustFaults.{KeepsMustBefore}
use Rattle.tfpg_trace.proofs.must.first_must_fault.Given as goal

abbrev pub invariant-loop-number : goal.invariant-loop-number
invariant-loop-number l = record {
  keeps : KeepsMustBefore l.log l.graph l.trace l.node l.number;
  gaps : AreGaps l.graph l.log l.node l.number l.gaps;
  room : length l.gaps ≡ MAX_INCOMING;
}
