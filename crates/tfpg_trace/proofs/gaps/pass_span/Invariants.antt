use Rattle.std.proofs.Common.{◌≡◌, ℕ, ◌<◌, ◌≤◌, None, get_or, length}
use Rattle.tfpg_trace.specs.inside.Gaps.{gap_after}
use Rattle.tfpg_trace.proofs.gaps.pass_span.Given as goal

abbrev pub invariant-loop-index : goal.invariant-loop-index
invariant-loop-index l = record {
  passed : (k : ℕ) → k < l.index → get_or l.gaps k None ≡ gap_after l.graph l.span (get_or l.incoming k 0) (get_or l.fn.gaps k None);
  left : (k : ℕ) → l.index ≤ k → get_or l.gaps k None ≡ get_or l.fn.gaps k None;
  room : length l.gaps ≡ length l.fn.gaps;
}
