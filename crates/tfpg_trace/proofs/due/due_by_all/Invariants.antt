use Rattle.std.proofs.Common.{ℕ, Some}
use Rattle.tfpg_log.specs.Log.{Logbook}
use Rattle.tfpg_trace.specs.inside.Due.{Begins}
use Rattle.tfpg_trace.specs.inside.Gaps.{StartsSpan}
use Rattle.tfpg_trace.proofs.lemmas.Beginnings.{EachOf}
use Rattle.tfpg_trace.proofs.lemmas.DueInto.{DueAt}
use Rattle.tfpg_trace.proofs.due.due_by_all.Given as goal

abbrev pub invariant-loop-index : goal.invariant-loop-index
invariant-loop-index l =
    (log : Logbook) (number : ℕ) → StartsSpan l.graph log l.start.node number l.start.span l.start.gaps.now
    → Begins (EachOf (DueAt l.graph log l.trace l.incoming) l.index) l.start.span.lo l.start.span.hi (Some l.first)
