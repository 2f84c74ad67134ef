use Rattle.std.proofs.Common.{take, All, slice_get}
use Rattle.std.specs.Prelude.{IsSomeAnd}
use Rattle.tfpg_trace.specs.inside.Due.{CanBeDue}
use Rattle.tfpg_trace.proofs.due_first.some_can_be_due.Given as goal

abbrev pub invariant-loop-number : goal.invariant-loop-number
invariant-loop-number l =
    All (λ number. IsSomeAnd (slice_get l.graph.edges number) (CanBeDue l.trace l.until) → ⊥) (take l.number-index l.incoming)
