use Rattle.std.proofs.Common.{take, All, slice_get}
use Rattle.std.specs.Prelude.{IsSomeAnd}
use Rattle.tfpg_log.specs.Rules.{HasAge}
use Rattle.tfpg_trace.proofs.may.some_arrives.Given as goal

abbrev pub invariant-loop-number : goal.invariant-loop-number
invariant-loop-number l =
    All (λ number. IsSomeAnd (slice_get l.graph.edges number) (λ e. HasAge l.log l.trace e l.time e.tmin) → ⊥)
    (take l.number-index l.incoming)
