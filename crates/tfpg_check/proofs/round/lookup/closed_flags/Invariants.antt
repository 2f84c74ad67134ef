-- The flags so far.
use Rattle.std.proofs.Common.{◌≡◌, map, take}
use Rattle.tfpg_kernel.specs.CheckerState.{CheckerState}
use Rattle.tfpg_check.proofs.round.lookup.closed_flags.Given as goal

abbrev pub invariant-loop-checker : goal.invariant-loop-checker
invariant-loop-checker l = l.flags.items ≡ map (λ (checker : CheckerState). checker.closed) (take l.checker-index l.checkers)
