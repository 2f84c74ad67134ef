-- The bounds of the variables so far.
use Rattle.std.proofs.Common.{◌≡◌}
use Rattle.tfpg_diff.specs.SystemState.{unbounded_from}
use Rattle.tfpg_diff.proofs.bounds.unbounded.Given as goal

abbrev pub invariant-loop-variable : goal.invariant-loop-variable
invariant-loop-variable l = l.bounds.items ≡ unbounded_from 0 l.variable
