-- No finding before ranks a proper part.
use Rattle.std.proofs.Common.{ℕ, ◌≤◌}
use Rattle.tfpg_hyp.specs.Rounds.{IsRankedPart}
use Rattle.tfpg_engine.proofs.covering.covering.Given as goal

abbrev pub invariant-loop-number : goal.invariant-loop-number
invariant-loop-number l = (other : ℕ) → IsRankedPart l.findings l.hypothesis other → l.number ≤ other
