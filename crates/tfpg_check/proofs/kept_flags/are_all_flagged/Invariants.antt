-- A flag of each number so far is up.
use Rattle.std.proofs.Common.{◌<◌, ℕ}
use Rattle.tfpg_check.specs.inside.Lookups.{IsFlagged}
use Rattle.tfpg_check.proofs.kept_flags.are_all_flagged.Given as goal

abbrev pub invariant-loop-number : goal.invariant-loop-number
invariant-loop-number l = (other : ℕ) → other < l.number → IsFlagged l.closed l.ranked l.part_ranked other
