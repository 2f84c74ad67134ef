-- Each hypothesis so far has a status.
use Rattle.std.proofs.Common.{◌<◌, ℕ}
use Rattle.tfpg_check.specs.inside.Named.{HasStatusFound}
use Rattle.tfpg_check.proofs.round.statuses.each_has_status.Given as goal

abbrev pub invariant-loop-number : goal.invariant-loop-number
invariant-loop-number l = (other : ℕ) → other < l.number → HasStatusFound l.lookup other
