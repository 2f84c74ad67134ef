-- Each line so far is right, and what comes after the last key comes after theirs.
use Rattle.std.proofs.Common.{◌≡◌, take}
use Rattle.tfpg_check.specs.Judging.{RoundBasis}
use Rattle.tfpg_check.specs.Passing.{RankedPasses}
use Rattle.tfpg_check.specs.inside.Lookups.{IsLookupOf}
use Rattle.tfpg_check.specs.inside.InTurn.{HoldBefore}
use Rattle.tfpg_check.specs.inside.RankedKeys.{IsLastOf, IsFractionOf}
use Rattle.tfpg_check.proofs.round.ranked.judge_ranked.Given as goal

abbrev pub invariant-loop-r : goal.invariant-loop-r
invariant-loop-r l =
    (l.log ≡ l.initial.log) × IsFractionOf l.last
    × ((basis : RoundBasis) → IsLookupOf basis l.lookup → basis.log ≡ l.initial.log
    → IsLastOf (take l.r-index l.lookup.read.now.ranked) l.last × HoldBefore (RankedPasses basis l.lookup.read.now) l.lookup.read.now.ranked l.r-index)
