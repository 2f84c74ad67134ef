-- Each line so far is right, and the next number is above theirs.
use Rattle.std.proofs.Common.{take}
use Rattle.tfpg_report.specs.declared.read_round.NamedSet.{NamedSet}
use Rattle.tfpg_check.specs.Judging.{RoundBasis, MayBeOpen}
use Rattle.tfpg_check.specs.inside.Lookups.{IsLookupOf}
use Rattle.tfpg_check.specs.inside.InTurn.{HoldBefore}
use Rattle.tfpg_check.specs.inside.Parts.{IsNextAfter}
use Rattle.tfpg_check.proofs.round.unsettled.judge_open.Given as goal

abbrev pub invariant-loop-named : goal.invariant-loop-named
invariant-loop-named l =
    IsNextAfter (λ (named : NamedSet). named.number) (take l.named-index l.lookup.read.now.unsettled) l.next
    × ((basis : RoundBasis) → IsLookupOf basis l.lookup → HoldBefore (MayBeOpen basis l.lookup.read.now) l.lookup.read.now.unsettled l.named-index)
