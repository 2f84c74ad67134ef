-- The lines so far are those of the hypotheses so far whose trees were closed in this round.
use Rattle.std.proofs.Common.{◌≡◌, length, map, take}
use Rattle.tfpg_check.specs.Judging.{named_hypothesis}
use Rattle.tfpg_check.specs.inside.Lookups.{is_newly_closed}
use Rattle.tfpg_check.proofs.lemmas.judging.NewlyClosed.{passing_below}
use Rattle.tfpg_check.proofs.round.rejected.judge_each_rejected.Given as goal

abbrev pub invariant-loop-number : goal.invariant-loop-number
invariant-loop-number l =
    (take l.index (map named_hypothesis l.lookup.read.now.rejected) ≡ passing_below (is_newly_closed l.lookup) l.lookup.table.now.hypotheses l.number)
    × (length (passing_below (is_newly_closed l.lookup) l.lookup.table.now.hypotheses l.number) ≡ l.index)
