use Rattle.std.proofs.Common.{length, refl, ap, arith}
use Rattle.std.proofs.lemmas.Bool.{false≢true}
use Rattle.tfpg_check.proofs.lemmas.judging.LookupSays.{flagged_has_status, statuses_hold, statuses_fail}
use Rattle.tfpg_check.proofs.lemmas.judging.TestsInTurn.{not_where_false}
use Rattle.tfpg_check.proofs.round.statuses.each_has_status.Goals as goal

pub returns-then-is_each_known : goal.returns-then-is_each_known
returns-then-is_each_known c = λ basis is. (
  λ holds.
      (let lookup = c.args.lookup.now in
      let known = c.is_each_known.ensures c.if-is_each_known.true in
      statuses_hold basis lookup is (length lookup.table.now.hypotheses) (omega arith)
      (λ number within. flagged_has_status lookup known.no_parts number (is.all_flagged known.all_flagged number (omega (arith, within, ap length is.hypotheses))))),
  λ each. refl,
)

pub returns-then-not-has_status : goal.returns-then-not-has_status
returns-then-not-has_status c = λ basis is. (
  λ holds. absurd (false≢true holds),
  λ each. absurd
      (statuses_fail basis c.args.lookup.now is c.loop-number.number (omega (arith, c.loop-number-test.true, c.len-number-end.ensures.count))
      (not_where_false _ c.has_status.result c.if-not-has_status.true c.has_status.ensures) each),
)

pub returns : goal.returns
returns c = λ basis is. (
  λ holds. statuses_hold basis c.args.lookup.now is c.loop-number.number (omega (arith, c.loop-number-test.false, c.len-number-end.ensures.count)) c.loop-number.invariant,
  λ each. refl,
)
