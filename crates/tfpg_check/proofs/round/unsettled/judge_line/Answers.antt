use Rattle.std.proofs.Common.{refl}
use Rattle.tfpg_check.proofs.lemmas.judging.LookupSays.{open_exactly}
use Rattle.tfpg_check.proofs.lemmas.judging.TestsInTurn.{not_where_false}
use Rattle.tfpg_check.proofs.round.unsettled.judge_line.Goals as goal

pub returns-then-not-may_be_open-clause-unsettled : goal.returns-then-not-may_be_open-clause-unsettled
returns-then-not-may_be_open-clause-unsettled c = λ basis before is after. (
  refl,
  refl,
  λ may. not_where_false _ c.may_be_open.result c.if-not-may_be_open.true c.may_be_open.ensures ((open_exactly basis c.args.lookup.now is before c.args.next c.args.named.now after).1 may),
)

pub returns-clause-unsettled : goal.returns-clause-unsettled
returns-clause-unsettled c = λ basis before is after.
    (open_exactly basis c.args.lookup.now is before c.args.next c.args.named.now after).0 (c.may_be_open.ensures.0 c.if-not-may_be_open.false)
