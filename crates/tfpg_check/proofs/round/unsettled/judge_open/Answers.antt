use Rattle.std.proofs.Common.{[], length, take, refl, sym, ap, subst, arith}
use Rattle.std.proofs.lemmas.Result.{err_from_is_err_and}
use Rattle.tfpg_report.specs.declared.read_round.NamedSet.{NamedSet}
use Rattle.tfpg_check.specs.Judging.{MayBeOpen, OpenFails}
use Rattle.tfpg_check.specs.Tests.{InTurn}
use Rattle.tfpg_check.specs.inside.InTurn.{IsFailure}
use Rattle.tfpg_check.specs.declared.round_fault.FailedTest.{FailedTest}
use Rattle.tfpg_check.proofs.lemmas.judging.TestsInTurn.{owes_passes, next_none, next_step, hold_before_none, hold_before_more, hold_before_all, in_turn_fails, item_read}
use Rattle.tfpg_check.proofs.round.unsettled.judge_open.Goals as goal

pub loop-named-init : goal.loop-named-init
loop-named-init c = (
  next_none (λ (named : NamedSet). named.number),
  λ basis is. hold_before_none (MayBeOpen basis c.args.lookup.now.read.now) c.args.lookup.now.read.now.unsettled,
)

pub loop-named-preserved : goal.loop-named-preserved
loop-named-preserved c =
    let xs = c.args.lookup.now.read.now.unsettled in
    let at = item_read xs _ c.loop-named.named-index c.named-item.result c.as_slice-named-items.ensures c.loop-named-test.true c.named-item.is in (
      next_step (λ (named : NamedSet). named.number) xs c.loop-named.named-index c.loop-named.next c.named-item.result c.from-next.result at c.loop-named.invariant.0
          (c.in_ok-judge_line.ensures.next refl) c.from-next.ensures,
      λ basis is. hold_before_more (MayBeOpen basis c.args.lookup.now.read.now) xs c.loop-named.named-index c.named-item.result at (c.loop-named.invariant.1 basis is)
          (c.in_ok-judge_line.ensures.unsettled basis (take c.loop-named.named-index xs) is c.loop-named.invariant.0),
    )

pub returns-in_err-judge_line : goal.returns-in_err-judge_line
returns-in_err-judge_line c = λ basis is.
    let xs = c.args.lookup.now.read.now.unsettled in
    let at = item_read xs _ c.loop-named.named-index c.named-item.result c.as_slice-named-items.ensures c.loop-named-test.true c.named-item.is in
    let p = err_from_is_err_and c.from_residual.result c.from_residual.ensures.1 in
    rw p.1
    (subst (λ (failed : FailedTest). IsFailure (InTurn (OpenFails basis c.args.lookup.now.read.now) [] xs) failed) (sym p.2)
    (in_turn_fails (OpenFails basis c.args.lookup.now.read.now) xs c.loop-named.named-index c.named-item.result _ _ at
    (λ index named before there. owes_passes _ _ _ (c.loop-named.invariant.1 basis is index named before there))
    (c.in_err-judge_line.ensures.unsettled basis (take c.loop-named.named-index xs) is c.loop-named.invariant.0)))

pub returns : goal.returns
returns c = λ basis is.
    hold_before_all (MayBeOpen basis c.args.lookup.now.read.now) c.args.lookup.now.read.now.unsettled c.loop-named.named-index
    (omega (arith, c.loop-named-test.false, ap length c.as_slice-named-items.ensures)) (c.loop-named.invariant.1 basis is)
