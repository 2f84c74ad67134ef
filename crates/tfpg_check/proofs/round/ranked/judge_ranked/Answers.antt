use Rattle.std.proofs.Common.{[], ◌∙◌, length, take, refl, sym, ap, subst, arith}
use Rattle.std.proofs.lemmas.Result.{err_from_is_err_and}
use Rattle.tfpg_base.proofs.lemmas.lists.Elements.{All-at}
use Rattle.tfpg_check.specs.inside.ReadRoundOf.{IsRankedLineOf}
use Rattle.tfpg_check.specs.Judging.{RankedFails}
use Rattle.tfpg_check.specs.Tests.{InTurn}
use Rattle.tfpg_check.specs.Passing.{RankedPasses}
use Rattle.tfpg_check.specs.inside.InTurn.{IsFailure, PassesWith}
use Rattle.tfpg_check.specs.declared.round_fault.FailedTest.{FailedTest}
use Rattle.tfpg_check.proofs.lemmas.judging.LastKeys.{last_step}
use Rattle.tfpg_check.proofs.lemmas.judging.PassingTests.{ranked_not_fails}
use Rattle.tfpg_check.proofs.lemmas.judging.TestsInTurn.{hold_before_more, hold_before_all, hold_before_weaker, in_turn_fails, item_read}
use Rattle.tfpg_check.proofs.round.ranked.judge_ranked.Goals as goal

pub judge_line-requires-clause-line : goal.judge_line-requires-clause-line
judge_line-requires-clause-line c =
    All-at (IsRankedLineOf c.args.lookup.now.graph.now) c.args.lookup.now.read.now.ranked c.loop-r.r-index c.r-item.result c.requires.lines
    (item_read c.args.lookup.now.read.now.ranked _ c.loop-r.r-index c.r-item.result c.as_slice-r-items.ensures c.loop-r-test.true c.r-item.is)

pub returns-in_err-judge_line-clause-ranked : goal.returns-in_err-judge_line-clause-ranked
returns-in_err-judge_line-clause-ranked c = λ basis is same.
    let read = c.args.lookup.now.read.now in
    let at = item_read read.ranked _ c.loop-r.r-index c.r-item.result c.as_slice-r-items.ensures c.loop-r-test.true c.r-item.is in
    let before = c.loop-r.invariant.2 basis is same in
    let p = err_from_is_err_and c.from_residual.result c.from_residual.ensures.1 in
    rw p.1
    (subst (λ (failed : FailedTest). IsFailure (InTurn (RankedFails basis read) [] read.ranked) failed) (sym p.2)
    (in_turn_fails (RankedFails basis read) read.ranked c.loop-r.r-index c.r-item.result _ _ at
    (hold_before_weaker (RankedPasses basis read) (PassesWith (RankedFails basis read)) (ranked_not_fails basis read) read.ranked c.loop-r.r-index before.1)
    (c.in_err-judge_line.ensures.ranked basis (take c.loop-r.r-index read.ranked) is (same ∙ sym c.loop-r.invariant.0) before.0)))

pub loop-r-preserved : goal.loop-r-preserved
loop-r-preserved c =
    let read = c.args.lookup.now.read.now in
    let at = item_read read.ranked _ c.loop-r.r-index c.r-item.result c.as_slice-r-items.ensures c.loop-r-test.true c.r-item.is in
    let fraction = c.in_ok-judge_line.ensures.fraction refl in (
      c.in_ok-judge_line.ensures.log ∙ c.loop-r.invariant.0,
      omega (arith, fraction, ap (λ k. k.robust.monitored) c.key_of.ensures),
      λ basis is same. (let before = c.loop-r.invariant.2 basis is same in
          let passes = c.in_ok-judge_line.ensures.ranked basis (take c.loop-r.r-index read.ranked) is (same ∙ sym c.loop-r.invariant.0) before.0 in (
            last_step c.the_ranking_order_is_total.ensures.transitive read.ranked c.loop-r.r-index c.loop-r.last c.r-item.result c.key_of.result at before.0 fraction passes.may.in_order c.key_of.ensures,
            hold_before_more (RankedPasses basis read) read.ranked c.loop-r.r-index c.r-item.result at before.1 passes,
          )),
    )

pub returns-clause-ranked : goal.returns-clause-ranked
returns-clause-ranked c = λ basis is same.
    hold_before_all (RankedPasses basis c.args.lookup.now.read.now) c.args.lookup.now.read.now.ranked c.loop-r.r-index
    (omega (arith, c.loop-r-test.false, ap length c.as_slice-r-items.ensures)) (c.loop-r.invariant.2 basis is same).1
