use Rattle.std.proofs.Common.{refl, sym, subst, inl, inr}
use Rattle.std.proofs.lemmas.Result.{err_from_is_err_and}
use Rattle.tfpg_check.specs.inside.InTurn.{IsFailure}
use Rattle.tfpg_check.specs.inside.Kept.{RestFails}
use Rattle.tfpg_check.specs.declared.round_fault.FailedTest.{FailedTest}
use Rattle.tfpg_check.proofs.lemmas.judging.PassingTests.{all_ranked_pass, all_open_pass, rejected_not_fails}
use Rattle.tfpg_check.proofs.lemmas.judging.RightCounts.{counts_exactly}
use Rattle.tfpg_check.proofs.lemmas.judging.TestsInTurn.{not_where_false, owes_passes}
use Rattle.tfpg_check.proofs.kept_hypotheses.judge_rest.Goals as goal

pub returns-in_err-judge_ranked-clause-rest : goal.returns-in_err-judge_ranked-clause-rest
returns-in_err-judge_ranked-clause-rest c = λ basis is same.
    let p = err_from_is_err_and c.from_residual.result c.from_residual.ensures.1 in
    rw p.1
    (subst (λ (failed : FailedTest). IsFailure (RestFails basis c.args.lookup.now.read.now) failed) (sym p.2) (inl (c.in_err-judge_ranked.ensures.ranked basis is same)))

pub returns-in_err-judge_open-clause-rest : goal.returns-in_err-judge_open-clause-rest
returns-in_err-judge_open-clause-rest c = λ basis is same.
    let read = c.args.lookup.now.read.now in
    let p = err_from_is_err_and c.from_residual-in_err-judge_open.result c.from_residual-in_err-judge_open.ensures.1 in
    rw p.1
    (subst (λ (failed : FailedTest). IsFailure (RestFails basis read) failed) (sym p.2)
    (inr (all_ranked_pass basis read (c.in_ok-judge_ranked.ensures.ranked basis is same), inl (c.in_err-judge_open.ensures basis is))))

pub returns-in_err-judge_rejected-clause-rest : goal.returns-in_err-judge_rejected-clause-rest
returns-in_err-judge_rejected-clause-rest c = λ basis is same.
    let read = c.args.lookup.now.read.now in
    let p = err_from_is_err_and c.from_residual-in_err-judge_rejected.result c.from_residual-in_err-judge_rejected.ensures.1 in
    rw p.1
    (subst (λ (failed : FailedTest). IsFailure (RestFails basis read) failed) (sym p.2)
    (inr (
      all_ranked_pass basis read (c.in_ok-judge_ranked.ensures.ranked basis is same),
      inr (all_open_pass basis read (c.in_ok-judge_open.ensures basis is), inl (c.in_err-judge_rejected.ensures basis is)),
    )))

pub returns-then-not-each_has_status-clause-rest : goal.returns-then-not-each_has_status-clause-rest
returns-then-not-each_has_status-clause-rest c = λ basis is same.
    let read = c.args.lookup.now.read.now in
    inr (
      all_ranked_pass basis read (c.in_ok-judge_ranked.ensures.ranked basis is same),
      inr (
        all_open_pass basis read (c.in_ok-judge_open.ensures basis is),
        inr (
          rejected_not_fails basis read (c.in_ok-judge_rejected.ensures basis is),
          inl (refl, refl, not_where_false _ c.each_has_status.result c.if-not-each_has_status.true (c.each_has_status.ensures basis is)),
        ),
      ),
    )

pub returns-then-not-are_right_counts-clause-rest : goal.returns-then-not-are_right_counts-clause-rest
returns-then-not-are_right_counts-clause-rest c = λ basis is same.
    let read = c.args.lookup.now.read.now in
    inr (
      all_ranked_pass basis read (c.in_ok-judge_ranked.ensures.ranked basis is same),
      inr (
        all_open_pass basis read (c.in_ok-judge_open.ensures basis is),
        inr (
          rejected_not_fails basis read (c.in_ok-judge_rejected.ensures basis is),
          inr (
            owes_passes _ _ _ ((c.each_has_status.ensures basis is).0 c.if-not-each_has_status.false),
            (
              refl,
              refl,
              λ right. not_where_false _ c.are_right_counts.result c.if-not-are_right_counts.true c.are_right_counts.ensures
                  ((counts_exactly basis c.args.lookup.now is).1 right),
            ),
          ),
        ),
      ),
    )

pub returns-clause-rest : goal.returns-clause-rest
returns-clause-rest c = λ basis is same. record {
  ranked = c.in_ok-judge_ranked.ensures.ranked basis is same;
  unsettled = c.in_ok-judge_open.ensures basis is;
  rejected = c.in_ok-judge_rejected.ensures basis is;
  statuses = (c.each_has_status.ensures basis is).0 c.if-not-each_has_status.false;
  counts = (counts_exactly basis c.args.lookup.now is).0 (c.are_right_counts.ensures.0 c.if-not-are_right_counts.false);
}
