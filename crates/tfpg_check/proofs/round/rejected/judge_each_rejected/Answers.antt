use Rattle.std.proofs.Common.{◌≡◌, ◌<◌, ◌+◌, ℕ, length, map, take, sym, ap, subst, arith, ◌∙◌}
use Rattle.tfpg_check.specs.Judging.{RejectedFails, named_hypothesis}
use Rattle.tfpg_check.specs.inside.Lookups.{is_newly_closed}
use Rattle.tfpg_check.proofs.lemmas.judging.NewlyClosed.{passing_below, below_few}
use Rattle.tfpg_check.proofs.lemmas.judging.RejectedLines.{rejected_pass, rejected_differ, rejected_left}
use Rattle.tfpg_check.proofs.lemmas.judging.RejectedSoFar.{rejected_more, rejected_same}
use Rattle.tfpg_check.proofs.lemmas.judging.TestsInTurn.{not_where_false}
use Rattle.tfpg_check.proofs.round.rejected.judge_each_rejected.Goals as goal
use Rattle.tfpg_check.proofs.round.rejected.judge_each_rejected.Goals.{then-is_newly_closed+else-not-names, else-is_newly_closed}

pub returns-then-not-names : goal.returns-then-not-names
returns-then-not-names c = λ basis is.
    subst (RejectedFails basis c.args.lookup.now.read.now c.fails_at.result.line) (sym c.fails_at.ensures.cause)
    (rejected_differ basis c.args.lookup.now is c.loop-number.index c.loop-number.number c.fails_at.result.line (omega (arith, c.loop-number-test.true, c.len-number-end.ensures.count))
    (sym c.is_newly_closed.ensures ∙ c.if-is_newly_closed.true) c.loop-number.invariant.0 c.loop-number.invariant.1
    (not_where_false _ c.names.result c.if-not-names.true c.names.ensures) c.fails_at.ensures.line)

pub overflow_add-index : goal.overflow_add-index
overflow_add-index c =
    omega (
      arith,
      c.loop-number.invariant.1,
      c.loop-number-test.true,
      c.len-number-end.ensures.few,
      below_few (is_newly_closed c.args.lookup.now) c.args.lookup.now.table.now.hypotheses c.loop-number.number,
    )

pub loop-number-preserved : goal.loop-number-preserved
loop-number-preserved c =
    let lookup = c.args.lookup.now in
    let within : c.loop-number.number < length lookup.table.now.hypotheses = omega (arith, c.loop-number-test.true, c.len-number-end.ensures.count) in
    let after : ℕ → Type 0 =
    λ index. (take index (map named_hypothesis lookup.read.now.rejected) ≡ passing_below (is_newly_closed lookup) lookup.table.now.hypotheses (c.loop-number.number + 1))
    × (length (passing_below (is_newly_closed lookup) lookup.table.now.hypotheses (c.loop-number.number + 1)) ≡ index) in
    elim c.if-is_newly_closed.branch [
      | then-is_newly_closed+else-not-names w ↦
          subst after (sym w.index-is)
          (rejected_more lookup c.loop-number.index c.loop-number.number within (sym c.is_newly_closed.ensures ∙ w.if-is_newly_closed.true) c.loop-number.invariant.0 c.loop-number.invariant.1
          (w.names.ensures.0 w.if-not-names.false))
      | else-is_newly_closed w ↦
          subst after (sym w.index-is)
          (rejected_same lookup c.loop-number.index c.loop-number.number (sym c.is_newly_closed.ensures ∙ w.if-is_newly_closed.false) c.loop-number.invariant.0 c.loop-number.invariant.1)
    ]

pub returns-then-index-as_slice : goal.returns-then-index-as_slice
returns-then-index-as_slice c = λ basis is.
    let rows = c.len-number-end.ensures.count in
    subst (RejectedFails basis c.args.lookup.now.read.now c.fails_at-then-index-as_slice.result.line) (sym c.fails_at-then-index-as_slice.ensures.cause)
    (rejected_left basis c.args.lookup.now is c.loop-number.index c.loop-number.number c.fails_at-then-index-as_slice.result.line (omega (arith, rows, c.loop-number-test.false))
    (omega (arith, rows, c.loop-number.auto.number-end)) (omega (arith, c.if-index-as_slice.true, ap length c.as_slice.ensures)) c.loop-number.invariant.0 c.loop-number.invariant.1
    c.fails_at-then-index-as_slice.ensures.line)

pub returns : goal.returns
returns c = λ basis is.
    let rows = c.len-number-end.ensures.count in
    rejected_pass basis c.args.lookup.now is c.loop-number.index c.loop-number.number (omega (arith, rows, c.loop-number-test.false)) (omega (arith, rows, c.loop-number.auto.number-end))
    (omega (arith, c.if-index-as_slice.false, ap length c.as_slice.ensures)) c.loop-number.invariant.0
