use Rattle.std.proofs.Common.{◌-◌, ℕ, List, sym, subst, arith, ◌∙◌}
use Rattle.std.proofs.lemmas.Bool.{false≢true}
use Rattle.tfpg_check.specs.inside.LargestParts.{IsPartAmong, IsPartOfOne, AreLargestFrom}
use Rattle.tfpg_check.proofs.lemmas.judging.PartsByNumber.{largest_over, largest_more}
use Rattle.tfpg_check.proofs.round.largest_parts.largest_parts.Goals as goal
use Rattle.tfpg_check.proofs.round.largest_parts.largest_parts.Goals.{else-is_part-via-then-is_part+else-not-is_part_of_any, else-is_part-via-else-is_part}

pub loop-number-preserved-then-not-is_part_of_any : goal.loop-number-preserved-then-not-is_part_of_any
loop-number-preserved-then-not-is_part_of_any c =
    let hypotheses = c.args.table.now.hypotheses in
    largest_more hypotheses c.args.whole (c.loop-number.number - 1) c.loop-number.parts.items
    (subst (λ (first : ℕ). AreLargestFrom hypotheses c.args.whole first c.loop-number.parts.items) (omega (arith, c.loop-number-test.true)) c.loop-number.invariant) c.push.new.self.items
    (omega (arith, c.loop-number-test.true, c.loop-number.auto.number)) (c.is_part.ensures.0 c.if-is_part.true) c.in_ok-push.ensures.items

pub loop-number-preserved : goal.loop-number-preserved
loop-number-preserved c =
    let hypotheses = c.args.table.now.hypotheses in
    let passed : IsPartAmong hypotheses (c.loop-number.number - 1) c.args.whole → IsPartOfOne hypotheses (c.loop-number.number - 1) c.loop-number.parts.items =
    elim c.else-is_part.branch [
      | else-is_part-via-then-is_part+else-not-is_part_of_any w ↦ λ is.
          subst (λ (parts : List ℕ). IsPartOfOne hypotheses (c.loop-number.number - 1) parts) w.as_slice.ensures.value (w.is_part_of_any.ensures.0 w.if-not-is_part_of_any.false)
      | else-is_part-via-else-is_part w ↦ λ is. absurd (false≢true (sym w.if-is_part.false ∙ c.is_part.ensures.1 is))
    ] in
    largest_over hypotheses c.args.whole (c.loop-number.number - 1) c.loop-number.parts.items
    (subst (λ (first : ℕ). AreLargestFrom hypotheses c.args.whole first c.loop-number.parts.items) (omega (arith, c.loop-number-test.true)) c.loop-number.invariant) passed
