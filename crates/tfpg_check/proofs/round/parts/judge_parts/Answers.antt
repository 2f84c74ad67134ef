use Rattle.std.proofs.Common.{◌≤◌, [], length, take, refl, sym, subst, arith, ◌∙◌}
use Rattle.std.proofs.lemmas.Result.{err_from_is_err_and}
use Rattle.std.proofs.lemmas.Option.{slice_get_read}
use Rattle.tfpg_report.specs.declared.read_round.Part.{Part}
use Rattle.tfpg_check.specs.Judging.{PartFails}
use Rattle.tfpg_check.specs.Tests.{InTurn}
use Rattle.tfpg_check.specs.inside.InTurn.{IsFaultOf}
use Rattle.tfpg_check.specs.inside.Parts.{kept_of}
use Rattle.tfpg_check.specs.declared.round_fault.RoundFault.{RoundFault}
use Rattle.tfpg_check.proofs.lemmas.judging.PartsSoFar.{first_none, first_more, first_all, keeps_number, fails_here}
use Rattle.tfpg_check.proofs.lemmas.judging.TestsInTurn.{next_none, next_step}
use Rattle.tfpg_check.proofs.round.parts.judge_parts.Goals as goal

pub loop-part-init : goal.loop-part-init
loop-part-init c = (
  refl,
  next_none (λ (part : Part). part.number),
  λ number least. refl,
  λ basis same_graph same_log keeps. first_none basis c.args.parts.now c.args.table.now c.args.checkers.now keeps,
)

pub returns-in_err-judge_part-clause-taken : goal.returns-in_err-judge_part-clause-taken
returns-in_err-judge_part-clause-taken c = λ basis same_graph same_log keeps.
    let at = slice_get_read c.args.parts.now (length c.args.parts.now) c.loop-part.part-index c.part-item.result refl c.loop-part-test.true c.part-item.is in
    let p = err_from_is_err_and c.from_residual.result c.from_residual.ensures.1 in
    rw p.1
    (subst (λ (fault : RoundFault). IsFaultOf (InTurn (PartFails basis) [] c.args.parts.now) fault) (sym p.2)
    (fails_here basis c.args.parts.now c.loop-part.part-index c.part-item.result c.in_err-judge_part.field-0.0 at (c.loop-part.invariant.3 basis same_graph same_log keeps).not_fails
    (c.in_err-judge_part.ensures.taken basis (take c.loop-part.part-index c.args.parts.now) same_graph (same_log ∙ sym c.loop-part.invariant.0) (sym keeps.hypotheses) c.loop-part.invariant.1
    (λ least. keeps_number basis c.args.parts.now c.args.table.now c.args.checkers.now c.loop-part.checkers c.part-item.result.number keeps (c.loop-part.invariant.2 c.part-item.result.number least)))))

pub loop-part-preserved : goal.loop-part-preserved
loop-part-preserved c =
    let at = slice_get_read c.args.parts.now (length c.args.parts.now) c.loop-part.part-index c.part-item.result refl c.loop-part-test.true c.part-item.is in
    let least : c.loop-part.next ≤ c.part-item.result.number = c.in_ok-judge_part.ensures.next refl in (
      c.in_ok-judge_part.ensures.log ∙ c.loop-part.invariant.0,
      next_step (λ (part : Part). part.number) c.args.parts.now c.loop-part.part-index c.loop-part.next c.part-item.result c.from-next.result at c.loop-part.invariant.1 least c.from-next.ensures,
      λ number more.
          c.in_ok-judge_part.ensures.others number (λ same. absurd (omega (arith, same, more, c.from-next.ensures)))
          ∙ c.loop-part.invariant.2 number (omega (arith, more, least, c.from-next.ensures)),
      λ basis same_graph same_log keeps.
          (let before = c.loop-part.invariant.3 basis same_graph same_log keeps in
          first_more basis c.args.parts.now c.args.table.now c.loop-part.part-index c.part-item.result c.loop-part.checkers c.judge_part.new.checkers at before
          ((c.loop-part.invariant.1 c.part-item.result.number).1 least) c.judge_part.auto.checkers c.in_ok-judge_part.ensures.others
          (c.in_ok-judge_part.ensures.taken basis (take c.loop-part.part-index c.args.parts.now) same_graph (same_log ∙ sym c.loop-part.invariant.0) (sym keeps.hypotheses) c.loop-part.invariant.1
          (λ next. keeps_number basis c.args.parts.now c.args.table.now c.args.checkers.now c.loop-part.checkers c.part-item.result.number keeps (c.loop-part.invariant.2 c.part-item.result.number next)))),
    )

pub returns-clause-taken : goal.returns-clause-taken
returns-clause-taken c = λ basis same_graph same_log keeps.
    first_all basis c.args.parts.now c.args.table.now c.loop-part.part-index (kept_of basis.terms c.args.table.now c.loop-part.checkers) c.loop-part-test.false
    (c.loop-part.invariant.3 basis same_graph same_log keeps)
