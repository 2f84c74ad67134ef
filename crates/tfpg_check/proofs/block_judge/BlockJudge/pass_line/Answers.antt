-- The line that was offered is the next one.
use Rattle.std.proofs.Common.{subst, sym}
use Rattle.tfpg_check.specs.inside.BlockSteps.{IsNextLine}
use Rattle.tfpg_check.proofs.lemmas.going_on.BlocksJudged.{offered_is_passed, passed_is_next}
use Rattle.tfpg_check.proofs.block_judge.BlockJudge.pass_line.Goals as goal

pub returns-clause-next : goal.returns-clause-next
returns-clause-next g c =
    subst (IsNextLine c.args.self.now _) (sym c.of.ensures)
    (passed_is_next c.args.self.now _ c.in_ok-event.event
    (offered_is_passed c.args.self.now c.self.inside.graph c.self.inside.log_lines c.pass.new.self c.self.inside.log c.event_of.new.log c.self.inside.hypotheses c.in-Some.text.now c.in_ok-event.event
    c.self.view_is c.in-Some.ensures c.pass.ensures c.in_ok-event.ensures.log c.in_ok-event.ensures.event))
