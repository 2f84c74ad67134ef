-- The line says what the next line of the log is refused for, with its number.
use Rattle.std.proofs.Common.{◌≡◌, rules, ap, subst, ◌∙◌}
use Rattle.tfpg_check.specs.JudgeState.{BlocksState}
use Rattle.tfpg_check.specs.inside.BlockSteps.{IsNextLine}
use Rattle.tfpg_check.proofs.lemmas.going_on.BlocksJudged.{refused_as_said}
use Rattle.tfpg_check.proofs.block_judge.BlockJudge.judge_refused.Goals as goal

pub returns-then-number-passed-clause-judged : goal.returns-then-number-passed-clause-judged
returns-then-number-passed-clause-judged g c =
    let same : c.in-Refused.refused ≡ c.args.cause = search rules in
    refused_as_said c.args.self.now c.pass_line.new.self c.in-Refused.refused c.args.cause c.args.number c.passed.result
    (subst (IsNextLine c.args.self.now c.pass_line.new.self) c.in-Refused.is c.in_ok-pass_line.ensures.next) same
    (c.passed.ensures ∙ ap (λ (state : BlocksState). state.log_lines.passed) c.self.view_is)
    c.if-number-passed.true
