-- The lines are a whole report, or it ends too early.
use Rattle.std.proofs.Common.{ℕ, ◌+◌, length, sym, ap, subst, ◌∙◌}
use Rattle.std.proofs.lemmas.Bool.{false≢true}
use Rattle.tfpg_check.specs.declared.cause.CheckCause.TheVariants as cause
use Rattle.tfpg_check.specs.Causes.{AreRight, EndFails}
use Rattle.tfpg_check.specs.JudgeState.{JudgeState}
use Rattle.tfpg_check.proofs.lemmas.going_on.AtTheEnd.{whole_at_end, early_at_end}
use Rattle.tfpg_check.proofs.judge.Judge.end.Goals as goal

pub returns-then-is_whole-clause-ends : goal.returns-then-is_whole-clause-ends
returns-then-is_whole-clause-ends g c = λ problem reads represents.
    let both = c.is_whole.ensures.0 c.if-is_whole.true in
    whole_at_end problem reads c.args.self.now represents c.rounds.result (c.rounds.ensures ∙ ap (λ (s : JudgeState). length s.blocks.log.events) c.self.view_is) both.0 both.1

pub returns-clause-ends : goal.returns-clause-ends
returns-clause-ends g c = λ problem reads represents.
    subst (λ (n : ℕ). AreRight problem reads × EndFails problem reads (n + 1) cause.EndsEarly) (sym (ap (λ (s : JudgeState). s.lines) c.self.view_is))
    (early_at_end problem reads c.args.self.now represents (λ may none. false≢true (sym c.if-is_whole.false ∙ c.is_whole.ensures.1 (may, none))))
