use Rattle.tfpg_base.proofs.lemmas.Appended.{Appends-err_after}
use Rattle.tfpg_answers.proofs.ask.answer.append_questions.Goals as goal

pub returns-in_err-append_question : goal.returns-in_err-append_question
returns-in_err-append_question c = Appends-err_after _ _ _ _ _ _ c.from_residual.ensures.0 c.loop-question.invariant c.in_err-append_question.ensures
