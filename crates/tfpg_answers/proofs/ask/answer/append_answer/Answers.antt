use Rattle.std.proofs.Common.{Err, ap, ◌∙◌}
use Rattle.tfpg_answers.proofs.lemmas.ask.Asked.{lists_questions, says_full}
use Rattle.tfpg_answers.proofs.ask.answer.append_answer.Goals as goal

pub returns-in-Ok : goal.returns-in-Ok
returns-in-Ok g c =
    lists_questions c.args.engine.now c.args.among.now c.budget.result c.args.engine.now.terms.budget c.budget.ensures c.args.into.now.items c.append_questions.new.into.items c.questions.result c.questions.ensures.refused
    c.append_questions.result c.in-Ok.questions c.as_slice.result.now c.graph.result.now c.in-Ok.is c.in-Ok.ensures.questions c.in-Ok.ensures.enough c.graph.ensures c.as_slice.ensures c.append_questions.ensures

pub returns-in-Err-Refused : goal.returns-in-Err-Refused
returns-in-Err-Refused g c =
    says_full c.args.engine.now c.args.among.now c.budget.result c.args.engine.now.terms.budget c.budget.ensures c.args.into.now.items c.append_line.new.into.items c.questions.result c.questions.ensures.refused
    c.append_line.result c.in-Err-Refused.field-0-0 (c.in-Err-Refused.is ∙ ap Err c.in-Err-Refused.field-0-is) c.append_line.ensures
