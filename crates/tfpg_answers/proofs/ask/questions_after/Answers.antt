use Rattle.std.proofs.lemmas.Result.{IfOk-weaker}
use Rattle.tfpg_answers.specs.Questions.{HasQuestions}
use Rattle.tfpg_answers.specs.inside.Asked.{SaysQuestionsOf}
use Rattle.tfpg_answers.proofs.lemmas.ask.Asked.{can_be_asked, has_questions}
use Rattle.tfpg_answers.proofs.ask.questions_after.Goals as goal

pub text_after-requires : goal.text_after-requires
text_after-requires g c =
    let old = c.args.diagnosis.now in
    can_be_asked c.the_table_is_one.ensures.hypotheses old.engine.graph old.engine.terms c.args.log.now c.take_text.new.self
    (c.in_ok-take_text.ensures old.engine.graph old.engine.terms c.requires.new) c.table-table.result.now c.table-table.ensures.table c.table-table.ensures.of c.requires.few c.requires.within

pub returns : goal.returns
returns g c =
    let old = c.args.diagnosis.now in
    IfOk-weaker c.text_after.result (λ text. SaysQuestionsOf c.take_text.new.self text.items) (λ text. HasQuestions old.engine.terms old.engine.graph c.args.log.now text.items)
    (λ text. has_questions c.the_table_is_one.ensures.hypotheses old.engine.graph old.engine.terms c.args.log.now c.take_text.new.self
    (c.in_ok-take_text.ensures old.engine.graph old.engine.terms c.requires.new) c.table-table.result.now c.table-table.ensures.table c.table-table.ensures.of c.requires.few text.items)
    c.text_after.ensures
