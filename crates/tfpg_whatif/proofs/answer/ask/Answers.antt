use Rattle.std.proofs.lemmas.Result.{IfOk-weaker}
use Rattle.tfpg_whatif.specs.Outcomes.{asked_of}
use Rattle.tfpg_whatif.proofs.lemmas.Asked.{answer_outcomes, answer_keeps, answer_foresees, answer_known}
use Rattle.tfpg_whatif.proofs.answer.ask.Goals as goal

pub returns-clause-outcomes : goal.returns-clause-outcomes
returns-clause-outcomes g c =
    IfOk-weaker c.answer.result _ _
    (λ outcomes answer. answer_outcomes c.outcomes_foresee_rounds.ensures (asked_of c.args.engine.now c.args.among.now c.args.budget) c.args.line.now outcomes answer) c.answer.ensures.answer

pub returns-clause-keeps : goal.returns-clause-keeps
returns-clause-keeps g c =
    IfOk-weaker c.answer.result _ _
    (λ outcomes answer. answer_keeps c.outcomes_foresee_rounds.ensures (asked_of c.args.engine.now c.args.among.now c.args.budget) c.args.line.now outcomes answer) c.answer.ensures.answer

pub returns-clause-foresee : goal.returns-clause-foresee
returns-clause-foresee g c lengthened by =
    IfOk-weaker c.answer.result _ _
    (λ outcomes answer. answer_foresees c.outcomes_foresee_rounds.ensures (asked_of c.args.engine.now c.args.among.now c.args.budget) c.args.line.now outcomes answer lengthened by) c.answer.ensures.answer

pub returns-clause-enough : goal.returns-clause-enough
returns-clause-enough g c lengthened by enough =
    IfOk-weaker c.answer.result _ _
    (λ outcomes answer. answer_known c.outcomes_foresee_rounds.ensures (asked_of c.args.engine.now c.args.among.now c.args.budget) c.args.line.now outcomes answer lengthened by enough) c.answer.ensures.answer
