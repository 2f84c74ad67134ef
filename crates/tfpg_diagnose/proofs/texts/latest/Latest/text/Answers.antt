use Rattle.std.proofs.Common.{sym, ◌∙◌}
use Rattle.std.proofs.lemmas.Result.{IfOk-weaker}
use Rattle.tfpg_diagnose.proofs.lemmas.texts.SessionLines.{text_of_refusal}
use Rattle.tfpg_diagnose.proofs.texts.latest.Latest.text.Goals as goal

pub returns-in-Some : goal.returns-in-Some
returns-in-Some c =
    IfOk-weaker c.refused_text.result _ _ (λ text made. made ∙ sym (text_of_refusal c.args.engine.now.graph c.args.engine.now.terms c.args.number c.args.self.now c.in-Some.cause c.in-Some.is)) c.refused_text.ensures
