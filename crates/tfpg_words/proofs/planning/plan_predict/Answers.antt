use Rattle.std.proofs.Common.{map, subst, Result}
use Rattle.std.specs.String.{string_bytes}
use Rattle.tfpg_words.specs.declared.usage_cause.UsageCause.{UsageCause}
use Rattle.tfpg_words.specs.Meaning.{Meant}
use Rattle.tfpg_words.specs.Plans.{IsPlanOf}
use Rattle.tfpg_words.specs.inside.Parts.{rows_in}
use Rattle.tfpg_words.proofs.lemmas.Commands.{predict_is}
use Rattle.tfpg_words.proofs.planning.plan_predict.Goals as goal

pub returns : goal.returns
returns c =
    subst (λ (meant : Result Meant UsageCause). IsPlanOf meant c.plan_predict_by.result)
    (predict_is (map string_bytes c.args.words.now) (rows_in c.in_ok-parts.parts) c.in_ok-parts.ensures) c.plan_predict_by.ensures
