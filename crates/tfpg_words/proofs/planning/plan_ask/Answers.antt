use Rattle.std.proofs.Common.{map, subst, Result}
use Rattle.std.specs.String.{string_bytes}
use Rattle.tfpg_words.specs.declared.usage_cause.UsageCause.{UsageCause}
use Rattle.tfpg_words.specs.Meaning.{Meant}
use Rattle.tfpg_words.specs.Plans.{IsPlanOf}
use Rattle.tfpg_words.specs.inside.Parts.{rows_in}
use Rattle.tfpg_words.proofs.lemmas.Commands.{ask_is}
use Rattle.tfpg_words.proofs.planning.plan_ask.Goals as goal

pub returns : goal.returns
returns c =
    subst (λ (meant : Result Meant UsageCause). IsPlanOf meant c.plan_ask_by.result)
    (ask_is (map string_bytes c.args.words.now) (rows_in c.in_ok-parts.parts) c.in_ok-parts.ensures) c.plan_ask_by.ensures
