use Rattle.std.proofs.Common.{◌+◌, ◌-◌, ◌/◌, refl, subst}
use Rattle.tfpg_predict.specs.inside.Quests.{asked_by}
use Rattle.tfpg_predict.specs.inside.Tried.{IsTried}
use Rattle.tfpg_predict.specs.declared.trial.Tried.{Tried}
use Rattle.tfpg_predict.proofs.lemmas.Halving.{unsettled_within}
use Rattle.tfpg_predict.proofs.forecasting.+halve.Goals as goal

pub returns-in-Spent : goal.returns-in-Spent
returns-in-Spent g t c =
    let quest = c.args.quest.now in
    unsettled_within quest c.args.low c.args.high (c.args.low + (c.args.high - c.args.low) / 2) c.args.trace c.args.earlier c.requires.halved c.if-low-high.false refl c.in-Spent.steps
    (subst (λ (tried : Tried). IsTried (asked_by quest) quest.hypothesis.set quest.budget (c.args.low + (c.args.high - c.args.low) / 2) tried) c.in-Spent.is c.in_ok-other.ensures)
