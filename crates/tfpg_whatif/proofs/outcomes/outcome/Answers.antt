use Rattle.std.proofs.Common.{ap, sym}
use Rattle.tfpg_whatif.specs.inside.Asking.{outcome_by}
use Rattle.tfpg_whatif.proofs.outcomes.outcome.Goals as goal

pub returns-in-Shown : goal.returns-in-Shown
returns-in-Shown c = ap (λ found. outcome_by found c.args.steps) (sym c.in-Shown.is)

pub returns-in-Closed : goal.returns-in-Closed
returns-in-Closed c = ap (λ found. outcome_by found c.args.steps) (sym c.in-Closed.is)

pub returns-in-Spent : goal.returns-in-Spent
returns-in-Spent c = ap (λ found. outcome_by found c.args.steps) (sym c.in-Spent.is)
