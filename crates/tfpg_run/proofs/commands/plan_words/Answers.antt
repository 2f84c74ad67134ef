use Rattle.std.proofs.Common.{Ok, Err, ap, map}
use Rattle.std.specs.Prelude.{Result}
use Rattle.std.specs.String.{string_bytes}
use Rattle.tfpg_words.specs.Meaning.{Meaning, Meant, and_then, meant_by}
use Rattle.tfpg_words.specs.Plans.{IsPlanOf}
use Rattle.tfpg_words.specs.declared.command.Planned.{Planned}
use Rattle.tfpg_words.specs.declared.plan_fault.PlanFault.{PlanFault}
use Rattle.tfpg_words.specs.declared.plan_fault.PlanFault.TheVariants.{Usage, NoMemory}
use Rattle.tfpg_words.specs.declared.usage_cause.UsageCause.{UsageCause}
use Rattle.tfpg_run.specs.inside.Plans.{PlansCommand}
use Rattle.tfpg_run.proofs.commands.plan_words.Goals as goal

abbrev command_meant : Result Meant UsageCause → Result Meaning UsageCause
command_meant meant = and_then meant (λ found. Ok found.command)

by_plan : (meant : Result Meant UsageCause) (result : Result Planned PlanFault) → IsPlanOf meant result → PlansCommand (and_then meant (λ found. Ok found.command)) result
by_plan meant (Ok planned) is = ap command_meant is
by_plan meant (Err (Usage cause)) is = ap command_meant is
by_plan meant (Err NoMemory) is = tt

pub returns : goal.returns
returns c = by_plan (meant_by (map string_bytes c.args.words.now)) c.plan.result c.plan.ensures
