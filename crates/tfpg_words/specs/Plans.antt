-- What `plan` returns.
use Rattle.std.specs.Prelude.{◌≡◌, Result, Ok, Err}
use Rattle.tfpg_words.specs.declared.usage_cause.UsageCause.{UsageCause}
use Rattle.tfpg_words.specs.declared.plan_fault.PlanFault.{PlanFault}
use Rattle.tfpg_words.specs.declared.plan_fault.PlanFault.TheVariants as fault
use Rattle.tfpg_words.specs.declared.command.Command.{Command}
use Rattle.tfpg_words.specs.declared.command.Command.TheVariants as command
use Rattle.tfpg_words.specs.declared.command.Planned.{Planned}
use Rattle.tfpg_words.specs.Meaning.{Meaning, Meant, Diagnose, Explain, Check, Simulate, Generate, Convert, Ask, Fleet, Predict}
use Rattle.tfpg_base.specs.Words.{comma_parts}

-- what a command asks for
abbrev pub meaning_of : Command → Meaning
meaning_of (command.Diagnose k doubt budget graph) = Diagnose (record { k = k; doubt = doubt; budget = budget }) graph
meaning_of (command.Explain graph log) = Explain graph log
meaning_of (command.Check graph log) = Check graph log
meaning_of (command.Simulate draw trace graph script) = Simulate draw trace graph script
meaning_of (command.Generate draw size) = Generate draw size
meaning_of (command.Convert json graph) = Convert json graph
meaning_of (command.Ask k doubt budget graph log) = Ask (record { k = k; doubt = doubt; budget = budget }) graph log
meaning_of (command.Fleet k doubt budget graph names) =
    Fleet (record { k = k; doubt = doubt; budget = budget }) graph (comma_parts names)
meaning_of (command.Predict k doubt budget ahead graph log node) =
    Predict (record { k = k; doubt = doubt; budget = budget }) ahead graph log node

-- A plan has this meaning; a refusal gives its cause; and memory may run out on any words.
abbrev pub IsPlanOf : Result Meant UsageCause → Result Planned PlanFault → Type 0
IsPlanOf meant (Ok planned) = meant ≡ Ok (record { command = meaning_of planned.command; panels = planned.panels })
IsPlanOf meant (Err (fault.Usage cause)) = meant ≡ Err cause
IsPlanOf meant (Err fault.NoMemory) = Unit {0}
