-- What a plan says of the command, and the limits of its numbers and names.
use Rattle.std.specs.Prelude.{◌≡◌, ◌≤◌, Result, Ok, Err}
use Rattle.tfpg_base.specs.Terms.{AreReportTerms}
use Rattle.tfpg_base.specs.declared.limits.TheConstants.{MAX_CASE_SIZE, MAX_TIME}
use Rattle.tfpg_words.specs.Meaning.{Meaning, Diagnose, Explain, Check, Simulate, Generate, Convert, Ask, Fleet, Predict}
use Rattle.tfpg_words.specs.Names.{AreNames}
use Rattle.tfpg_words.specs.Plans.{meaning_of}
use Rattle.tfpg_words.specs.declared.command.Planned.{Planned}
use Rattle.tfpg_words.specs.declared.plan_fault.PlanFault.{PlanFault}
use Rattle.tfpg_words.specs.declared.plan_fault.PlanFault.TheVariants as fault
use Rattle.tfpg_words.specs.declared.usage_cause.UsageCause.{UsageCause}

-- The command of a plan asks for this; a refusal gives its cause; and memory may run out on any words.
abbrev pub PlansCommand : Result Meaning UsageCause → Result Planned PlanFault → Type 0
PlansCommand meant (Ok planned) = meant ≡ Ok (meaning_of planned.command)
PlansCommand meant (Err (fault.Usage cause)) = meant ≡ Err cause
PlansCommand meant (Err fault.NoMemory) = Unit {0}

-- The numbers of the command are within their limits, and its names are names.
abbrev pub AreWithinLimits : Meaning → Type 0
AreWithinLimits (Diagnose terms graph) = AreReportTerms terms
AreWithinLimits (Explain graph log) = Unit {0}
AreWithinLimits (Check graph log) = Unit {0}
AreWithinLimits (Simulate draw trace graph script) = Unit {0}
AreWithinLimits (Generate draw size) = (1 ≤ size) × (size ≤ MAX_CASE_SIZE)
AreWithinLimits (Convert json graph) = Unit {0}
AreWithinLimits (Ask terms graph log) = AreReportTerms terms
AreWithinLimits (Fleet terms graph names) = AreReportTerms terms × AreNames names
AreWithinLimits (Predict terms ahead graph log node) = AreReportTerms terms × (ahead ≤ MAX_TIME)
