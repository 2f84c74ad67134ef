-- Why lines are not accepted that are judged by a graph and a log.
use Rattle.std.specs.Prelude.{◌<◌, ℕ, List, length}
use Rattle.tfpg_base.specs.declared.limits.TheConstants.{MAX_BYTES}
use Rattle.tfpg_base.specs.Lines.{lines_of}
use Rattle.tfpg_check.specs.Causes.{IsCause, DiagnosisProblem}
use Rattle.tfpg_diagnose.specs.declared.texts.fault.CheckTextsFault.{CheckTextsFault}
use Rattle.tfpg_diagnose.specs.declared.texts.fault.CheckTextsFault.TheVariants.{Graph, NotAccepted, TooManyHypotheses, TooMuchInput, NoMemory}
use Rattle.tfpg_diagnose.specs.texts.Checks.{HaveTooManyInFirst}

-- The lines of the report are not accepted, with this cause. There is a graph.
abbrev pub LacksRounds : DiagnosisProblem → List ℕ → CheckTextsFault → Type 0
LacksRounds problem report (Graph fault) = ⊥
LacksRounds problem report (NotAccepted line cause) = IsCause problem (lines_of report) line cause
LacksRounds problem report (TooManyHypotheses count) = HaveTooManyInFirst problem (lines_of report) count
LacksRounds problem report TooMuchInput = MAX_BYTES < length report
LacksRounds problem report NoMemory = Unit {0}
