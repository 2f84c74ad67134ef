-- The faults of the calls of the judge among its own.
use Rattle.tfpg_hyp.specs.declared.table.TableFault.{TableFault}
use Rattle.tfpg_hyp.specs.declared.table.TableFault.TheVariants as table
use Rattle.tfpg_report.specs.declared.fed.ReadRefusal.{ReadRefusal}
use Rattle.tfpg_report.specs.declared.fed.ReadRefusal.TheVariants as refusal
use Rattle.tfpg_check.specs.declared.cause.CheckCause.TheVariants as cause
use Rattle.tfpg_check.specs.declared.judge_fault.JudgeFault.{JudgeFault}
use Rattle.tfpg_check.specs.declared.judge_fault.JudgeFault.TheVariants.{NotAccepted, TooMany, NoMemory}
use Rattle.tfpg_check.specs.declared.round_fault.RoundFault.{RoundFault}
use Rattle.tfpg_check.specs.declared.round_fault.RoundFault.TheVariants as round

-- of the reader of reports
abbrev pub fault_of_refusal : ReadRefusal → JudgeFault
fault_of_refusal (refusal.BadReport line) = NotAccepted line cause.BadReport
fault_of_refusal refusal.NoMemory = NoMemory

-- of the table of hypotheses
abbrev pub fault_of_table : TableFault → JudgeFault
fault_of_table (table.TooMany count) = TooMany count
fault_of_table table.NoMemory = NoMemory

-- of a round
abbrev pub fault_of_round : RoundFault → JudgeFault
fault_of_round (round.NotAccepted line why) = NotAccepted line why
fault_of_round round.NoMemory = NoMemory
