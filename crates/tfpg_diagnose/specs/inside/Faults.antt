-- How the fault of a judge becomes that of judging the report of an input.
use Rattle.tfpg_check.specs.declared.judge_fault.JudgeFault.{JudgeFault}
use Rattle.tfpg_check.specs.declared.judge_fault.JudgeFault.TheVariants as judge
use Rattle.tfpg_diagnose.specs.declared.fault.CheckFault.{CheckFault}
use Rattle.tfpg_diagnose.specs.declared.fault.CheckFault.TheVariants as check

-- why a report is not accepted whose judge reports this fault
abbrev pub check_fault_of_judge : JudgeFault → CheckFault
check_fault_of_judge (judge.NotAccepted line cause) = check.NotAccepted line cause
check_fault_of_judge (judge.TooMany count) = check.TooMany count
check_fault_of_judge judge.NoMemory = check.NoMemory
