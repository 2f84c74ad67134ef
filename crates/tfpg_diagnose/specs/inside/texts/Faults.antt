-- How the faults of the layers below become those of calls over texts.
use Rattle.std.specs.Prelude.{◌≡◌, ◌⊎◌, ◌<◌, List, ℕ, length}
use Rattle.tfpg_base.specs.declared.limits.TheConstants.{MAX_BYTES}
use Rattle.tfpg_base.specs.declared.line.LineFault.TheVariants as lines
use Rattle.tfpg_graph.specs.declared.cause.GraphRefusal.{GraphRefusal}
use Rattle.tfpg_graph.specs.declared.cause.GraphRefusal.TheVariants as refusal
use Rattle.tfpg_hyp.specs.declared.table.TableFault.{TableFault}
use Rattle.tfpg_hyp.specs.declared.table.TableFault.TheVariants as table
use Rattle.tfpg_diagnose.specs.declared.fault.CheckFault.{CheckFault}
use Rattle.tfpg_diagnose.specs.declared.fault.CheckFault.TheVariants as checking
use Rattle.tfpg_streams.specs.declared.fault.StreamFault.{StreamFault}
use Rattle.tfpg_streams.specs.declared.fault.StreamFault.TheVariants as streams
use Rattle.tfpg_diagnose.specs.declared.texts.fault.OpenFault.{OpenFault}
use Rattle.tfpg_diagnose.specs.declared.texts.fault.OpenFault.TheVariants as opening
use Rattle.tfpg_diagnose.specs.declared.texts.fault.ReportFault.{ReportFault}
use Rattle.tfpg_diagnose.specs.declared.texts.fault.ReportFault.TheVariants as reporting
use Rattle.tfpg_diagnose.specs.declared.texts.fault.CheckTextsFault.{CheckTextsFault}
use Rattle.tfpg_diagnose.specs.declared.texts.fault.CheckTextsFault.TheVariants as check

-- why there is no diagnosis where there is no graph
abbrev pub open_fault_of_refusal : GraphRefusal → OpenFault
open_fault_of_refusal (refusal.Fault fault) = opening.Graph fault
open_fault_of_refusal refusal.NoMemory = opening.NoMemory

-- why there is no diagnosis where there is no table of hypotheses
abbrev pub open_fault_of_table : TableFault → OpenFault
open_fault_of_table (table.TooMany count) = opening.TooManyHypotheses count
open_fault_of_table table.NoMemory = opening.NoMemory

-- why there is no report where there is no diagnosis
abbrev pub report_fault_of_open : OpenFault → ReportFault
report_fault_of_open opening.OutOfRange = reporting.OutOfRange
report_fault_of_open (opening.Graph fault) = reporting.Graph fault
report_fault_of_open (opening.TooManyHypotheses count) = reporting.TooManyHypotheses count
report_fault_of_open opening.NoMemory = reporting.NoMemory

-- why a report is not written in memory, where no read fails and a write fails only if memory runs out
abbrev pub report_fault_of_stream : StreamFault → ReportFault
report_fault_of_stream streams.TooMuchInput = reporting.TooMuchInput
report_fault_of_stream streams.ReadFault = reporting.NoMemory
report_fault_of_stream streams.WriteFault = reporting.NoMemory
report_fault_of_stream streams.NoMemory = reporting.NoMemory

-- why a report is not judged where there is no graph
abbrev pub check_texts_fault_of_refusal : GraphRefusal → CheckTextsFault
check_texts_fault_of_refusal (refusal.Fault fault) = check.Graph fault
check_texts_fault_of_refusal refusal.NoMemory = check.NoMemory

-- why a report is not accepted that was judged in memory, which no read fails
abbrev pub check_texts_fault_of_check : CheckFault → CheckTextsFault
check_texts_fault_of_check (checking.NotAccepted line cause) = check.NotAccepted line cause
check_texts_fault_of_check (checking.TooMany count) = check.TooManyHypotheses count
check_texts_fault_of_check (checking.Lines lines.TooMuchInput) = check.TooMuchInput
check_texts_fault_of_check (checking.Lines lines.ReadFault) = check.NoMemory
check_texts_fault_of_check checking.NoMemory = check.NoMemory

-- Why a report was not written where there was an engine: memory ran out, or the log is too long.
abbrev pub IsWritingFault : List ℕ → ReportFault → Type 0
IsWritingFault log_text fault = (fault ≡ reporting.NoMemory) ⊎ ((fault ≡ reporting.TooMuchInput) × (MAX_BYTES < length log_text))
