-- The report of an input that is judged: that it is accepted, or why it is not.
use Rattle.std.specs.Prelude.{◌≡◌, ℕ, ◌<◌, ◌≤◌, List, ◌++◌, length, flat_map, slice_get, Some, ◌+◌, take}
use Rattle.tfpg_base.specs.declared.terms.Terms.{Terms}
use Rattle.tfpg_base.specs.declared.limits.TheConstants.{MAX_BYTES}
use Rattle.tfpg_base.specs.Lines.{lines_of, whole_lines}
use Rattle.tfpg_base.specs.Outside.{SourceState, Takes, IsAtEnd, Rose}
use Rattle.tfpg_graph.specs.Graph.{Tfpg}
use Rattle.tfpg_hyp.specs.Hypotheses.{HasHypotheses}
use Rattle.tfpg_hyp.specs.declared.limits.TheConstants.{MAX_HYPOTHESES}
use Rattle.tfpg_report.specs.declared.report_line.ReportLine.{ReportLine}
use Rattle.tfpg_report.specs.Blocks.{Block}
use Rattle.tfpg_report.specs.ReportLines.{Says}
use Rattle.tfpg_report.specs.Reading.{IsHead}
use Rattle.tfpg_check.specs.declared.cause.CheckCause.{CheckCause}
use Rattle.tfpg_check.specs.declared.cause.CheckCause.TheVariants.{EndsEarly}
use Rattle.tfpg_check.specs.Report.{rounds_of}
use Rattle.tfpg_check.specs.Causes.{DiagnosisProblem, AreRead, AreRight, AreReportLines, IsCause}
use Rattle.tfpg_diagnose.specs.declared.fault.CheckFault.{CheckFault}
use Rattle.tfpg_diagnose.specs.declared.fault.CheckFault.TheVariants.{NotAccepted, TooMany, Lines, NoMemory}
use Rattle.tfpg_streams.specs.Streams.{HasLeft}
use Rattle.tfpg_base.specs.declared.line.LineFault.TheVariants.{ReadFault, TooMuchInput}

-- what a report is judged by: the graph, and the lines of the log's text
abbrev pub problem_of : Tfpg → List ℕ → DiagnosisProblem
problem_of graph text = record { graph = graph; log_lines = lines_of text }

-- Nothing is wrong with these lines of a report.
abbrev pub IsRightSoFar : DiagnosisProblem → List (List ℕ) → Type 0
IsRightSoFar problem lines = (reads : List ReportLine) × AreRead problem.graph lines reads × AreRight problem reads

-- The input is what was taken and what is left, and this is the cause for which its lines are not accepted, at this line. A report
-- that ends early was read to its end.
pub record IsRefused (problem : DiagnosisProblem) (now : SourceState) (taken : List ℕ) (line : ℕ) (cause : CheckCause) : Type 0 where
  pub rest : List ℕ
  pub left : HasLeft now rest
  pub is_cause : IsCause problem (lines_of (taken ++ rest)) line cause
  pub ended : cause ≡ EndsEarly → IsAtEnd now

-- The first line of the input gives more than 4,096 hypotheses, exactly this many.
pub record HasTooManyInHead (problem : DiagnosisProblem) (now : SourceState) (taken : List ℕ) (count : ℕ) : Type 0 where
  pub rest : List ℕ
  pub left : HasLeft now rest
  pub first : List ℕ
  pub at : slice_get (lines_of (taken ++ rest)) 0 ≡ Some first
  pub head : ReportLine
  pub says : Says problem.graph head first
  pub terms : Terms
  pub is_head : IsHead terms head
  pub too_many : MAX_HYPOTHESES < count
  pub counted : HasHypotheses problem.graph terms count

-- The lines of the whole input are those of a report with so many rounds.
pub record AcceptsReport (problem : DiagnosisProblem) (before now : SourceState) (rounds : ℕ) : Type 0 where
  pub taken : List ℕ
  pub takes : Takes before now taken
  pub few : length taken ≤ MAX_BYTES
  pub at_end : IsAtEnd now
  pub terms : Terms
  pub blocks : List Block
  pub report : AreReportLines problem terms blocks (lines_of taken)
  pub counted : rounds ≡ length (flat_map rounds_of blocks)
  pub no_fault : now.faults ≡ before.faults

-- what shows why the report is not accepted, where these bytes were taken
abbrev pub ShowsCheckFault : DiagnosisProblem → SourceState → SourceState → List ℕ → CheckFault → Type 0
ShowsCheckFault problem before now taken (NotAccepted at why) = IsRefused problem now taken at why × (now.faults ≡ before.faults)
ShowsCheckFault problem before now taken (TooMany count) = HasTooManyInHead problem now taken count × (now.faults ≡ before.faults)
ShowsCheckFault problem before now taken (Lines ReadFault) =
    Rose before.faults now.faults × IsRightSoFar problem (whole_lines taken)
ShowsCheckFault problem before now taken (Lines TooMuchInput) =
    (length taken ≡ MAX_BYTES + 1) × IsRightSoFar problem (whole_lines (take MAX_BYTES taken)) × (now.faults ≡ before.faults)
ShowsCheckFault problem before now taken NoMemory = now.faults ≡ before.faults

-- The report of the input is not accepted, with this cause.
pub record LacksReport (problem : DiagnosisProblem) (before now : SourceState) (fault : CheckFault) : Type 0 where
  pub taken : List ℕ
  pub takes : Takes before now taken
  pub shown : ShowsCheckFault problem before now taken fault
