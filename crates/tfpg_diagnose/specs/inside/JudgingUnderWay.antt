-- Judging the report of the input, under way and ended.
use Rattle.std.specs.Prelude.{◌≡◌, ◌⊎◌, ℕ, ◌+◌, ◌≤◌, List, [], length, take, Some, None, Ok}
use Rattle.tfpg_base.specs.declared.line.Line.TheVariants as line
use Rattle.tfpg_base.specs.declared.limits.TheConstants.{MAX_BYTES, MAX_LINE_NUMBER}
use Rattle.tfpg_base.specs.Lines.{Reading, LinesState, LinesRepresent, lines_of}
use Rattle.tfpg_base.specs.Outside.{SourceState, Takes, IsAtEnd}
use Rattle.tfpg_graph.specs.Valid.{IsValid}
use Rattle.tfpg_report.specs.declared.report_line.ReportLine.{ReportLine}
use Rattle.tfpg_check.specs.Causes.{DiagnosisProblem, AreRead, AreRight}
use Rattle.tfpg_check.specs.JudgeState.{JudgeState, JudgeRepresents}
use Rattle.tfpg_diagnose.specs.declared.report_lines.NextReportLine.{NextReportLine}
use Rattle.tfpg_diagnose.specs.declared.report_lines.NextReportLine.TheVariants.{Right, Ended}

-- the judging of a report at one moment: the input, the reader of lines and the judge
pub record CheckingState : Type 0 where
  pub input : SourceState
  pub lines : LinesState
  pub judge : JudgeState

-- the judging with these
abbrev pub checking_at : SourceState → LinesState → JudgeState → CheckingState
checking_at input lines judge = record { input = input; lines = lines; judge = judge }

-- The judge is of a valid graph and of a log that has not too many lines, and no line came to it yet.
pub record IsNewJudge (problem : DiagnosisProblem) (judge : JudgeState) : Type 0 where
  pub valid : IsValid problem.graph
  pub few : length problem.log_lines ≤ MAX_LINE_NUMBER
  pub represents : JudgeRepresents problem judge []

-- Reading lines that began with this input has come to this, and nothing has failed.
pub record IsReadingLines (before input : SourceState) (lines : LinesState) : Type 0 where
  pub reading : Reading
  pub takes : Takes before input reading.taken
  pub few : length reading.taken ≤ MAX_BYTES
  pub represents : LinesRepresent lines reading
  pub goes_on : (reading.ended ≡ None) ⊎ ((reading.ended ≡ Some (Ok line.End)) × IsAtEnd input)
  pub front : take (length reading.given) (lines_of reading.taken) ≡ reading.given
  pub no_fault : input.faults ≡ before.faults

-- Reading lines is under way, and the judge was given as many as the reader returned.
pub record IsReadingOn (before : SourceState) (now : CheckingState) : Type 0 where
  pub under : IsReadingLines before now.input now.lines
  pub counted : now.judge.lines ≡ now.lines.number

-- Judging that began with this input has come to this: each line that the reader returned was read and is right.
pub record IsChecking (problem : DiagnosisProblem) (before : SourceState) (now : CheckingState) : Type 0 where
  pub under : IsReadingLines before now.input now.lines
  pub reads : List ReportLine
  pub are_read : AreRead problem.graph under.reading.given reads
  pub right : AreRight problem reads
  pub represents : JudgeRepresents problem now.judge reads

-- The lines so far are right for whatever the judge is of.
pub record IsJudging (first : JudgeState) (before : SourceState) (now : CheckingState) : Type 0 where
  pub reads_on : IsReadingOn before now
  pub checks : (problem : DiagnosisProblem) → IsNewJudge problem first → IsChecking problem before now

-- some reading of lines has come to this
abbrev pub CanTakeNext : CheckingState → Type 0
CanTakeNext now = (before : SourceState) × IsReadingOn before now

-- The whole input was taken, and each of its lines was read and is right.
pub record HasJudgedAll (problem : DiagnosisProblem) (before now : SourceState) (judge : JudgeState) : Type 0 where
  pub taken : List ℕ
  pub takes : Takes before now taken
  pub few : length taken ≤ MAX_BYTES
  pub at_end : IsAtEnd now
  pub reads : List ReportLine
  pub are_read : AreRead problem.graph (lines_of taken) reads
  pub right : AreRight problem reads
  pub represents : JudgeRepresents problem judge reads
  pub no_fault : now.faults ≡ before.faults

-- Where a line was read, reading is under way still, one line on.
abbrev pub ReadsOn : SourceState → ℕ → CheckingState → NextReportLine → Type 0
ReadsOn before number now Right = IsReadingOn before now × (now.lines.number ≡ number + 1)
ReadsOn before number now Ended = Unit {0}

-- What judging the next line leads to: judging is under way still; or all is judged.
abbrev pub ChecksOn : DiagnosisProblem → SourceState → CheckingState → NextReportLine → Type 0
ChecksOn problem before now Right = IsChecking problem before now
ChecksOn problem before now Ended = HasJudgedAll problem before now.input now.judge
