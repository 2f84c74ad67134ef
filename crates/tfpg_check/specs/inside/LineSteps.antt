-- What the judge does with a line of a report.
use Rattle.std.specs.Prelude.{◌≡◌, ◌⊎◌, ℕ, ◌+◌, ◌-◌, ◌<◌, ◌^◌, List, [], length, All, Option, None, Result, Ok, Err}
use Rattle.tfpg_graph.specs.Graph.{Tfpg}
use Rattle.tfpg_report.specs.declared.fed.Fed.{Fed}
use Rattle.tfpg_report.specs.declared.report_line.ReportLine.{ReportLine}
use Rattle.tfpg_report.specs.ReportLines.{IsLineWithin}
use Rattle.tfpg_report.specs.Reading.{begun_in}
use Rattle.tfpg_report.specs.Represents.{ReaderState, ReaderRepresents, TakesReportLine, NoneMayCome}
use Rattle.tfpg_check.specs.declared.cause.CheckCause.TheVariants as cause
use Rattle.tfpg_check.specs.declared.judge_fault.JudgeFault.{JudgeFault}
use Rattle.tfpg_check.specs.declared.judge_fault.JudgeFault.TheVariants.{NotAccepted, TooMany, NoMemory}
use Rattle.tfpg_check.specs.JudgeState.{BlocksState}
use Rattle.tfpg_check.specs.inside.BlockSteps.{IsFedJudged}

-- The reader represents some lines, as many as were counted. Those of a round that has not ended are within their limits, and there
-- are hypotheses unless there is no line.
pub record CanRead (reader : ReaderState) (blocks : BlocksState) (lines : ℕ) : Type 0 where
  pub reads : List ReportLine
  pub reader_is : ReaderRepresents reader reads
  pub counted : lines ≡ length reads
  pub within : All (IsLineWithin blocks.graph) (begun_in reads)
  pub begun : blocks.hypotheses ≡ None → reads ≡ []

-- what stays true of a judge
pub record IsJudge (reader : ReaderState) (blocks : BlocksState) (lines : ℕ) (fault : Option JudgeFault) : Type 0 where
  pub few : lines < 2 ^ 64 - 1
  pub ready : fault ≡ None → reader.refused ≡ None
  pub reading : fault ≡ None → CanRead reader blocks lines

-- No report begins with these lines and this one.
abbrev pub IsNotRead : Tfpg → List ReportLine → List ℕ → Result (Unit {0}) JudgeFault → Type 0
IsNotRead graph reads bytes (Ok done) = ⊥
IsNotRead graph reads bytes (Err (NotAccepted line why)) =
    (line ≡ length reads + 1) × (why ≡ cause.BadReport) × NoneMayCome graph reads bytes
IsNotRead graph reads bytes (Err (TooMany count)) = ⊥
IsNotRead graph reads bytes (Err NoMemory) = Unit {0}

-- What is returned for a line after these: no report begins with it too, or what it completes is judged.
abbrev pub IsLineJudged : List ReportLine → List ℕ → ReaderState → BlocksState → BlocksState → Result (Unit {0}) JudgeFault → Type 0
IsLineJudged reads bytes reader old new result =
    IsNotRead old.graph reads bytes result
    ⊎ ((fed : Fed) × TakesReportLine old.graph reads bytes reader fed × IsFedJudged (length reads + 1) fed old new result)
