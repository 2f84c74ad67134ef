-- What the judge of reports returns, after the lines that it was given.
use Rattle.std.specs.Prelude.{◌≡◌, ℕ, ◌<◌, List, [], ◌∷◌, ◌++◌, length, flat_map, Result, Ok, Err}
use Rattle.tfpg_base.specs.declared.terms.Terms.{Terms}
use Rattle.tfpg_hyp.specs.Hypotheses.{HasHypotheses}
use Rattle.tfpg_hyp.specs.declared.limits.TheConstants.{MAX_HYPOTHESES}
use Rattle.tfpg_report.specs.declared.report_line.ReportLine.{ReportLine}
use Rattle.tfpg_report.specs.Blocks.{Block}
use Rattle.tfpg_report.specs.Reading.{begun_in, IsHead, MayCome}
use Rattle.tfpg_check.specs.Report.{rounds_of}
use Rattle.tfpg_check.specs.declared.judge_fault.JudgeFault.{JudgeFault}
use Rattle.tfpg_check.specs.declared.judge_fault.JudgeFault.TheVariants.{NotAccepted, TooMany, NoMemory}
use Rattle.tfpg_check.specs.Causes.{DiagnosisProblem, AreRightSoFar, AreRight, LineFails, EndFails}

-- The line that comes after these is right, and goes on from them.
pub record GoesOnRight (problem : DiagnosisProblem) (before : List ReportLine) (bytes : List ℕ) (read : ReportLine) : Type 0 where
  pub may_come : MayCome problem.graph before bytes read
  pub right : AreRight problem (before ++ read ∷ [])

-- The line is the first one of a report, and there are more than 4,096 hypotheses on its terms, exactly this many.
pub record HasTooMany (problem : DiagnosisProblem) (before : List ReportLine) (bytes : List ℕ) (count : ℕ) : Type 0 where
  pub first : before ≡ []
  pub read : ReportLine
  pub may_come : MayCome problem.graph before bytes read
  pub terms : Terms
  pub is_head : IsHead terms read
  pub too_many : MAX_HYPOTHESES < count
  pub counted : HasHypotheses problem.graph terms count

-- What is returned for a line that comes after these, which are right. Nothing is said where memory ran out.
abbrev pub IsJudged : DiagnosisProblem → List ReportLine → List ℕ → Result (Unit {0}) JudgeFault → Type 0
IsJudged problem before bytes (Ok done) = (read : ReportLine) × GoesOnRight problem before bytes read
IsJudged problem before bytes (Err (NotAccepted at why)) = AreRight problem before × LineFails problem before bytes at why
IsJudged problem before bytes (Err (TooMany count)) = HasTooMany problem before bytes count
IsJudged problem before bytes (Err NoMemory) = Unit {0}

-- The lines are the whole report: blocks of all lines of the log, with so many rounds.
pub record IsWhole (problem : DiagnosisProblem) (reads : List ReportLine) (rounds : ℕ) : Type 0 where
  pub terms : Terms
  pub blocks : List Block
  pub right : AreRightSoFar problem terms blocks reads
  pub none_begun : begun_in reads ≡ []
  pub all_lines : length blocks ≡ length problem.log_lines
  pub counted : rounds ≡ length (flat_map rounds_of blocks)

-- What is returned at the end of these lines.
abbrev pub IsJudgedAtEnd : DiagnosisProblem → List ReportLine → Result ℕ JudgeFault → Type 0
IsJudgedAtEnd problem reads (Ok rounds) = IsWhole problem reads rounds
IsJudgedAtEnd problem reads (Err (NotAccepted at why)) = AreRight problem reads × EndFails problem reads at why
IsJudgedAtEnd problem reads (Err (TooMany count)) = ⊥
IsJudgedAtEnd problem reads (Err NoMemory) = ⊥
