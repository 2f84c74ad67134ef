-- What holds of the lines of a report: each can be read, they have no cause, and lines that are accepted to the end are such; and no lines
-- have more than one cause.
use Rattle.std.specs.Prelude.{◌≡◌, ℕ, ◌<◌, ◌≤◌, List, ◌∷◌, length, flat_map, Some, slice_get}
use Rattle.tfpg_base.specs.declared.limits.TheConstants.{MAX_BYTES, MAX_LINE_NUMBER}
use Rattle.tfpg_base.specs.Lines.{lines_of}
use Rattle.tfpg_base.specs.declared.terms.Terms.{Terms}
use Rattle.tfpg_graph.specs.Valid.{IsValid}
use Rattle.tfpg_hyp.specs.Hypotheses.{HasHypotheses}
use Rattle.tfpg_hyp.specs.declared.limits.TheConstants.{MAX_HYPOTHESES}
use Rattle.tfpg_report.specs.declared.report_line.ReportLine.{ReportLine}
use Rattle.tfpg_report.specs.Blocks.{Block, block_lines}
use Rattle.tfpg_report.specs.Reading.{IsHead}
use Rattle.tfpg_report.specs.ReportLines.{Says}
use Rattle.tfpg_check.specs.declared.cause.CheckCause.{CheckCause}
use Rattle.tfpg_check.specs.Causes.{AreAcceptedLines, AreRead, AreReportLines, DiagnosisProblem, IsCause}
use Rattle.tfpg_check.specs.Judged.{IsWhole}

-- Bytes, not too many, whose lines are those of a report of a valid graph and a log: the lines say its first line and the lines of its
-- blocks, and each may come where it stands.
abbrev pub LinesOfReportsCanBeRead : Type 0
LinesOfReportsCanBeRead =
    (problem : DiagnosisProblem) (terms : Terms) (blocks : List Block) (bytes : List ℕ)
    → IsValid problem.graph → AreReportLines problem terms blocks (lines_of bytes) → length bytes ≤ MAX_BYTES
    → (head : ReportLine) × IsHead terms head × AreRead problem.graph (lines_of bytes) (head ∷ flat_map block_lines blocks)

-- A report of a valid graph and a log has no cause, where its lines say its first line and the lines of its blocks, and each may come where
-- it stands.
abbrev pub ReportsHaveNoCause : Type 0
ReportsHaveNoCause =
    (problem : DiagnosisProblem) (terms : Terms) (blocks : List Block) (lines : List (List ℕ)) (head : ReportLine) (at : ℕ) (why : CheckCause)
    → IsValid problem.graph → AreReportLines problem terms blocks lines
    → IsHead terms head → AreRead problem.graph lines (head ∷ flat_map block_lines blocks) → IsCause problem lines at why → ⊥

-- So bytes, not too many, whose lines are those of a report of a valid graph and a log have no cause.
abbrev pub ShortReportsHaveNoCause : Type 0
ShortReportsHaveNoCause =
    (problem : DiagnosisProblem) (terms : Terms) (blocks : List Block) (bytes : List ℕ) (at : ℕ) (why : CheckCause)
    → IsValid problem.graph → AreReportLines problem terms blocks (lines_of bytes) → length bytes ≤ MAX_BYTES
    → IsCause problem (lines_of bytes) at why → ⊥

-- Lines that each can be read, and that are the whole report of a valid graph and a log of not too many lines, as the judge says at their
-- end, are those of a report.
abbrev pub WholeLinesAreThoseOfReports : Type 0
WholeLinesAreThoseOfReports =
    (problem : DiagnosisProblem) (lines : List (List ℕ)) (reads : List ReportLine) (rounds : ℕ)
    → IsValid problem.graph → length problem.log_lines ≤ MAX_LINE_NUMBER
    → AreRead problem.graph lines reads → IsWhole problem reads rounds → AreAcceptedLines problem lines rounds

-- Lines, whatever they are, have no more than one cause, at one line.
abbrev pub LinesHaveOneCause : Type 0
LinesHaveOneCause =
    (problem : DiagnosisProblem) (lines : List (List ℕ)) (at other : ℕ) (why also : CheckCause)
    → IsValid problem.graph → IsCause problem lines at why → IsCause problem lines other also → (at ≡ other) × (why ≡ also)

-- Lines have no cause where the first of them says terms on which there are more than 4,096 hypotheses: they are not judged.
abbrev pub LinesOfTooManyHaveNoCause : Type 0
LinesOfTooManyHaveNoCause =
    (problem : DiagnosisProblem) (lines : List (List ℕ)) (first : List ℕ) (head : ReportLine) (terms : Terms) (count at : ℕ) (why : CheckCause)
    → IsValid problem.graph → slice_get lines 0 ≡ Some first → Says problem.graph head first → IsHead terms head
    → HasHypotheses problem.graph terms count → MAX_HYPOTHESES < count → IsCause problem lines at why → ⊥
