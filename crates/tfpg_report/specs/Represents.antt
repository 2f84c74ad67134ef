-- Which lines a reader of reports represents, and what it says of the next one.
use Rattle.std.specs.Prelude.{◌≡◌, ℕ, ◌+◌, ◌-◌, List, [], ◌∷◌, ◌++◌, length, Option, Some}
use Rattle.tfpg_graph.specs.Graph.{Tfpg}
use Rattle.tfpg_report.specs.declared.fed.Fed.{Fed}
use Rattle.tfpg_report.specs.declared.fed.ReadRefusal.{ReadRefusal}
use Rattle.tfpg_report.specs.declared.stand.Stand.{Stand}
use Rattle.tfpg_report.specs.declared.report_line.ReportLine.{ReportLine}
use Rattle.tfpg_report.specs.Stands.{stand_of}
use Rattle.tfpg_report.specs.ReadRounds.{NumberedLine, numbered_from}
use Rattle.tfpg_report.specs.Reading.{begun_in, Completes, MayCome}

-- What contracts see of a reader: why it refused a line, if it did; how many lines it took; what may come next; the lines of
-- the round that has not ended.
pub record ReaderState : Type 0 where
  pub refused : Option ReadRefusal
  pub taken : ℕ
  pub stand : Stand
  pub begun : List NumberedLine

-- The reader represents these lines, all that it has taken: they may come in this order, and it keeps those of the round that
-- has not ended.
pub record ReaderRepresents (reader : ReaderState) (lines : List ReportLine) : Type 0 where
  pub taken : reader.taken ≡ length lines
  pub stands : stand_of lines ≡ Some reader.stand
  pub begun : reader.begun ≡ numbered_from (length lines - length (begun_in lines) + 1) (begun_in lines)

-- After these lines of a report the bytes say one that may come. The reader says what it completes, and represents it too.
pub record TakesReportLine (graph : Tfpg) (lines : List ReportLine) (bytes : List ℕ) (now : ReaderState) (fed : Fed) : Type 0 where
  pub read : ReportLine
  pub may_come : MayCome graph lines bytes read
  pub completes : Completes lines read fed
  pub represents : ReaderRepresents now (lines ++ read ∷ [])

-- After these lines of a report the bytes say none that may come.
abbrev pub NoneMayCome : Tfpg → List ReportLine → List ℕ → Type 0
NoneMayCome graph lines bytes = (read : ReportLine) → MayCome graph lines bytes read → ⊥
