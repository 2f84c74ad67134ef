-- For which cause a report is not accepted, and at which of its lines.
use Rattle.std.specs.Prelude.{◌≡◌, ◌≢◌, ◌⊎◌, ℕ, ◌+◌, ◌-◌, ◌<◌, ◌≤◌, List, [], ◌∷◌, ◌++◌, length, take, drop, flat_map, Option, Some, None, option_map, slice_get, Result, Ok, Err}
use Rattle.tfpg_base.specs.declared.terms.Terms.{Terms}
use Rattle.tfpg_base.specs.Lines.{lines_of}
use Rattle.tfpg_base.specs.Words.{line_of}
use Rattle.tfpg_graph.specs.Graph.{Tfpg}
use Rattle.tfpg_log.specs.declared.event.Event.{Event}
use Rattle.tfpg_log.specs.Log.{with_event}
use Rattle.tfpg_hyp.specs.Table.{IsTable}
use Rattle.tfpg_hyp.specs.Rounds.{steps_so_far}
use Rattle.tfpg_log.specs.declared.refused_line.RefusedLine.{RefusedLine}
use Rattle.tfpg_report.specs.declared.read_round.ReadRound.{ReadRound}
use Rattle.tfpg_report.specs.declared.stand.Stand.{Stand}
use Rattle.tfpg_report.specs.declared.report_line.ReportLine.{ReportLine}
use Rattle.tfpg_report.specs.declared.report_line.ReportLine.TheVariants as line
use Rattle.tfpg_report.specs.LineWords.{old_head_words}
use Rattle.tfpg_report.specs.ReportLines.{Says}
use Rattle.tfpg_report.specs.Stands.{stand_of}
use Rattle.tfpg_report.specs.Blocks.{Block, block_lines}
use Rattle.tfpg_report.specs.Reading.{begun_in, IsHead, IsReadFrom, MayCome}
use Rattle.tfpg_check.specs.Report.{Progress, IsReport, HasReports, AreBlocks, event_of_line, progress_of, rounds_of}
use Rattle.tfpg_check.specs.declared.cause.CheckCause.{CheckCause}
use Rattle.tfpg_check.specs.declared.cause.CheckCause.TheVariants as cause
use Rattle.tfpg_check.specs.Tests.{Fails, Owes}
use Rattle.tfpg_check.specs.Judging.{RoundBasis, RoundFails}

-- What a report is of: the graph, and the lines of the log.
pub record DiagnosisProblem : Type 0 where
  pub graph : Tfpg
  pub log_lines : List (List ℕ)

-- The lines of a report say these, and each may come where it stands.
pub record AreRead (graph : Tfpg) (lines : List (List ℕ)) (reads : List ReportLine) : Type 0 where
  pub one_each : length reads ≡ length lines
  pub each : (index : ℕ) (bytes : List ℕ) (read : ReportLine) → slice_get lines index ≡ Some bytes
      → slice_get reads index ≡ Some read → Says graph read bytes
  pub stand : Stand
  pub stands : stand_of reads ≡ Some stand

-- The lines are the first line of a report on these terms, the right blocks of the first lines of the log, and the beginning of
-- a round.
pub record AreRightSoFar (problem : DiagnosisProblem) (terms : Terms) (blocks : List Block) (reads : List ReportLine) : Type 0 where
  pub has_reports : HasReports problem.graph terms
  pub head : ReportLine
  pub is_head : IsHead terms head
  pub few : length blocks ≤ length problem.log_lines
  pub are_blocks : AreBlocks problem.graph terms (take (length blocks) problem.log_lines) blocks
  pub lines_are : reads ≡ head ∷ flat_map block_lines blocks ++ begun_in reads

-- how far the report has come after these blocks
abbrev pub progress_after_blocks : DiagnosisProblem → List Block → Progress
progress_after_blocks problem blocks = progress_of problem.graph (take (length blocks) problem.log_lines) blocks

-- what a round that comes after these blocks is judged by, with the event of its line
pub record IsRoundBasis (problem : DiagnosisProblem) (terms : Terms) (blocks : List Block) (event : Event) (basis : RoundBasis) : Type 0 where
  pub graph : basis.graph ≡ problem.graph
  pub terms_are : basis.terms ≡ terms
  pub hypotheses : IsTable problem.graph terms basis.hypotheses
  pub steps : (number : ℕ) → basis.steps number ≡ steps_so_far number (progress_after_blocks problem blocks).rounds
  pub log : basis.log ≡ with_event (progress_after_blocks problem blocks).log event

-- what the next line of the log brings after these blocks, if there is one
abbrev pub next_event : DiagnosisProblem → List Block → Option (Result Event RefusedLine)
next_event problem blocks =
    option_map (event_of_line problem.graph (progress_after_blocks problem blocks).log) (slice_get problem.log_lines (length blocks))

-- the line of a report on which the block begins that has begun in these lines, or comes after them
abbrev pub block_begins : List ReportLine → ℕ
block_begins before = length before - length (begun_in before) + 1

-- The block that this line completes, after these blocks and lines, fails by what the next line of the log brings: there is no such line;
-- that has another block; or a test of the round fails. Only refused lines and counts complete a block.
abbrev pub BlockFails : DiagnosisProblem → Terms → List Block → List ReportLine → ReportLine → Option (Result Event RefusedLine) → Fails
BlockFails problem terms blocks before (line.Refused number said) None at why = (at ≡ block_begins before) × (why ≡ cause.Surplus)
BlockFails problem terms blocks before (line.Counts counts) None at why = (at ≡ block_begins before) × (why ≡ cause.Surplus)
BlockFails problem terms blocks before (line.Refused number said) (Some brings) at why =
    Owes ((brings ≡ Err said) × (number ≡ length blocks + 1)) (block_begins before) cause.WrongRound at why
BlockFails problem terms blocks before (line.Counts counts) (Some (Err refused)) at why = (at ≡ block_begins before) × (why ≡ cause.WrongRound)
BlockFails problem terms blocks before (line.Counts counts) (Some (Ok event)) at why =
    (read : ReadRound) × (basis : RoundBasis) × IsReadFrom (block_begins before) (begun_in before ++ line.Counts counts ∷ []) read
    × IsRoundBasis problem terms blocks event basis × RoundFails basis (length blocks + 1) read at why
BlockFails problem terms blocks before _ next at why = ⊥

-- Nothing is wrong with these lines: there is none, or they are right so far.
abbrev pub AreRight : DiagnosisProblem → List ReportLine → Type 0
AreRight problem reads =
    (reads ≡ []) ⊎ ((terms : Terms) × (blocks : List Block) × AreRightSoFar problem terms blocks reads)

-- After these lines, which are right, the next one is refused: no report begins with it too, or it completes a block that fails.
abbrev pub LineFails : DiagnosisProblem → List ReportLine → List ℕ → Fails
LineFails problem before bytes at why =
    ((why ≡ cause.BadReport) × (at ≡ length before + 1) × ((read : ReportLine) → MayCome problem.graph before bytes read → ⊥))
    ⊎ ((read : ReportLine) × (terms : Terms) × (blocks : List Block) × MayCome problem.graph before bytes read
    × AreRightSoFar problem terms blocks before × BlockFails problem terms blocks before read (next_event problem blocks) at why)

-- After these lines, which are right, the report ends too early: it is empty, ends in a round, or has no block for the last
-- line of the log.
abbrev pub EndFails : DiagnosisProblem → List ReportLine → Fails
EndFails problem reads at why =
    (why ≡ cause.EndsEarly) × (at ≡ length reads + 1)
    × ((reads ≡ [])
    ⊎ ((terms : Terms) × (blocks : List Block) × AreRightSoFar problem terms blocks reads
    × ((begun_in reads ≢ []) ⊎ (length blocks < length problem.log_lines))))

-- The lines of a report that come before the cause are right, and then comes the cause: at a line, or at their end.
pub record IsCause (problem : DiagnosisProblem) (lines : List (List ℕ)) (at : ℕ) (why : CheckCause) : Type 0 where
  pub before : List (List ℕ)
  pub reads : List ReportLine
  pub are_read : AreRead problem.graph before reads
  pub right : AreRight problem reads
  pub fails : ((bytes : List ℕ) × (more : List (List ℕ)) × (lines ≡ before ++ bytes ∷ more) × LineFails problem reads bytes at why)
      ⊎ ((lines ≡ before) × EndFails problem reads at why)

-- The lines are those of a report of the graph and the log, on these terms and with these blocks. If it doubts nothing, its first
-- line may have the older form.
pub record AreReportLines (problem : DiagnosisProblem) (terms : Terms) (blocks : List Block) (lines : List (List ℕ)) : Type 0 where
  pub bytes : List ℕ
  pub report : IsReport problem.graph terms problem.log_lines blocks bytes
  pub lines_are : (lines ≡ lines_of bytes)
      ⊎ ((terms.doubt ≡ 0) × (lines ≡ line_of (old_head_words terms.k terms.budget) ∷ drop 1 (lines_of bytes)))

-- So are they, on some terms, with so many rounds.
pub record AreAcceptedLines (problem : DiagnosisProblem) (lines : List (List ℕ)) (rounds : ℕ) : Type 0 where
  pub terms : Terms
  pub blocks : List Block
  pub report : AreReportLines problem terms blocks lines
  pub counted : rounds ≡ length (flat_map rounds_of blocks)
