-- A diagnosis under way.
use Rattle.std.specs.Prelude.{◌+◌, ◌≡◌, ◌⊎◌, ℕ, ◌≤◌, List, length, take, flat_map, All, Some, None, Ok}
use Rattle.tfpg_base.specs.declared.line.Line.TheVariants as line
use Rattle.tfpg_base.specs.Lines.{Reading, LinesState, LinesRepresent, lines_of}
use Rattle.tfpg_base.specs.declared.limits.TheConstants.{MAX_BYTES}
use Rattle.tfpg_base.specs.Outside.{Takes, Puts, IsAtEnd}
use Rattle.tfpg_graph.specs.Graph.{Tfpg}
use Rattle.tfpg_engine.specs.EngineState.{EngineState}
use Rattle.tfpg_report.specs.Blocks.{Block}
use Rattle.tfpg_check.specs.Report.{HasReports, AreBlocks, report_text, progress_of, rounds_of}
use Rattle.tfpg_base.specs.declared.terms.Terms.{Terms}
use Rattle.tfpg_diagnose.specs.declared.report.NextBlock.{NextBlock}
use Rattle.tfpg_diagnose.specs.declared.report.NextBlock.TheVariants.{Written, Ended}
use Rattle.tfpg_diagnose.specs.TellsPanels.{TellsPanels, desks}
use Rattle.tfpg_diagnose.specs.RightReport.{RoundsSay}
use Rattle.tfpg_diagnose.specs.EngineReports.{EngineReports}
use Rattle.tfpg_diagnose.specs.Diagnosing.{Diagnoses}
use Rattle.tfpg_diagnose.specs.Work.{AreBlocksWithin, IsReportWithin}
use Rattle.tfpg_streams.specs.Outputs.{WorksToEnd}
use Rattle.tfpg_streams.specs.Streams.{CountsUnchanged}
use Rattle.tfpg_diagnose.specs.Watched.{Watched, streams_in}

-- a diagnosis at one moment: the streams with the desk, the reader of lines and the engine
pub record DiagnosisState : Type 0 where
  pub streams : Watched
  pub lines : LinesState
  pub engine : EngineState

-- the diagnosis with these
abbrev pub diagnosis_at : Watched → LinesState → EngineState → DiagnosisState
diagnosis_at streams lines engine = record { streams = streams; lines = lines; engine = engine }

-- A diagnosis that began with the streams before has come to this: each line that the reader has returned has its
-- block, which is written, and nothing else was written but the head. Nothing has failed.
pub record IsDiagnosing (graph : Tfpg) (terms : Terms) (before : Watched) (now : DiagnosisState) : Type 0 where
  pub reading : Reading
  pub takes : Takes before.input now.streams.input reading.taken
  pub few : length reading.taken ≤ MAX_BYTES
  pub represents : LinesRepresent now.lines reading
  pub goes_on : (reading.ended ≡ None) ⊎ ((reading.ended ≡ Some (Ok line.End)) × IsAtEnd now.streams.input)
  pub front : take (length reading.given) (lines_of reading.taken) ≡ reading.given
  pub blocks : List Block
  pub writes : Puts before.output now.streams.output (report_text graph terms blocks)
  pub has_reports : HasReports graph terms
  pub are_blocks : AreBlocks graph terms reading.given blocks
  pub tells : TellsPanels (flat_map rounds_of blocks) blocks (desks before.desk now.streams.desk)
  pub numbered : All (λ round. round.number ≤ length now.engine.log.events) (flat_map rounds_of blocks)
  pub say : RoundsSay graph terms reading.given blocks
  pub reports : EngineReports graph terms now.engine (progress_of graph reading.given blocks)
  pub no_fault : CountsUnchanged (streams_in before) (streams_in now.streams)

-- A diagnosis has come to this, and since it began the count of calls went from one number to the other, within the limits of its
-- blocks.
pub record IsDiagnosingWithin (graph : Tfpg) (terms : Terms) (before : Watched) (now : DiagnosisState) (start end : ℕ) : Type 0 where
  pub under : IsDiagnosing graph terms before now
  pub within : AreBlocksWithin graph under.reading.given under.blocks start end

-- What writing the next block leads to, where the count of calls went from one number to the other since the diagnosis began.
abbrev pub ComesToWithin : Tfpg → Terms → Watched → DiagnosisState → ℕ → ℕ → NextBlock → Type 0
ComesToWithin graph terms before now start end Written = IsDiagnosingWithin graph terms before now start end
ComesToWithin graph terms before now start end Ended =
    WorksToEnd (IsReportWithin graph terms start end) (streams_in before) (streams_in now.streams)

-- What writing the block after the line of this number leads to: the diagnosis is under way still, one line on; or it is done.
abbrev pub ComesTo : Tfpg → Terms → Watched → ℕ → DiagnosisState → NextBlock → Type 0
ComesTo graph terms before number now Written =
    IsDiagnosing graph terms before now × (now.lines.number ≡ number + 1)
ComesTo graph terms before number now Ended = Diagnoses graph terms before now.streams (Ok tt)
