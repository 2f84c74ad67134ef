-- What the rounds of a report say, beyond the definition of a round.
use Rattle.std.specs.Prelude.{◌≡◌, ◌++◌, ℕ, List, take, flat_map, Some, slice_get}
use Rattle.tfpg_graph.specs.Graph.{Tfpg}
use Rattle.tfpg_log.specs.Log.{Logbook}
use Rattle.tfpg_log.specs.LogOfLines.{log_after}
use Rattle.tfpg_evidence.specs.declared.round.Round.{Round}
use Rattle.tfpg_hyp.specs.Rounds.{HasNoneOpen}
use Rattle.tfpg_hyp.specs.Fitting.{SayWhichSetsFit, AreStatusesOfMinimalSets}
use Rattle.tfpg_search.specs.Enough.{IsEnough}
use Rattle.tfpg_engine.specs.Earned.{AreEarned}
use Rattle.tfpg_report.specs.Blocks.{Block, RefusedBlock, RoundBlock, head_text}
use Rattle.tfpg_check.specs.Report.{Progress, IsReport, progress_of, rounds_of}
use Rattle.tfpg_base.specs.declared.terms.Terms.{Terms}
use Rattle.tfpg_diagnose.specs.TellsPanels.{Desks, TellsPanels, rounds_in}

-- What a round says of this log, where it comes after these rounds. Its steps are earned. Its statuses say which hypotheses
-- fit. Where none is open, they are those of the minimal ones that fit. With a budget that is enough, none is open.
pub record RoundSays (graph : Tfpg) (terms : Terms) (rounds : List Round) (log : Logbook) (round : Round) : Type 0 where
  pub earned : AreEarned graph log terms rounds round
  pub fitting : SayWhichSetsFit graph log terms round.findings
  pub minimal : HasNoneOpen round → AreStatusesOfMinimalSets graph log terms round.findings
  pub none_open : IsEnough graph log terms.budget → HasNoneOpen round

-- What the block of a line promises after the rounds and the log so far: its round says what a round says of the log
-- with the line, after these rounds. The block of a refused line has no round, and promises nothing.
abbrev pub BlockSays : Tfpg → Terms → Progress → List ℕ → Block → Type 0
BlockSays graph terms before line (RefusedBlock number cause) = Unit {0}
BlockSays graph terms before line (RoundBlock round losses) =
    RoundSays graph terms before.rounds (log_after graph before.log line) round

-- Each block of a report on these lines keeps the promise of the block of its line, after the blocks before it.
abbrev pub RoundsSay : Tfpg → Terms → List (List ℕ) → List Block → Type 0
RoundsSay graph terms lines blocks =
    (index : ℕ) (line : List ℕ) (block : Block) → slice_get lines index ≡ Some line
    → slice_get blocks index ≡ Some block
    → BlockSays graph terms (progress_of graph (take index lines) (take index blocks)) line block

-- The bytes are what a diagnosis of the graph on these terms writes for these lines: a report of theirs, each of whose
-- rounds says what a round says. The panels were told all of its rounds, and those that were lost are those that it says.
pub record IsRightReport (graph : Tfpg) (terms : Terms) (desk : Desks) (lines : List (List ℕ)) (bytes : List ℕ) : Type 0 where
  pub blocks : List Block
  pub report : IsReport graph terms lines blocks bytes
  pub say : RoundsSay graph terms lines blocks
  pub tells : TellsPanels (flat_map rounds_of blocks) blocks desk

-- The bytes begin such a report. The panels were told its rounds up to which its text is written.
pub record BeginsRightReport (graph : Tfpg) (terms : Terms) (desk : Desks) (lines : List (List ℕ)) (bytes : List ℕ) : Type 0 where
  pub more : List ℕ
  pub blocks : List Block
  pub report : IsReport graph terms lines blocks (bytes ++ more)
  pub say : RoundsSay graph terms lines blocks
  pub tells : TellsPanels (rounds_in graph bytes (head_text terms) blocks) blocks desk
