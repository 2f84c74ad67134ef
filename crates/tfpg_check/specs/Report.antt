-- The report of a graph and a list of lines.
use Rattle.std.specs.Prelude.{◌≡◌, ℕ, ◌+◌, ◌<◌, ◌≤◌, List, [], ◌∷◌, ◌++◌, length, take, flat_map, All, AllPairs, if◌then◌else◌, Some, slice_get, Result, Ok, Err}
use Rattle.tfpg_base.specs.declared.terms.Terms.{Terms}
use Rattle.tfpg_base.specs.declared.limits.TheConstants.{MAX_LINE_NUMBER, MAX_PANEL_NUMBER}
use Rattle.tfpg_base.specs.Terms.{AreReportTerms}
use Rattle.tfpg_graph.specs.Graph.{Tfpg}
use Rattle.tfpg_log.specs.declared.event.Event.{Event}
use Rattle.tfpg_log.specs.declared.event.Offered.{Offered}
use Rattle.tfpg_log.specs.declared.event.Offered.TheVariants.{Accepted, Refused}
use Rattle.tfpg_log.specs.Log.{Logbook, with_event}
use Rattle.tfpg_log.specs.Accepted.{reply_to}
use Rattle.tfpg_log.specs.LogOfLines.{new_log, log_after, log_of_lines}
use Rattle.tfpg_base.specs.Lines.{is_too_long}
use Rattle.tfpg_evidence.specs.declared.round.Round.{Round}
use Rattle.tfpg_hyp.specs.Hypotheses.{HasHypotheses}
use Rattle.tfpg_hyp.specs.Rounds.{IsRound}
use Rattle.tfpg_hyp.specs.declared.limits.TheConstants.{MAX_HYPOTHESES}
use Rattle.tfpg_log.specs.declared.refused_line.RefusedLine.{RefusedLine}
use Rattle.tfpg_log.specs.declared.refused_line.RefusedLine.TheVariants.{TooLong, Offer}
use Rattle.tfpg_report.specs.Blocks.{head_text, Loss, Block, RefusedBlock, RoundBlock, block_text}

-- the event of a log's reply, or why there is none
abbrev pub event_of_reply : Offered → Result Event RefusedLine
event_of_reply (Accepted event) = Ok event
event_of_reply (Refused refusal) = Err (Offer refusal)

-- the event that a line brings, or why there is none
abbrev pub event_of_line : Tfpg → Logbook → List ℕ → Result Event RefusedLine
event_of_line graph log line = if is_too_long line then Err TooLong else event_of_reply (reply_to graph log line)

-- how far a report has come: the rounds and the log so far
pub record Progress : Type 0 where
  pub rounds : List Round
  pub log : Logbook

-- the round of a block
abbrev pub rounds_of : Block → List Round
rounds_of (RefusedBlock line cause) = []
rounds_of (RoundBlock round losses) = round ∷ []

-- nothing is reported yet
abbrev pub new_progress : Progress
new_progress = record { rounds = []; log = new_log }

-- how far a report has come after the block of one more line
abbrev pub progress_after : Tfpg → Progress → List ℕ → Block → Progress
progress_after graph before line block =
    record { rounds = before.rounds ++ rounds_of block; log = log_after graph before.log line }

-- how far a report of these lines with these blocks has come
abbrev pub progress_of : Tfpg → List (List ℕ) → List Block → Progress
progress_of graph lines blocks = record { rounds = flat_map rounds_of blocks; log = log_of_lines graph lines }

-- The panels that are lost at a round stand by rising numbers, none above the greatest.
pub record AreLosses (losses : List Loss) : Type 0 where
  pub numbers : All (λ loss. loss.panel ≤ MAX_PANEL_NUMBER) losses
  pub rising : AllPairs (λ earlier later. earlier.panel < later.panel) losses

-- What block a line has. A refused line has the block of its refusal. An accepted one has the block of some round that
-- meets the definition of a round for all events and all rounds so far; panels may be lost at it.
abbrev pub IsBlockOf : Tfpg → Terms → Progress → ℕ → Block → Result Event RefusedLine → Type 0
IsBlockOf graph terms before number block (Err cause) = block ≡ RefusedBlock number cause
IsBlockOf graph terms before number block (Ok event) =
    (round : Round) × (losses : List Loss) × (block ≡ RoundBlock round losses)
    × IsRound graph terms before.rounds (with_event before.log event) number round × AreLosses losses

-- This is the block of a line of this number, after what the report has come to.
abbrev pub IsBlock : Tfpg → Terms → Progress → ℕ → List ℕ → Block → Type 0
IsBlock graph terms before number line block =
    IsBlockOf graph terms before number block (event_of_line graph before.log line)

-- These are the blocks of the lines, one for each line in order. Lines are numbered from 1, and indexes from 0.
pub record AreBlocks (graph : Tfpg) (terms : Terms) (lines : List (List ℕ))
    (blocks : List Block) : Type 0 where
  pub one_each : length blocks ≡ length lines
  pub each : (index : ℕ) (line : List ℕ) (block : Block) → slice_get lines index ≡ Some line
      → slice_get blocks index ≡ Some block
      → IsBlock graph terms (progress_of graph (take index lines) (take index blocks)) (index + 1) line block

-- the text of a report with these blocks
abbrev pub report_text : Tfpg → Terms → List Block → List ℕ
report_text graph terms blocks = head_text terms ++ flat_map (block_text graph) blocks

-- There are reports of the graph on these terms: the terms are within their limits, and there are at most 4,096
-- hypotheses.
pub record HasReports (graph : Tfpg) (terms : Terms) : Type 0 where
  pub within : AreReportTerms terms
  pub few_hypotheses : (count : ℕ) → HasHypotheses graph terms count → count ≤ MAX_HYPOTHESES

-- The bytes are a report of the graph, on these terms and of these lines, with these blocks. No number in it that stands
-- for a line, a panel or a hypothesis, or that the terms give, is above its limit.
pub record IsReport (graph : Tfpg) (terms : Terms) (lines : List (List ℕ)) (blocks : List Block)
    (bytes : List ℕ) : Type 0 where
  pub has_reports : HasReports graph terms
  pub few_lines : length lines ≤ MAX_LINE_NUMBER
  pub are_blocks : AreBlocks graph terms lines blocks
  pub text : bytes ≡ report_text graph terms blocks
