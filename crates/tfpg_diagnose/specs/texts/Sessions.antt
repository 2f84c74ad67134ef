-- A session: a diagnosis that takes the lines of a log one by one.
use Rattle.std.specs.Prelude.{◌≡◌, ◌≤◌, ℕ, ◌+◌, ◌-◌, List, [], length, flat_map, Option, Some, None}
use Rattle.tfpg_base.specs.declared.terms.Terms.{Terms}
use Rattle.tfpg_graph.specs.Graph.{Tfpg}
use Rattle.tfpg_log.specs.LogOfLines.{log_of_lines}
use Rattle.tfpg_evidence.specs.declared.round.Round.{Round}
use Rattle.tfpg_engine.specs.EngineState.{EngineState, EngineRepresents, calls_of_engine}
use Rattle.tfpg_report.specs.Blocks.{Block, block_text, head_text}
use Rattle.tfpg_check.specs.Report.{IsBlock, rounds_of}
use Rattle.tfpg_diagnose.specs.Work.{IsBlockLimit}
use Rattle.tfpg_diagnose.specs.declared.texts.latest.Latest.{Latest}
use Rattle.tfpg_diagnose.specs.texts.Latest.{latest_after, text_of_latest}
use Rattle.tfpg_diagnose.specs.texts.Opening.{GivesGraphOf}
use Rattle.tfpg_diagnose.specs.texts.Reports.{IsPlainReport}

-- What contracts see of a session: its engine, the number of its next line, and what came last. Once memory has run out there is no next
-- line.
pub record SessionState : Type 0 where
  pub engine : EngineState
  pub next : Option ℕ
  pub latest : Latest

-- how many lines a session took that can take one more: the number before that of its next line
abbrev pub lines_before : Option ℕ → ℕ
lines_before None = 0
lines_before (Some next) = next - 1

-- the text of what came last in a session: the block of its last line, and before any line the first line of its report
abbrev pub latest_text : SessionState → List ℕ
latest_text session = text_of_latest session.engine.graph session.engine.terms (lines_before session.next) session.latest

-- The session represents these lines and bytes: its engine is of this graph and on these terms and took these lines, and the bytes, the first
-- line and then the block of each line, one after the other, are a report of these lines. It keeps what came last in these blocks.
pub record SessionRepresents (graph : Tfpg) (terms : Terms) (lines : List (List ℕ)) (bytes : List ℕ) (session : SessionState) : Type 0 where
  pub report : IsPlainReport graph terms lines bytes
  pub next_is : session.next ≡ Some (length lines + 1)
  pub graph_is : session.engine.graph ≡ graph
  pub terms_is : session.engine.terms ≡ terms
  pub log_is : session.engine.log ≡ log_of_lines graph lines
  pub represents : EngineRepresents session.engine (flat_map rounds_of report.blocks)
  pub latest_is : session.latest ≡ latest_after report.blocks

-- The session is of the graph that the text spells, took no line, made no counted call, and its text is the first line of a report.
pub record IsNewSession (graph_text : List ℕ) (terms : Terms) (session : SessionState) : Type 0 where
  pub graph : Tfpg
  pub gives : GivesGraphOf graph_text graph
  pub represents : SessionRepresents graph terms [] (head_text terms) session
  pub text_is : latest_text session ≡ head_text terms
  pub no_calls : calls_of_engine session.engine ≡ 0

-- The bytes are the text of a right block of a line that came to an engine after these rounds. For it the count of calls went from one number
-- to the other, by at most the limit of the block: that of its round, and 0 for a refused line.
pub record CountsBlock (engine : EngineState) (rounds : List Round) (line bytes : List ℕ) (start end : ℕ) : Type 0 where
  pub number : ℕ
  pub block : Block
  pub is_block : IsBlock engine.graph engine.terms (record { rounds = rounds; log = engine.log }) number line block
  pub text : bytes ≡ block_text engine.graph block
  pub limit : ℕ
  pub is_limit : IsBlockLimit engine.graph (record { rounds = rounds; log = engine.log }) line block limit
  pub within : end ≤ start + limit
