-- What the engine of a diagnosis represents, and the block of a line that it was given.
use Rattle.std.specs.Prelude.{◌≡◌, ℕ, ◌+◌, ◌<◌, ◌≤◌, List, [], length, Option, Some, None}
use Rattle.tfpg_graph.specs.Graph.{Tfpg}
use Rattle.tfpg_graph.specs.Valid.{IsValid}
use Rattle.tfpg_evidence.specs.declared.round.Round.{Round}
use Rattle.tfpg_engine.specs.EngineState.{EngineState, EngineRepresents}
use Rattle.tfpg_report.specs.Blocks.{Block, RefusedBlock, RoundBlock, block_text}
use Rattle.tfpg_check.specs.Report.{Progress, IsBlock, progress_after, rounds_of}
use Rattle.tfpg_base.specs.declared.terms.Terms.{Terms}
use Rattle.tfpg_diagnose.specs.RightReport.{BlockSays}
use Rattle.tfpg_diagnose.specs.TellsPanels.{losses_in}
use Rattle.tfpg_diagnose.specs.Work.{IsBlockLimit}
use Rattle.tfpg_diagnose.specs.EngineReports.{EngineReports}
use Rattle.tfpg_diagnose.specs.declared.line_blocks.Brought.{Brought}
use Rattle.tfpg_diagnose.specs.declared.line_blocks.Brought.TheVariants as brought
use Rattle.tfpg_diagnose.specs.texts.Latest.{round_in}

-- a line of the input with its number
pub record NumberedLine : Type 0 where
  pub number : ℕ
  pub text : List ℕ

-- the line of this number and text
abbrev pub numbered : ℕ → List ℕ → NumberedLine
numbered number text = record { number = number; text = text }

-- the engine is of a valid graph, and represents some rounds
pub record IsEngineReady (engine : EngineState) : Type 0 where
  pub valid : IsValid engine.graph
  pub rounds : List Round
  pub represents : EngineRepresents engine rounds

-- The bytes are the block of a line, and the engine represents the progress after it.
pub record HasBlock (graph : Tfpg) (terms : Terms) (before : Progress) (line : NumberedLine) (bytes : List ℕ)
    (engine : EngineState) : Type 0 where
  pub block : Block
  pub is_block : IsBlock graph terms before line.number line.text block
  pub says : BlockSays graph terms before line.text block
  pub text : bytes ≡ block_text graph block
  pub reports : EngineReports graph terms engine (progress_after graph before line.text block)

-- For the block the count of calls went from one number to the other, by at most its limit.
abbrev pub IsBlockWithin : Tfpg → Progress → List ℕ → Block → ℕ → ℕ → Type 0
IsBlockWithin graph before line block start end =
    (limit : ℕ) × IsBlockLimit graph before line block limit × (end ≤ start + limit)

-- The block is that of a line that brought this round, which no panel was told yet, from the one engine to the other: the round comes after
-- all earlier events. Or it is that of a line that brought none, and the log is as it was.
abbrev pub IsUntold : Option Round → Block → EngineState → EngineState → Type 0
IsUntold None block old new = (rounds_of block ≡ []) × (losses_in block ≡ []) × (new.log ≡ old.log)
IsUntold (Some round) block old new =
    (block ≡ RoundBlock round []) × (length old.log.events < round.number) × (round.number ≡ length new.log.events)

-- the engine before and after a line, and the counts of calls before and after it
pub record EngineTurn : Type 0 where
  pub old : EngineState
  pub new : EngineState
  pub start : ℕ
  pub finish : ℕ

-- these
abbrev pub engine_turn : EngineState → EngineState → ℕ → ℕ → EngineTurn
engine_turn old new start finish = record { old = old; new = new; start = start; finish = finish }

-- These bytes are the block of a line, which brought this round if there is one, in this turn of the engine. The count of calls keeps within
-- the limit of the block.
abbrev pub BringsBlock : Tfpg → Terms → Progress → NumberedLine → List ℕ → Option Round → EngineTurn → Type 0
BringsBlock graph terms before line bytes round turn =
    (has : HasBlock graph terms before line bytes turn.new) × IsUntold round has.block turn.old turn.new
    × IsBlockWithin graph before line.text has.block turn.start turn.finish

-- the block of a line of this number that brought this, at which no panel is lost
abbrev pub block_brought : ℕ → Brought → Block
block_brought number (brought.Refused cause) = RefusedBlock number cause
block_brought number (brought.Round round) = RoundBlock round []

-- A line brought this, in this turn of the engine: its block is that one.
pub record IsBrought (graph : Tfpg) (terms : Terms) (before : Progress) (line : NumberedLine) (brought : Brought) (turn : EngineTurn) : Type 0 where
  pub brings : BringsBlock graph terms before line (block_text graph (block_brought line.number brought))
      (round_in (block_brought line.number brought)) turn
  pub block_is : brings.0.block ≡ block_brought line.number brought
