-- What a session keeps between lines, and what a line brought.
use Rattle.std.specs.Prelude.{◌≡◌, ℕ, Option, IfSome, IsSome}
use Rattle.tfpg_base.specs.declared.terms.Terms.{Terms}
use Rattle.tfpg_graph.specs.Graph.{Tfpg, sizes_of}
use Rattle.tfpg_evidence.specs.RoundOf.{IsRoundOf}
use Rattle.tfpg_engine.specs.EngineState.{EngineState}
use Rattle.tfpg_check.specs.Report.{Progress}
use Rattle.tfpg_report.specs.Blocks.{block_text}
use Rattle.tfpg_diagnose.specs.declared.line_blocks.Brought.{Brought}
use Rattle.tfpg_diagnose.specs.declared.texts.latest.Latest.{Latest}
use Rattle.tfpg_diagnose.specs.inside.LineBlocks.{HasBlock, IsEngineReady, NumberedLine, block_brought}

-- The engine of a session that has a next line is ready for it, and the last round names only what the graph has.
abbrev pub IsSession : EngineState → Option ℕ → Latest → Type 0
IsSession engine next latest =
    (IsSome next → IsEngineReady engine) × IfSome latest.round (IsRoundOf (sizes_of engine.graph))

-- A line brought this: that is its block, at which no panel is lost, and the engine represents the progress after it.
pub record HasPlainBlock (graph : Tfpg) (terms : Terms) (before : Progress) (line : NumberedLine) (brought : Brought)
    (engine : EngineState) : Type 0 where
  pub has : HasBlock graph terms before line (block_text graph (block_brought line.number brought)) engine
  pub block_is : has.block ≡ block_brought line.number brought
