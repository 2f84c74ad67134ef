-- How many counted calls a report takes at most: the sum of the limits of its rounds.
use Rattle.std.specs.Prelude.{◌≡◌, ℕ, ◌+◌, ◌≤◌, List, length, take, sum_by, Some, slice_get}
use Rattle.tfpg_base.specs.declared.terms.Terms.{Terms}
use Rattle.tfpg_graph.specs.Graph.{Tfpg}
use Rattle.tfpg_log.specs.LogOfLines.{log_after}
use Rattle.tfpg_engine.specs.Work.{IsRoundLimit}
use Rattle.tfpg_report.specs.Blocks.{Block, RefusedBlock, RoundBlock}
use Rattle.tfpg_check.specs.Report.{Progress, IsReport, progress_of}

-- The limit for the block of a line, after the rounds and the log so far: that of its round. A refused line costs no call.
abbrev pub IsBlockLimit : Tfpg → Progress → List ℕ → Block → ℕ → Type 0
IsBlockLimit graph before line (RefusedBlock number cause) limit = limit ≡ 0
IsBlockLimit graph before line (RoundBlock round losses) limit =
    IsRoundLimit graph (log_after graph before.log line) before.rounds round limit

-- There is one limit for each of the blocks of these lines, and each is that of its block, after the blocks before it.
pub record AreBlockLimits (graph : Tfpg) (lines : List (List ℕ)) (blocks : List Block) (limits : List ℕ) : Type 0 where
  pub one_each : length limits ≡ length blocks
  pub each : (index : ℕ) (line : List ℕ) (block : Block) (limit : ℕ) → slice_get lines index ≡ Some line
      → slice_get blocks index ≡ Some block → slice_get limits index ≡ Some limit
      → IsBlockLimit graph (progress_of graph (take index lines) (take index blocks)) line block limit

-- For the blocks of these lines the count of calls went from one number to the other, by at most the sum of their limits.
pub record AreBlocksWithin (graph : Tfpg) (lines : List (List ℕ)) (blocks : List Block) (start end : ℕ) : Type 0 where
  pub limits : List ℕ
  pub are : AreBlockLimits graph lines blocks limits
  pub within : end ≤ start + sum_by (λ limit. limit) limits

-- The bytes are a report of these lines, and for it the count of calls went from one number to the other, by at most the sum of
-- the limits of its rounds.
pub record IsReportWithin (graph : Tfpg) (terms : Terms) (start end : ℕ) (lines : List (List ℕ)) (bytes : List ℕ) : Type 0 where
  pub blocks : List Block
  pub report : IsReport graph terms lines blocks bytes
  pub within : AreBlocksWithin graph lines blocks start end
