-- The rounds of a diagnosis of some lines, and the last of them.
use Rattle.std.specs.Prelude.{◌≡◌, ℕ, List, flat_map, Option}
use Rattle.tfpg_base.specs.Choice.{last_of}
use Rattle.tfpg_base.specs.declared.terms.Terms.{Terms}
use Rattle.tfpg_graph.specs.Graph.{Tfpg}
use Rattle.tfpg_evidence.specs.declared.round.Round.{Round}
use Rattle.tfpg_report.specs.Blocks.{Block}
use Rattle.tfpg_check.specs.Report.{AreBlocks, rounds_of}
use Rattle.tfpg_diagnose.specs.RightReport.{RoundsSay}

-- These are the rounds of a diagnosis of the lines: the lines have blocks as in a report, each round of them says what a round
-- says, and these are all of their rounds. Refused lines and lines that are too long have none.
pub record AreRoundsOf (graph : Tfpg) (terms : Terms) (lines : List (List ℕ)) (rounds : List Round) : Type 0 where
  pub blocks : List Block
  pub are_blocks : AreBlocks graph terms lines blocks
  pub say : RoundsSay graph terms lines blocks
  pub rounds_are : rounds ≡ flat_map rounds_of blocks

-- This is the last round of a diagnosis of the lines. There is none where no line is accepted.
pub record IsLastRound (graph : Tfpg) (terms : Terms) (lines : List (List ℕ)) (last : Option Round) : Type 0 where
  pub rounds : List Round
  pub are : AreRoundsOf graph terms lines rounds
  pub last_is : last ≡ last_of rounds
