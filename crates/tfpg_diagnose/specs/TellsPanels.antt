-- What a diagnosis tells the panels of the desk, and what its report says of those that were lost.
use Rattle.std.specs.Prelude.{ℕ, nat_le, List, [], ◌∷◌, ◌++◌, length, map, filter, flat_map, if◌then◌else◌}
use Rattle.tfpg_graph.specs.Graph.{Tfpg}
use Rattle.tfpg_evidence.specs.declared.round.Round.{Round}
use Rattle.tfpg_panel.specs.declared.panel.PanelFault.TheVariants.{Lost, NoMemory}
use Rattle.tfpg_panel.specs.declared.lost_panel.LostPanel.{LostPanel}
use Rattle.tfpg_panel.specs.Desk.{DeskState}
use Rattle.tfpg_panel.specs.ToldRounds.{HasTold}
use Rattle.tfpg_report.specs.Blocks.{Block, Loss, RefusedBlock, RoundBlock, block_text, round_text}
use Rattle.tfpg_check.specs.Report.{rounds_of}

-- the desk before a run, and now
pub record Desks : Type 0 where
  pub before : DeskState
  pub now : DeskState

-- these two
abbrev pub desks : DeskState → DeskState → Desks
desks before now = record { before = before; now = now }

-- the loss that a report says after the round of this number, as the desk has it
abbrev pub lost_at : ℕ → Loss → LostPanel
lost_at number loss = record { panel = loss.panel; round = number; fault = if loss.memory then NoMemory else Lost }

-- the losses that a block says
abbrev pub losses_in : Block → List LostPanel
losses_in (RefusedBlock line cause) = []
losses_in (RoundBlock round losses) = map (lost_at round.number) losses

-- The rounds of the blocks up to which the text of a report is written in these bytes. What stands before the blocks is the text so far.
abbrev pub rounds_in : Tfpg → List ℕ → List ℕ → List Block → List Round
rounds_in graph bytes text [] = []
rounds_in graph bytes text (block ∷ blocks) =
    filter (λ round. nat_le (length (text ++ round_text graph round)) (length bytes)) (rounds_of block)
    ++ rounds_in graph bytes (text ++ block_text graph block) blocks

-- The panels of the desk were told these rounds, one after another, and those that were lost are those that the blocks say, each at its
-- round.
abbrev pub TellsPanels : List Round → List Block → Desks → Type 0
TellsPanels rounds blocks desk = HasTold rounds (flat_map losses_in blocks) desk.before desk.now
