-- Telling the desk a round once its text is written, and the lines of the panels that are lost.
use Rattle.std.specs.Prelude.{◌≡◌, ◌⊎◌, ℕ, List, ◌++◌, length, drop, flat_map, codes, Bool, true, false, Option, Some, None, Result, Ok, Err}
use Rattle.tfpg_base.specs.Outside.{SinkState, Puts}
use Rattle.tfpg_streams.specs.Writing.{Cuts}
use Rattle.tfpg_evidence.specs.declared.round.Round.{Round}
use Rattle.tfpg_panel.specs.declared.panel.PanelFault.{PanelFault}
use Rattle.tfpg_panel.specs.declared.panel.PanelFault.TheVariants.{Lost, NoMemory}
use Rattle.tfpg_panel.specs.declared.lost_panel.LostPanel.{LostPanel}
use Rattle.tfpg_panel.specs.Desk.{DeskState, IsTold}
use Rattle.tfpg_report.specs.Blocks.{Loss, lost_text}
use Rattle.tfpg_diagnose.specs.declared.report.NextBlock.{NextBlock}
use Rattle.tfpg_diagnose.specs.declared.report.NextBlock.TheVariants.{Written}
use Rattle.tfpg_streams.specs.declared.fault.StreamFault.{StreamFault}
use Rattle.tfpg_streams.specs.declared.fault.StreamFault.TheVariants.{WriteFault}

-- whether memory ran out for the panel
abbrev pub is_memory : PanelFault → Bool
is_memory Lost = false
is_memory NoMemory = true

-- the loss as a report says it
abbrev pub said_loss : LostPanel → Loss
said_loss lost = record { panel = lost.panel; memory = is_memory lost.fault }

-- the end of the line of a panel that was lost for this fault
abbrev pub end_of_loss : PanelFault → List ℕ
end_of_loss Lost = codes " lost\n"
end_of_loss NoMemory = codes " memory\n"

-- the line of a lost panel
abbrev pub loss_text : LostPanel → List ℕ
loss_text lost = lost_text (said_loss lost)

-- the lines of the lost panels
abbrev pub losses_text : List LostPanel → List ℕ
losses_text lost = flat_map loss_text lost

-- the output and the desk at one moment
pub record Outgoing : Type 0 where
  pub output : SinkState
  pub desk : DeskState

-- these two
abbrev pub outgoing : SinkState → DeskState → Outgoing
outgoing output desk = record { output = output; desk = desk }

-- The desk was told the round, if there is one.
abbrev pub TellsIf : Option Round → DeskState → DeskState → Type 0
TellsIf None before after = after ≡ before
TellsIf (Some round) before after = IsTold round before after

-- the lines of the panels that were lost from the one desk to the other
abbrev pub new_lines : DeskState → DeskState → List ℕ
new_lines before after = losses_text (drop (length before.losses) after.losses)

-- The text was written, the desk was told, and then the output failed before the lines of the lost panels were written.
pub record CutsLosses (text : List ℕ) (round : Option Round) (before after : Outgoing) : Type 0 where
  pub tells : TellsIf round before.desk after.desk
  pub mid : SinkState
  pub puts : Puts before.output mid text
  pub no_fault : mid.faults ≡ before.output.faults
  pub cuts : Cuts (new_lines before.desk after.desk) mid after.output

-- Writing the block of this text and telling its round: all was written; or the output failed, in the text, and the desk was told nothing, or
-- in the lines after it.
abbrev pub WritesBlock : List ℕ → Option Round → Outgoing → Outgoing → Result NextBlock StreamFault → Type 0
WritesBlock text round before after (Ok next) =
    (next ≡ Written) × TellsIf round before.desk after.desk
    × Puts before.output after.output (text ++ new_lines before.desk after.desk) × (after.output.faults ≡ before.output.faults)
WritesBlock text round before after (Err fault) =
    (fault ≡ WriteFault) × (((after.desk ≡ before.desk) × Cuts text before.output after.output) ⊎ CutsLosses text round before after)
