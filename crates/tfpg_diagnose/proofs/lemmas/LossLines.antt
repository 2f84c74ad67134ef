-- The lines of lost panels, as they are written.
use Rattle.std.proofs.Common.{◌≡◌, ℕ, ◌+◌, ◌<◌, ◌≤◌, List, [], ◌∷◌, ◌++◌, length, take, drop, get_or, Option, Some, None, Result, Ok, Err, codes, decimal, refl, sym, ap, subst, ◌∙◌, inl, inr, append_assoc}
use Rattle.std.proofs.lemmas.List.{append-nil, take-append-drop, take_all}
use Rattle.std.proofs.lemmas.List.Concat.{flat_map-append}
use Rattle.tfpg_base.proofs.lemmas.lists.Appended.{appended_more}
use Rattle.tfpg_base.specs.declared.outside.Failed.{Failed}
use Rattle.tfpg_base.specs.Outside.{SinkState, Puts}
use Rattle.tfpg_evidence.specs.declared.round.Round.{Round}
use Rattle.tfpg_panel.specs.declared.panel.PanelFault.{PanelFault}
use Rattle.tfpg_panel.specs.declared.panel.PanelFault.TheVariants.{Lost, NoMemory}
use Rattle.tfpg_panel.specs.declared.lost_panel.LostPanel.{LostPanel}
use Rattle.tfpg_panel.specs.Desk.{DeskState, IsTold}
use Rattle.tfpg_report.specs.Blocks.{lost_text}
use Rattle.tfpg_diagnose.specs.declared.report.NextBlock.TheVariants.{Written}
use Rattle.tfpg_streams.specs.declared.fault.StreamFault.{StreamFault}
use Rattle.tfpg_streams.specs.declared.fault.StreamFault.TheVariants.{WriteFault}
use Rattle.tfpg_streams.specs.Writing.{Cuts, Writes}
use Rattle.tfpg_diagnose.specs.inside.Telling.{Outgoing, WritesBlock, end_of_loss, is_memory, loss_text, losses_text, new_lines, outgoing}
use Rattle.tfpg_streams.proofs.lemmas.Putting.{Puts-append, Puts-same, Writes-then, cut_first, cut_second}
use Rattle.tfpg_diagnose.proofs.lemmas.ToldBlocks.{none_came}

-- the line of a lost panel in its three pieces
parts_of : (panel : ℕ) (fault : PanelFault) → codes "panel " ++ (decimal panel ++ end_of_loss fault) ≡ lost_text (record { panel = panel; memory = is_memory fault })
parts_of panel Lost = ap (λ (t : List ℕ). codes "panel " ++ t) (sym (append_assoc (decimal panel) (codes " lost") (10 ∷ [])))
parts_of panel NoMemory = ap (λ (t : List ℕ). codes "panel " ++ t) (sym (append_assoc (decimal panel) (codes " memory") (10 ∷ [])))

module _ (loss : LostPanel) where
  line_parts : codes "panel " ++ (decimal loss.panel ++ end_of_loss loss.fault) ≡ loss_text loss
  line_parts = parts_of loss.panel loss.fault

  -- the first piece was cut
  pub first_cut : (before after : SinkState) → Cuts (codes "panel ") before after → Cuts (loss_text loss) before after
  first_cut before after cut = subst (λ (t : List ℕ). Cuts t before after) line_parts (cut_first (codes "panel ") (decimal loss.panel ++ end_of_loss loss.fault) before after cut)

  -- the pieces after it
  pub after_first : (before mid after : SinkState) (result : Result (Unit {0}) Failed) → Puts before mid (codes "panel ") → mid.faults ≡ before.faults
      → Writes (decimal loss.panel ++ end_of_loss loss.fault) mid after result → Writes (loss_text loss) before after result
  after_first before mid after result puts no_fault writes =
      subst (λ (t : List ℕ). Writes t before after result) line_parts (Writes-then (codes "panel ") (decimal loss.panel ++ end_of_loss loss.fault) before mid after result puts no_fault writes)

-- ---- one line after another

module _ (lost : List LostPanel) (index : ℕ) (d : LostPanel) (before mid after : SinkState) (within : index < length lost) (wrote : Writes (losses_text (take index lost)) before mid (Ok tt)) where
  -- the lines before an index, and the line there
  line_more : losses_text (take index lost) ++ loss_text (get_or lost index d) ≡ losses_text (take (index + 1) lost)
  line_more = appended_more loss_text lost index d [] (losses_text (take index lost)) (losses_text (take index lost) ++ loss_text (get_or lost index d)) within refl refl

  -- one line more was written
  pub lines_more : Writes (loss_text (get_or lost index d)) mid after (Ok tt) → Writes (losses_text (take (index + 1) lost)) before after (Ok tt)
  lines_more one =
      subst (λ (t : List ℕ). Writes t before after (Ok tt)) line_more (Writes-then (losses_text (take index lost)) (loss_text (get_or lost index d)) before mid after (Ok tt) wrote.0 wrote.1 one)

  -- it was cut
  pub lines_end : Cuts (loss_text (get_or lost index d)) mid after → Cuts (losses_text lost) before after
  lines_end cut =
      let all : losses_text (take (index + 1) lost) ++ losses_text (drop (index + 1) lost) ≡ losses_text lost =
      sym (flat_map-append loss_text (take (index + 1) lost) (drop (index + 1) lost)) ∙ ap losses_text (take-append-drop (index + 1) lost) in
      subst (λ (t : List ℕ). Cuts t before after) all (cut_first (losses_text (take (index + 1) lost)) (losses_text (drop (index + 1) lost)) before after
      (subst (λ (t : List ℕ). Cuts t before after) line_more (cut_second (losses_text (take index lost)) (loss_text (get_or lost index d)) before mid after wrote.0 wrote.1 cut)))

-- all were written
pub lines_all : (lost : List LostPanel) (index : ℕ) (before after : SinkState) → length lost ≤ index → Writes (losses_text (take index lost)) before after (Ok tt) → Writes (losses_text lost) before after (Ok tt)
lines_all lost index before after all wrote = subst (λ (ls : List LostPanel). Writes (losses_text ls) before after (Ok tt)) (take_all index lost all) wrote

-- ---- the block of a line, and what the desk was told

module _ (text : List ℕ) (round : Option Round) (before after : Outgoing) where
  -- the text was cut
  pub text_cut : (fault : StreamFault) → fault ≡ WriteFault → after.desk ≡ before.desk → Cuts text before.output after.output → WritesBlock text round before after (Err fault)
  text_cut fault is same cut = (is, inl (same, cut))

-- there was no round to tell
pub told_none : (text : List ℕ) (before after : SinkState) (desk : DeskState) → Puts before after text → after.faults ≡ before.faults
    → WritesBlock text None (outgoing before desk) (outgoing after desk) (Ok Written)
told_none text before after desk puts no_fault =
    (refl, refl, Puts-same before after text (text ++ new_lines desk desk) (sym (ap (λ (t : List ℕ). text ++ t) (none_came desk desk refl) ∙ append-nil text)) puts, no_fault)

-- there was one
pub told_some : (text : List ℕ) (round : Round) (before mid after : SinkState) (desk told : DeskState) → Puts before mid text → mid.faults ≡ before.faults → IsTold round desk told
    → Writes (new_lines desk told) mid after (Ok tt) → WritesBlock text (Some round) (outgoing before desk) (outgoing after told) (Ok Written)
told_some text round before mid after desk told puts no_fault tells (lines, same) =
    (refl, tells, Puts-append before mid after text (new_lines desk told) puts lines, same ∙ no_fault)

-- the lines of its losses were cut
pub lines_cut : (text : List ℕ) (round : Round) (before mid after : SinkState) (desk told : DeskState) (fault : StreamFault) → fault ≡ WriteFault → Puts before mid text → mid.faults ≡ before.faults → IsTold round desk told
    → Cuts (new_lines desk told) mid after → WritesBlock text (Some round) (outgoing before desk) (outgoing after told) (Err fault)
lines_cut text round before mid after desk told fault is puts no_fault tells cut =
    (is, inr (record { tells = tells; mid = mid; puts = puts; no_fault = no_fault; cuts = cut }))
