-- Blocks whose rounds the desk was told, with the panels that were lost.
use Rattle.std.proofs.Common.{◌≡◌, ℕ, ◌<◌, ◌≤◌, List, [], ◌∷◌, ◌++◌, length, map, flat_map, drop, All, true, false, Option, Some, None, Result, Ok, Err, refl, sym, ap, subst, subst₂, ◌∙◌, arith, append_assoc}
use Rattle.std.specs.Prelude.{nat_le, if◌then◌else◌}
use Rattle.std.proofs.lemmas.Bool.{lt-leb, le-leb}
use Rattle.std.proofs.lemmas.List.{append-nil, length-append, drop_at}
use Rattle.std.proofs.lemmas.List.Concat.{flat_map-append}
use Rattle.std.proofs.lemmas.List.Elements.{All-head, All-tail, All-map, All-contains, All-push}
use Rattle.std.proofs.lemmas.List.Folds.{flat_map-map}
use Rattle.tfpg_base.specs.declared.limits.TheConstants.{MAX_PANEL_NUMBER}
use Rattle.tfpg_base.specs.declared.terms.Terms.{Terms}
use Rattle.tfpg_base.proofs.lemmas.lists.Elements.{All-from_members}
use Rattle.tfpg_base.proofs.lemmas.lists.Images.{AllPairs-map}
use Rattle.tfpg_graph.specs.Graph.{Tfpg}
use Rattle.tfpg_log.specs.declared.event.Event.{Event}
use Rattle.tfpg_log.specs.Log.{Logbook, with_event}
use Rattle.tfpg_evidence.specs.declared.round.Round.{Round}
use Rattle.tfpg_hyp.specs.Rounds.{IsRound}
use Rattle.tfpg_engine.specs.EngineState.{EngineState}
use Rattle.tfpg_panel.specs.declared.panel.PanelFault.{PanelFault}
use Rattle.tfpg_panel.specs.declared.panel.PanelFault.TheVariants.{Lost, NoMemory}
use Rattle.tfpg_panel.specs.declared.lost_panel.LostPanel.{LostPanel}
use Rattle.tfpg_panel.specs.Desk.{DeskState, IsTold, losses_of}
use Rattle.tfpg_panel.specs.ToldRounds.{AreLossesAt, HasTold}
use Rattle.tfpg_log.specs.declared.refused_line.RefusedLine.{RefusedLine}
use Rattle.tfpg_report.specs.Blocks.{Block, Loss, RefusedBlock, RoundBlock, block_text, head_text, lost_text, round_text}
use Rattle.tfpg_report.specs.inside.Texts.{written_round}
use Rattle.tfpg_report.proofs.lemmas.WrittenLines.{written_losses, written_rounds}
use Rattle.tfpg_check.specs.Report.{Progress, AreLosses, IsBlockOf, event_of_line, progress_after, report_text, rounds_of}
use Rattle.tfpg_diagnose.specs.RightReport.{BlockSays}
use Rattle.tfpg_diagnose.specs.TellsPanels.{TellsPanels, desks, losses_in, lost_at, rounds_in}
use Rattle.tfpg_diagnose.specs.EngineReports.{EngineReports}
use Rattle.tfpg_diagnose.specs.inside.LineBlocks.{HasBlock, IsBlockWithin, IsUntold, numbered}
use Rattle.tfpg_diagnose.specs.inside.Telling.{TellsIf, is_memory, losses_text, new_lines, said_loss}

-- ---- a list with what one item more gives

module _ {X Y : Type 0} where
  pub flat_map-push : (f : X → List Y) (xs : List X) (x : X) (ys : List Y) → f x ≡ ys → flat_map f (xs ++ x ∷ []) ≡ flat_map f xs ++ ys
  flat_map-push f xs x ys e = flat_map-append f xs (x ∷ []) ∙ ap (λ (t : List Y). flat_map f xs ++ t) (append-nil (f x) ∙ e)

-- ---- losses, as the desk has them and as a report says them

-- the fault that a line says
fault_again : (fault : PanelFault) → (if is_memory fault then NoMemory else Lost) ≡ fault
fault_again Lost = refl
fault_again NoMemory = refl

-- the loss that a line says
loss_again : (number : ℕ) (loss : LostPanel) → loss.round ≡ number → lost_at number (said_loss loss) ≡ loss
loss_again number loss at = λ i. record { panel = loss.panel; round = sym at i; fault = fault_again loss.fault i }

-- the losses that the lines after a round say
said_again : (number : ℕ) (lost : List LostPanel) → All (λ (l : LostPanel). l.round ≡ number) lost → map (lost_at number) (map said_loss lost) ≡ lost
said_again number [] at = refl
said_again number (first ∷ others) at =
    λ i. loss_again number first (All-head (λ (l : LostPanel). l.round ≡ number) first others at) i ∷ said_again number others (All-tail (λ (l : LostPanel). l.round ≡ number) first others at) i

-- their numbers rise, and are not too great
said_rise : (number count : ℕ) (lost : List LostPanel) → AreLossesAt number count lost → count ≤ MAX_PANEL_NUMBER → AreLosses (map said_loss lost)
said_rise number count lost are few = record {
  numbers = All-map (λ (l : Loss). l.panel ≤ MAX_PANEL_NUMBER) said_loss lost (All-from_members (λ (l : LostPanel). l.panel ≤ MAX_PANEL_NUMBER) lost (λ loss within.
      omega (arith, few, All-contains (λ (l : LostPanel). l.panel ≤ count) lost loss are.panels within)));
  rising = AllPairs-map (λ (a : Loss) (b : Loss). a.panel < b.panel) said_loss lost are.rising;
}

-- the text of a round's block is that of the round, and then the lines of the losses
pub told_text : (graph : Tfpg) (round : Round) (lost : List LostPanel) → block_text graph (RoundBlock round (map said_loss lost)) ≡ block_text graph (RoundBlock round []) ++ losses_text lost
told_text graph round lost =
    let alone : block_text graph (RoundBlock round []) ≡ written_round graph round = written_losses graph round [] ∙ append-nil (written_round graph round) in
    written_losses graph round (map said_loss lost)
    ∙ ap (λ (t : List ℕ). t ++ flat_map lost_text (map said_loss lost)) (sym alone)
    ∙ ap (λ (t : List ℕ). block_text graph (RoundBlock round []) ++ t) (flat_map-map lost_text said_loss lost)

-- the text of a round at which none is lost
alone_text : (graph : Tfpg) (round : Round) → block_text graph (RoundBlock round []) ≡ round_text graph round
alone_text graph round = written_losses graph round [] ∙ append-nil (written_round graph round) ∙ sym (written_rounds graph round)

-- the losses that came to a desk
pub came : (before after : DeskState) (lost : List LostPanel) → after.losses ≡ before.losses ++ lost → drop (length before.losses) after.losses ≡ lost
came before after lost e = ap (drop (length before.losses)) e ∙ drop_at before.losses lost (length before.losses) refl

-- none came to a desk that is as it was
pub none_came : (before after : DeskState) → after ≡ before → new_lines before after ≡ []
none_came before after same = ap losses_text (came before after [] (ap (λ (desk : DeskState). desk.losses) same ∙ sym (append-nil before.losses)))

-- ---- the block of a round that was told

-- what the desk and the rounds come to: the laws on desks
pub record DeskLaws : Type 0 where
  pub step : (round : Round) (mid now : DeskState) (told : IsTold round mid now) (rounds : List Round) (lost : List LostPanel) (before : DeskState) → HasTold rounds lost before mid
      → All (λ (earlier : Round). earlier.number < round.number) rounds → HasTold (rounds ++ round ∷ []) (lost ++ losses_of round.number told.tellings) before now
  pub rise : (round : Round) (before now : DeskState) (told : IsTold round before now) → AreLossesAt round.number (length before.panels) (losses_of round.number told.tellings)

-- the block of an event may say other losses
pub block_again : (graph : Tfpg) (terms : Terms) (before : Progress) (number : ℕ) (round : Round) (losses : List Loss) (event : Result Event RefusedLine) → AreLosses losses
    → IsBlockOf graph terms before number (RoundBlock round []) event → IsBlockOf graph terms before number (RoundBlock round losses) event
block_again graph terms before number round losses (Err cause) are is = absurd cc
block_again graph terms before number round losses (Ok event) are (other, old, same, is_round, old_are) =
    let e : other ≡ round = cc in
    (round, losses, refl, subst (IsRound graph terms before.rounds (with_event before.log event) number) e is_round, are)

module _ (graph : Tfpg) (terms : Terms) (before : Progress) (number : ℕ) (line bytes : List ℕ) (later : EngineState) (has : HasBlock graph terms before (numbered number line) bytes later) (round : Round)
    (is : has.block ≡ RoundBlock round []) (lost : List LostPanel) (are : AreLosses (map said_loss lost)) where
  abbrev pub with_losses : HasBlock graph terms before (numbered number line) (bytes ++ losses_text lost) later
  with_losses = record {
    block = RoundBlock round (map said_loss lost);
    is_block = block_again graph terms before number round (map said_loss lost) (event_of_line graph before.log line) are
        (subst (λ (b : Block). IsBlockOf graph terms before number b (event_of_line graph before.log line)) is has.is_block);
    says = subst (BlockSays graph terms before line) is has.says;
    text = ap (λ (t : List ℕ). t ++ losses_text lost) (has.text ∙ ap (block_text graph) is) ∙ sym (told_text graph round lost);
    reports = subst (λ (b : Block). EngineReports graph terms later (progress_after graph before line b)) is has.reports;
  }

  pub with_losses_within : (start end : ℕ) → IsBlockWithin graph before line has.block start end → IsBlockWithin graph before line with_losses.block start end
  with_losses_within start end within = subst (λ (b : Block). IsBlockWithin graph before line b start end) is within

-- ---- one block more, with what the desk was told

-- The block is written with the lines of the panels that were lost, and the desk was told all rounds so far.
pub record IsToldBlock (graph : Tfpg) (terms : Terms) (before : Progress) (number : ℕ) (line bytes : List ℕ) (later : EngineState) (blocks : List Block) (first now : DeskState)
    (untold : Block) : Type 0 where
  pub has : HasBlock graph terms before (numbered number line) bytes later
  pub tells : TellsPanels (flat_map rounds_of (blocks ++ has.block ∷ [])) (blocks ++ has.block ∷ []) (desks first now)
  pub numbers : All (λ (r : Round). r.number ≤ length later.log.events) (flat_map rounds_of (blocks ++ has.block ∷ []))
  pub within : (start end : ℕ) → IsBlockWithin graph before line untold start end → IsBlockWithin graph before line has.block start end
  pub same_rounds : rounds_of has.block ≡ rounds_of untold

module _ (graph : Tfpg) (terms : Terms) (before : Progress) (number : ℕ) (line bytes : List ℕ) (old later : EngineState) (has : HasBlock graph terms before (numbered number line) bytes later)
    (blocks : List Block) (first mid now : DeskState) (tells : TellsPanels (flat_map rounds_of blocks) blocks (desks first mid))
    (numbers : All (λ (r : Round). r.number ≤ length old.log.events) (flat_map rounds_of blocks)) (few : length mid.panels ≤ MAX_PANEL_NUMBER) (laws : DeskLaws) where
  pub told_block : (round : Option Round) → IsUntold round has.block old later → TellsIf round mid now
      → IsToldBlock graph terms before number line (bytes ++ new_lines mid now) later blocks first now has.block
  told_block None (no_round, no_loss, same_log) same =
      let rounds : flat_map rounds_of (blocks ++ has.block ∷ []) ≡ flat_map rounds_of blocks = flat_map-push rounds_of blocks has.block [] no_round ∙ append-nil (flat_map rounds_of blocks) in
      let lost : flat_map losses_in (blocks ++ has.block ∷ []) ≡ flat_map losses_in blocks = flat_map-push losses_in blocks has.block [] no_loss ∙ append-nil (flat_map losses_in blocks) in
      let text : bytes ≡ bytes ++ new_lines mid now = sym (ap (λ (t : List ℕ). bytes ++ t) (none_came mid now same) ∙ append-nil bytes) in
      subst (λ (t : List ℕ). IsToldBlock graph terms before number line t later blocks first now has.block) text (record {
        has = has;
        tells = subst₂ (λ (rs : List Round) (ls : List LostPanel). HasTold rs ls first now) (sym rounds) (sym lost) (subst (λ (d : DeskState). TellsPanels (flat_map rounds_of blocks) blocks (desks first d)) (sym same) tells);
        numbers = subst (All (λ (r : Round). r.number ≤ length later.log.events)) (sym rounds)
            (subst (λ (l : Logbook). All (λ (r : Round). r.number ≤ length l.events) (flat_map rounds_of blocks)) (sym same_log) numbers);
        within = λ start end own. own;
        same_rounds = refl;
      })
  told_block (Some round) (is, after, at) told =
      let lost = losses_of round.number told.tellings in
      let rise = laws.rise round mid now told in
      let final = with_losses graph terms before number line bytes later has round is lost (said_rise round.number (length mid.panels) lost rise few) in
      let earlier : All (λ (r : Round). r.number < round.number) (flat_map rounds_of blocks) = All-from_members (λ (r : Round). r.number < round.number) (flat_map rounds_of blocks) (λ r within.
      omega (arith, after, All-contains (λ (x : Round). x.number ≤ length old.log.events) (flat_map rounds_of blocks) r numbers within)) in
      let rounds : flat_map rounds_of (blocks ++ final.block ∷ []) ≡ flat_map rounds_of blocks ++ round ∷ [] = flat_map-push rounds_of blocks final.block (round ∷ []) refl in
      let losses : flat_map losses_in (blocks ++ final.block ∷ []) ≡ flat_map losses_in blocks ++ lost = flat_map-push losses_in blocks final.block lost (said_again round.number lost rise.rounds) in
      let text : bytes ++ losses_text lost ≡ bytes ++ new_lines mid now = ap (λ (ls : List LostPanel). bytes ++ losses_text ls) (sym (came mid now lost told.losses)) in
      subst (λ (t : List ℕ). IsToldBlock graph terms before number line t later blocks first now has.block) text (record {
        has = final;
        tells = subst₂ (λ (rs : List Round) (ls : List LostPanel). HasTold rs ls first now) (sym rounds) (sym losses) (laws.step round mid now told (flat_map rounds_of blocks) (flat_map losses_in blocks) first tells earlier);
        numbers = subst (All (λ (r : Round). r.number ≤ length later.log.events)) (sym rounds)
            (All-push (λ (r : Round). r.number ≤ length later.log.events) (flat_map rounds_of blocks) round
            (All-from_members (λ (r : Round). r.number ≤ length later.log.events) (flat_map rounds_of blocks) (λ r within.
            omega (arith, after, at, All-contains (λ (x : Round). x.number ≤ length old.log.events) (flat_map rounds_of blocks) r numbers within))) (omega (arith, at)));
        within = with_losses_within graph terms before number line bytes later has round is lost (said_rise round.number (length mid.panels) lost rise few);
        same_rounds = ap rounds_of (sym is);
      })

-- ---- the rounds whose texts lie whole in what was written

-- the text of a round is not longer than that of its block
round_fits : (graph : Tfpg) (round : Round) (losses : List Loss) → length (round_text graph round) ≤ length (block_text graph (RoundBlock round losses))
round_fits graph round losses =
    omega (arith, ap length (written_losses graph round losses), ap length (written_rounds graph round), length-append (written_round graph round) (flat_map lost_text losses))

-- all of those of the blocks that were written whole do
whole-append : (graph : Tfpg) (bytes text : List ℕ) (blocks more : List Block) → length (text ++ flat_map (block_text graph) blocks) ≤ length bytes
    → rounds_in graph bytes text (blocks ++ more) ≡ flat_map rounds_of blocks ++ rounds_in graph bytes (text ++ flat_map (block_text graph) blocks) more
whole-append graph bytes text [] more fits = ap (λ (t : List ℕ). rounds_in graph bytes t more) (sym (append-nil text))
whole-append graph bytes text (RefusedBlock line cause ∷ blocks) more fits =
    let own = block_text graph (RefusedBlock line cause) in
    let joined = append_assoc text own (flat_map (block_text graph) blocks) in
    whole-append graph bytes (text ++ own) blocks more (subst (λ (t : List ℕ). length t ≤ length bytes) (sym joined) fits)
    ∙ ap (λ (t : List ℕ). flat_map rounds_of blocks ++ rounds_in graph bytes t more) joined
whole-append graph bytes text (RoundBlock round losses ∷ blocks) more fits =
    let own = block_text graph (RoundBlock round losses) in
    let texts = flat_map (block_text graph) blocks in
    let joined = append_assoc text own texts in
    let written : nat_le (length (text ++ round_text graph round)) (length bytes) ≡ true =
    le-leb _ _ (omega (arith, fits, round_fits graph round losses, length-append text (round_text graph round), length-append text (own ++ texts), length-append own texts)) in
    rw written
    (ap (λ (rs : List Round). round ∷ rs)
    (whole-append graph bytes (text ++ own) blocks more (subst (λ (t : List ℕ). length t ≤ length bytes) (sym joined) fits)
    ∙ ap (λ (t : List ℕ). flat_map rounds_of blocks ++ rounds_in graph bytes t more) joined))

-- so those of a report's front are those of the blocks before, and those of the last block
rounds_of_front : (graph : Tfpg) (terms : Terms) (blocks : List Block) (last : Block) (front : List ℕ)
    → rounds_in graph (report_text graph terms blocks ++ front) (head_text terms) (blocks ++ last ∷ [])
    ≡ flat_map rounds_of blocks ++ rounds_in graph (report_text graph terms blocks ++ front) (report_text graph terms blocks) (last ∷ [])
rounds_of_front graph terms blocks last front =
    whole-append graph (report_text graph terms blocks ++ front) (head_text terms) blocks (last ∷ []) (omega (arith, length-append (report_text graph terms blocks) front))

-- a block whose text was cut, and whose round was not told
pub cut_block : (graph : Tfpg) (terms : Terms) (blocks : List Block) (round : Option Round) (last : Block) (old later : EngineState) (bytes front rest : List ℕ) (first mid : DeskState) → IsUntold round last old later
    → bytes ≡ block_text graph last → bytes ≡ front ++ rest → 0 < length rest → TellsPanels (flat_map rounds_of blocks) blocks (desks first mid)
    → TellsPanels (rounds_in graph (report_text graph terms blocks ++ front) (head_text terms) (blocks ++ last ∷ [])) (blocks ++ last ∷ []) (desks first mid)
cut_block graph terms blocks round last old later bytes front rest first mid untold text parts left tells =
    subst₂ (λ (rs : List Round) (ls : List LostPanel). HasTold rs ls first mid)
    (sym (rounds_of_front graph terms blocks last front ∙ ap (λ (rs : List Round). flat_map rounds_of blocks ++ rs) (none_whole round last untold text) ∙ append-nil (flat_map rounds_of blocks)))
    (sym (flat_map-push losses_in blocks last [] (none_said round last untold) ∙ append-nil (flat_map losses_in blocks))) tells
  where
    none_said : (round : Option Round) (last : Block) → IsUntold round last old later → losses_in last ≡ []
    none_said None last (no_round, no_loss, same) = no_loss
    none_said (Some round) last (is, after, at) = ap losses_in is

    none_whole : (round : Option Round) (last : Block) → IsUntold round last old later → bytes ≡ block_text graph last → rounds_in graph (report_text graph terms blocks ++ front) (report_text graph terms blocks) (last ∷ []) ≡ []
    none_whole None (RefusedBlock line cause) untold text = refl
    none_whole None (RoundBlock other losses) (no_round, no_loss, same) text = absurd cc
    none_whole (Some round) last (is, after, at) text =
        let long : length front < length (round_text graph round) = omega (arith, left, ap length parts, length-append front rest, ap length (text ∙ ap (block_text graph) is ∙ alone_text graph round)) in
        let cut : nat_le (length (report_text graph terms blocks ++ round_text graph round)) (length (report_text graph terms blocks ++ front)) ≡ false =
        lt-leb _ _ (omega (arith, long, length-append (report_text graph terms blocks) front, length-append (report_text graph terms blocks) (round_text graph round))) in
        ap (λ (b : Block). rounds_in graph (report_text graph terms blocks ++ front) (report_text graph terms blocks) (b ∷ [])) is ∙ rw cut refl

-- a block whose text was written, whose round was told, and the lines of whose losses were cut
pub cut_losses : (graph : Tfpg) (terms : Terms) (blocks : List Block) (round : Option Round) (untold last : Block) (old later : EngineState) (bytes front : List ℕ) (first mid now : DeskState) → IsUntold round untold old later
    → bytes ≡ block_text graph untold → rounds_of last ≡ rounds_of untold → TellsPanels (flat_map rounds_of (blocks ++ last ∷ [])) (blocks ++ last ∷ []) (desks first now)
    → TellsPanels (rounds_in graph (report_text graph terms blocks ++ (bytes ++ front)) (head_text terms) (blocks ++ last ∷ [])) (blocks ++ last ∷ []) (desks first now)
cut_losses graph terms blocks round untold last old later bytes front first mid now is text same tells =
    subst (λ (rs : List Round). TellsPanels rs (blocks ++ last ∷ []) (desks first now))
    (flat_map-push rounds_of blocks last (rounds_in graph (report_text graph terms blocks ++ (bytes ++ front)) (report_text graph terms blocks) (last ∷ [])) (sym (all_whole last same)) ∙ sym (rounds_of_front graph terms blocks last (bytes ++ front))) tells
  where
    all_whole : (last : Block) → rounds_of last ≡ rounds_of untold → rounds_in graph (report_text graph terms blocks ++ (bytes ++ front)) (report_text graph terms blocks) (last ∷ []) ≡ rounds_of last
    all_whole (RefusedBlock line cause) same = refl
    all_whole (RoundBlock other losses) same =
        let fits : nat_le (length (report_text graph terms blocks ++ round_text graph other)) (length (report_text graph terms blocks ++ (bytes ++ front))) ≡ true =
        le-leb _ _ (omega (arith, fitting untold text same, length-append bytes front, length-append (report_text graph terms blocks) (bytes ++ front), length-append (report_text graph terms blocks) (round_text graph other))) in
        rw fits refl
      where
        fitting : (block : Block) → bytes ≡ block_text graph block → other ∷ [] ≡ rounds_of block → length (round_text graph other) ≤ length bytes
        fitting (RefusedBlock line cause) text same = absurd cc
        fitting (RoundBlock round losses) text same =
            let e : other ≡ round = cc in
            omega (arith, ap (λ (r : Round). length (round_text graph r)) e, ap length text, round_fits graph round losses)
