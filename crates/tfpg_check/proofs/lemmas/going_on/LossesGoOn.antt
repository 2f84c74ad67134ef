-- A lost panel goes on right: it is one more of the last block, which is a round.
use Rattle.std.proofs.Common.{◌≡◌, ℕ, ◌+◌, ◌<◌, ◌≤◌, Bool, true, List, [], ◌∷◌, ◌++◌, length, map, take, All, Option, Some, None, Result, Ok, Err, inl, inr, refl, sym, ap, subst, ◌∙◌, arith, append-nil, append_assoc, length-append}
use Rattle.std.specs.Prelude.{flat_map}
use Rattle.std.proofs.lemmas.Bool.{lt-ltb, ltb-true}
use Rattle.std.proofs.lemmas.List.{map-append, take-take}
use Rattle.std.proofs.lemmas.List.Concat.{flat_map-append}
use Rattle.std.proofs.lemmas.List.Elements.{All-nil, All-cons, All-append}
use Rattle.std.proofs.lemmas.List.Quantifiers.{all_pairs_push}
use Rattle.tfpg_base.specs.declared.terms.Terms.{Terms}
use Rattle.tfpg_base.specs.declared.limits.TheConstants.{MAX_PANEL_NUMBER}
use Rattle.tfpg_base.proofs.lemmas.lists.Choices.{then_some-true}
use Rattle.tfpg_graph.specs.Graph.{Tfpg}
use Rattle.tfpg_log.specs.declared.event.Event.{Event}
use Rattle.tfpg_evidence.specs.declared.round.Round.{Round as RoundOf}
use Rattle.tfpg_log.specs.declared.refused_line.RefusedLine.{RefusedLine}
use Rattle.tfpg_report.specs.declared.stand.Stand.{Stand}
use Rattle.tfpg_report.specs.declared.stand.Stand.TheVariants as stand
use Rattle.tfpg_report.specs.declared.report_line.ReportLine.{ReportLine}
use Rattle.tfpg_report.specs.declared.report_line.ReportLine.TheVariants.{Refused, Counts, Panel}
use Rattle.tfpg_report.specs.Blocks.{Block, Loss, RefusedBlock, RoundBlock, block_lines, lines_before_counts, round_lines}
use Rattle.tfpg_report.specs.inside.LineNames.{loss_line}
use Rattle.tfpg_report.specs.Reading.{IsHead}
use Rattle.tfpg_report.specs.Stands.{after_loss, is_later, may_begin_block, may_reject, stand_after_all, stand_of}
use Rattle.tfpg_check.specs.Report.{AreBlocks, AreLosses, IsBlockOf, Progress, event_of_line, rounds_of}
use Rattle.tfpg_check.specs.Causes.{AreRightSoFar, DiagnosisProblem, progress_after_blocks}
use Rattle.tfpg_check.proofs.lemmas.completeness.RightBlocksPass.{IsNextBlock, next_block}
use Rattle.tfpg_check.proofs.lemmas.completeness.RightFronts.{blocks_front, right_with_block}
use Rattle.tfpg_check.proofs.lemmas.going_on.StandsOfLines.{ComesBy, comes_by, ends_with, none_begun}
use Rattle.tfpg_check.proofs.lemmas.going_on.NextLines.{rounds_with}

-- ---- rising panels

-- what is later than a later number is later
later_still : (before : Option ℕ) (panel later : ℕ) → is_later before panel ≡ true → panel < later → is_later before later ≡ true
later_still None panel later is less = refl
later_still (Some last) panel later is less = let first = ltb-true last panel is in lt-ltb last later (omega (arith, first, less))

-- losses that may come are of panels below each that may come after them
below_later : (losses : List Loss) (before last : Option ℕ) (panel : ℕ) → stand_after_all (stand.Counts before) (map loss_line losses) ≡ Some (stand.Counts last)
    → is_later last panel ≡ true → All (λ (loss : Loss). loss.panel < panel) losses × (is_later before panel ≡ true)
below_later [] before last panel leads later = (
  All-nil (λ (loss : Loss). loss.panel < panel),
  (let same : before ≡ last = cc in ap (λ (l : Option ℕ). is_later l panel) same ∙ later),
)
below_later (loss ∷ losses) before last panel leads later =
    let comes = comes_by (stand.Counts before) (loss_line loss ∷ []) (map loss_line losses) (stand.Counts last) leads in
    let first = then_some-true (is_later before loss.panel) (stand.Counts (Some loss.panel)) comes.between comes.front_leads in
    let rest = below_later losses (Some loss.panel) last panel (ap (λ (at : Stand). stand_after_all at (map loss_line losses)) first.1 ∙ comes.back_leads) later in
    let less : loss.panel < panel = ltb-true loss.panel panel rest.1 in (
      All-cons (λ (l : Loss). l.panel < panel) loss losses less rest.0,
      later_still before loss.panel panel first.0 less,
    )

-- a round may lose one more panel
more_losses : (graph : Tfpg) (terms : Terms) (before : Progress) (number : ℕ) (round : RoundOf) (losses : List Loss) (loss : Loss) (found : Result Event RefusedLine)
    → loss.panel ≤ MAX_PANEL_NUMBER → All (λ (l : Loss). l.panel < loss.panel) losses → IsBlockOf graph terms before number (RoundBlock round losses) found
    → IsBlockOf graph terms before number (RoundBlock round (losses ++ loss ∷ [])) found
more_losses graph terms before number round losses loss (Err cause) few below is = absurd cc
more_losses graph terms before number round losses loss (Ok event) few below is =
    let same : RoundBlock round losses ≡ RoundBlock is.0 is.1 = is.2 in
    let rounds : round ≡ is.0 = cc in
    let lost : is.1 ≡ losses = cc in
    let are : AreLosses losses = subst AreLosses lost is.4 in (
      is.0,
      losses ++ loss ∷ [],
      ap (λ (r : RoundOf). RoundBlock r (losses ++ loss ∷ [])) rounds,
      is.3,
      record {
        numbers = All-append (λ (l : Loss). l.panel ≤ MAX_PANEL_NUMBER) losses (loss ∷ []) are.numbers
            (All-cons (λ (l : Loss). l.panel ≤ MAX_PANEL_NUMBER) loss [] few (All-nil (λ (l : Loss). l.panel ≤ MAX_PANEL_NUMBER)));
        rising = all_pairs_push (λ (a b : Loss). a.panel < b.panel) losses loss are.rising below;
      },
    )

-- ---- the last block

-- Lines with a lost panel are right so far, with as many blocks and the same rounds as before.
pub record GoesOnWithLoss (problem : DiagnosisProblem) (terms : Terms) (blocks : List Block) (lines : List ReportLine) : Type 0 where
  pub more : List Block
  pub as_many : length more ≡ length blocks
  pub same_rounds : flat_map rounds_of blocks ≡ flat_map rounds_of more
  pub right : AreRightSoFar problem terms more lines

-- the lines of a last block
lines_of_last : (front : List Block) (block : Block) → flat_map block_lines (front ++ block ∷ []) ≡ flat_map block_lines front ++ block_lines block
lines_of_last front block =
    flat_map-append block_lines front (block ∷ []) ∙ ap (λ (ls : List ReportLine). flat_map block_lines front ++ ls) (append-nil (block_lines block))

module _ (problem : DiagnosisProblem) (terms : Terms) (reads : List ReportLine) (panel : ℕ) (memory : Bool) (few : panel ≤ MAX_PANEL_NUMBER) (last : Option ℕ)
    (stands : stand_of reads ≡ Some (stand.Counts last)) (later : is_later last panel ≡ true) where
  abbrev Lost : Loss
  Lost = record { panel = panel; memory = memory }

  -- where the lines end with those of a last block
  module _ (front : List Block) (block : Block) (right : AreRightSoFar problem terms (front ++ block ∷ []) reads) where
    reads_are : reads ≡ right.head ∷ (flat_map block_lines front ++ block_lines block)
    reads_are =
        right.lines_are ∙ ap (λ (begun : List ReportLine). right.head ∷ (flat_map block_lines (front ++ block ∷ []) ++ begun)) (none_begun reads (stand.Counts last) stands refl)
        ∙ ap (λ (ls : List ReportLine). right.head ∷ ls) (append-nil (flat_map block_lines (front ++ block ∷ [])) ∙ lines_of_last front block)

    front_is : AreBlocks problem.graph terms (take (length front) problem.log_lines) front
    front_is =
        let long : length (front ++ block ∷ []) ≡ length front + 1 = length-append front (block ∷ []) in
        subst (λ (ls : List (List ℕ)). AreBlocks problem.graph terms ls front) (take-take (length front) (length (front ++ block ∷ [])) problem.log_lines (omega (arith, long)))
        (blocks_front problem.graph terms (take (length (front ++ block ∷ [])) problem.log_lines) front (block ∷ []) right.are_blocks)

  -- a round
  with_loss : (front : List Block) (round : RoundOf) (losses : List Loss) → AreRightSoFar problem terms (front ++ RoundBlock round losses ∷ []) reads
      → GoesOnWithLoss problem terms (front ++ RoundBlock round losses ∷ []) (reads ++ Panel panel memory ∷ [])
  with_loss front round losses right =
      let block : Block = RoundBlock round losses in
      let next_is : Block = RoundBlock round (losses ++ Lost ∷ []) in
      let before : List ReportLine = flat_map block_lines front in
      let lost : List ReportLine = map loss_line losses in
      let same : reads ≡ right.head ∷ (before ++ block_lines block) = reads_are front block right in
      let regrouped : reads ≡ (right.head ∷ (before ++ lines_before_counts round)) ++ (Counts round.counts ∷ lost) =
      same ∙ ap (λ (ls : List ReportLine). right.head ∷ ls)
      (ap (λ (ls : List ReportLine). before ++ ls) (append_assoc (lines_before_counts round) (Counts round.counts ∷ []) lost) ∙ sym (append_assoc before (lines_before_counts round) (Counts round.counts ∷ lost))) in
      let one = comes_by stand.Nothing (right.head ∷ (before ++ lines_before_counts round)) (Counts round.counts ∷ lost) (stand.Counts last) (ap stand_of (sym regrouped) ∙ stands) in
      let two = comes_by one.between (Counts round.counts ∷ []) lost (stand.Counts last) one.back_leads in
      let counted : stand.Counts None ≡ two.between = (then_some-true (may_reject one.between) (stand.Counts None) two.between two.front_leads).1 in
      let below = below_later losses None last panel (ap (λ (at : Stand). stand_after_all at lost) counted ∙ two.back_leads) later in
      let own = next_block problem terms front block reads right in
      let next : IsNextBlock problem terms front next_is = record {
        text = own.text;
        at = own.at;
        is_block = more_losses problem.graph terms (progress_after_blocks problem front) (length front + 1) round losses Lost
            (event_of_line problem.graph (progress_after_blocks problem front).log own.text) few below.0 own.is_block;
      } in
      record {
        more = front ++ next_is ∷ [];
        as_many = length-append front (next_is ∷ []) ∙ sym (length-append front (block ∷ []));
        same_rounds = rounds_with front block ∙ sym (rounds_with front next_is);
        right = right_with_block problem terms right.has_reports right.head right.is_head front next_is (reads ++ Panel panel memory ∷ []) (front_is front block right) next
            (ap (λ (ls : List ReportLine). ls ++ Panel panel memory ∷ []) same
            ∙ ap (λ (ls : List ReportLine). right.head ∷ ls)
            (append_assoc before (block_lines block) (Panel panel memory ∷ [])
            ∙ ap (λ (ls : List ReportLine). before ++ ls)
            (append_assoc (round_lines round) lost (Panel panel memory ∷ []) ∙ ap (λ (ls : List ReportLine). round_lines round ++ ls) (sym (map-append loss_line losses (Lost ∷ []))))));
      }

  -- no refused line
  not_refused : (front : List Block) (number : ℕ) (cause : RefusedLine) → AreRightSoFar problem terms (front ++ RefusedBlock number cause ∷ []) reads → ⊥
  not_refused front number cause right =
      let same : reads ≡ (right.head ∷ flat_map block_lines front) ++ (Refused number cause ∷ []) = reads_are front (RefusedBlock number cause) right in
      let comes = comes_by stand.Nothing (right.head ∷ flat_map block_lines front) (Refused number cause ∷ []) (stand.Counts last) (ap stand_of (sym same) ∙ stands) in
      let none : stand.Block ≡ stand.Counts last = (then_some-true (may_begin_block comes.between) stand.Block (stand.Counts last) comes.back_leads).1 in
      cc

  -- nor is it the first line
  not_first : (head : ReportLine) → IsHead terms head → stand_of (head ∷ []) ≡ Some (stand.Counts last) → ⊥
  not_first head (inl new) at = let none : Some stand.Block ≡ Some (stand.Counts last) = ap (λ (l : ReportLine). stand_of (l ∷ [])) (sym new) ∙ at in cc
  not_first head (inr old) at = let none : Some stand.Block ≡ Some (stand.Counts last) = ap (λ (l : ReportLine). stand_of (l ∷ [])) (sym old.1) ∙ at in cc

  by_last : (front : List Block) (block : Block) → AreRightSoFar problem terms (front ++ block ∷ []) reads
      → GoesOnWithLoss problem terms (front ++ block ∷ []) (reads ++ Panel panel memory ∷ [])
  by_last front (RefusedBlock number cause) right = absurd (not_refused front number cause right)
  by_last front (RoundBlock round losses) right = with_loss front round losses right

  by_blocks : (blocks : List Block) → AreRightSoFar problem terms blocks reads → GoesOnWithLoss problem terms blocks (reads ++ Panel panel memory ∷ [])
  by_blocks [] right =
      let same : reads ≡ right.head ∷ [] = right.lines_are ∙ ap (λ (begun : List ReportLine). right.head ∷ begun) (none_begun reads (stand.Counts last) stands refl) in
      absurd (not_first right.head right.is_head (ap stand_of (sym same) ∙ stands))
  by_blocks (block ∷ blocks) right =
      let whole = ends_with block blocks in
      subst (λ (bs : List Block). GoesOnWithLoss problem terms bs (reads ++ Panel panel memory ∷ [])) (sym whole.is)
      (by_last whole.front whole.last (subst (λ (bs : List Block). AreRightSoFar problem terms bs reads) whole.is right))

-- A lost panel goes on right.
pub loss_goes_on : (problem : DiagnosisProblem) (terms : Terms) (blocks : List Block) (reads : List ReportLine) (panel : ℕ) (memory : Bool) (at : Stand) → AreRightSoFar problem terms blocks reads
    → panel ≤ MAX_PANEL_NUMBER → stand_of (reads ++ Panel panel memory ∷ []) ≡ Some at → GoesOnWithLoss problem terms blocks (reads ++ Panel panel memory ∷ [])
loss_goes_on problem terms blocks reads panel memory at right few stands = by comes.between comes.front_leads comes.back_leads
  where
    comes : ComesBy stand.Nothing reads (Panel panel memory ∷ []) at
    comes = comes_by stand.Nothing reads (Panel panel memory ∷ []) at stands

    by : (between : Stand) → stand_of reads ≡ Some between → after_loss between panel ≡ Some at → GoesOnWithLoss problem terms blocks (reads ++ Panel panel memory ∷ [])
    by (stand.Counts last) front leads =
        by_blocks problem terms reads panel memory few last front (then_some-true (is_later last panel) (stand.Counts (Some panel)) at leads).0 blocks right
    by _ front leads = absurd cc
