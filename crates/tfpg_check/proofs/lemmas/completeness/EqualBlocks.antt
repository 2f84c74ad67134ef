-- Right lines determine the terms and the blocks of their report.
use Rattle.std.proofs.Common.{◌≡◌, ℕ, zero, suc, ◌+◌, ◌≤◌, List, [], ◌∷◌, ◌++◌, length, get_or, map, take, Result, Ok, Err, slice_get, inl, inr, refl, sym, ap, subst, ◌∙◌, arith, add-one}
use Rattle.std.specs.Prelude.{flat_map, option_map}
use Rattle.std.proofs.lemmas.List.{append_cancel_right, length-map, take_all}
use Rattle.std.proofs.lemmas.Option.{same_Some, slice_get-map}
use Rattle.tfpg_base.specs.declared.terms.Terms.{Terms}
use Rattle.tfpg_base.proofs.lemmas.lists.Cuts.{take-next}
use Rattle.tfpg_base.proofs.lemmas.lists.Elements.{slice_get-there}
use Rattle.tfpg_base.proofs.lemmas.lists.Groups.{AreGroups, BeginsPassing, group, same_groups, same_parts}
use Rattle.tfpg_base.proofs.lemmas.lists.Images.{flat_map-same, map-injective}
use Rattle.tfpg_graph.specs.Graph.{Tfpg}
use Rattle.tfpg_log.specs.declared.event.Event.{Event}
use Rattle.tfpg_log.specs.Log.{with_event}
use Rattle.tfpg_log.specs.declared.refused_line.RefusedLine.{RefusedLine}
use Rattle.tfpg_report.specs.declared.report_line.ReportLine.{ReportLine}
use Rattle.tfpg_report.specs.declared.report_line.ReportLine.TheVariants.{Head, OldHead}
use Rattle.tfpg_report.specs.Blocks.{Block, RoundBlock, Loss, block_lines, round_lines}
use Rattle.tfpg_report.specs.inside.LineNames.{loss_line}
use Rattle.tfpg_report.specs.Reading.{IsHead, begun_in}
use Rattle.tfpg_check.specs.Report.{AreBlocks, IsBlock, IsBlockOf, Progress, event_of_line, progress_of}
use Rattle.tfpg_check.specs.Causes.{AreRightSoFar, DiagnosisProblem}
use Rattle.tfpg_check.proofs.lemmas.passing.ByNumber.{map-same}
use Rattle.tfpg_check.proofs.lemmas.completeness.EqualRounds.{same_round}
use Rattle.tfpg_check.proofs.lemmas.completeness.LinesOfBlocks.{begins_block, block_grouped, first_begins_block, first_of_block, is_panel, others_begin_none, others_of_block, round_no_panels}

-- ---- the first line

-- a first line is that of one list of terms
pub one_head : (terms others : Terms) (head : ReportLine) → IsHead terms head → IsHead others head → terms ≡ others
one_head terms others head (inl new) (inl also) = let same : Head terms ≡ Head others = sym new ∙ also in cc
one_head terms others head (inl new) (inr old) = let same : Head terms ≡ OldHead others.k others.budget = sym new ∙ old.1 in absurd cc
one_head terms others head (inr old) (inl new) = let same : Head others ≡ OldHead terms.k terms.budget = sym new ∙ old.1 in absurd cc
one_head terms others head (inr old) (inr also) =
    let same : OldHead terms.k terms.budget ≡ OldHead others.k others.budget = sym old.1 ∙ also.1 in
    let k : terms.k ≡ others.k = cc in
    let budget : terms.budget ≡ others.budget = cc in
    let doubt : terms.doubt ≡ others.doubt = old.0 ∙ sym also.0 in
    λ i. record { k = k i; doubt = doubt i; budget = budget i }

-- ---- one block

-- the losses of a round are read back
same_losses : (xs ys : List Loss) → map loss_line xs ≡ map loss_line ys → xs ≡ ys
same_losses xs ys same = map-injective (λ loss. Unit {0}) loss_line one_loss xs ys (λ k d within. tt) (λ k d within. tt) same
  where
    one_loss : (a b : Loss) → Unit {0} → Unit {0} → loss_line a ≡ loss_line b → a ≡ b
    one_loss a b of too is =
        let panels : a.panel ≡ b.panel = cc in
        let memory : a.memory ≡ b.memory = cc in
        λ i. record { panel = panels i; memory = memory i }

begins_with_panel : (losses : List Loss) → BeginsPassing is_panel (map loss_line losses)
begins_with_panel [] = tt
begins_with_panel (loss ∷ losses) = refl

-- Blocks that a line may have, after the same, with equal lines, are equal.
pub one_block : (graph : Tfpg) (terms : Terms) (before : Progress) (number : ℕ) (found : Result Event RefusedLine) (block other : Block) → IsBlockOf graph terms before number block found
    → IsBlockOf graph terms before number other found → block_lines block ≡ block_lines other → block ≡ other
one_block graph terms before number (Err cause) block other is also same = is ∙ sym also
one_block graph terms before number (Ok event) block other is also same =
    let lines : round_lines is.0 ++ map loss_line is.1 ≡ round_lines also.0 ++ map loss_line also.1 = sym (ap block_lines is.2) ∙ same ∙ ap block_lines also.2 in
    let parts = same_parts is_panel (round_lines is.0) (map loss_line is.1) (round_lines also.0) (map loss_line also.1) (round_no_panels is.0) (round_no_panels also.0)
    (begins_with_panel is.1) (begins_with_panel also.1) lines in
    let rounds : is.0 ≡ also.0 = same_round graph terms before.rounds (with_event before.log event) number is.0 also.0 is.3 also.3 parts.0 in
    let losses : is.1 ≡ also.1 = same_losses is.1 also.1 parts.1 in
    is.2 ∙ (λ i. RoundBlock (rounds i) (losses i)) ∙ sym also.2

-- ---- block by block

-- blocks whose lines are the same end to end have the same lines one by one
same_one_by_one : (blocks more : List Block) → flat_map block_lines blocks ≡ flat_map block_lines more → map block_lines blocks ≡ map block_lines more
same_one_by_one blocks more same =
    sym (one_by_one blocks) ∙ same_groups begins_block first_of_block others_of_block blocks more (groups blocks) (groups more) (sym (grouped blocks) ∙ same ∙ grouped more)
    ∙ one_by_one more
  where
    groups : (all : List Block) → AreGroups begins_block first_of_block others_of_block all
    groups all = record { first_passes = λ k d within. first_begins_block (get_or all k d); others_fail = λ k d within. others_begin_none (get_or all k d) }

    grouped : (all : List Block) → flat_map block_lines all ≡ flat_map (group begins_block first_of_block others_of_block) all
    grouped all = flat_map-same block_lines (group begins_block first_of_block others_of_block) all (λ k d within. block_grouped (get_or all k d))

    one_by_one : (all : List Block) → map (group begins_block first_of_block others_of_block) all ≡ map block_lines all
    one_by_one all = map-same (group begins_block first_of_block others_of_block) block_lines all (λ k d within. sym (block_grouped (get_or all k d)))

module _ (graph : Tfpg) (terms : Terms) (lines : List (List ℕ)) (blocks more : List Block) (are : AreBlocks graph terms lines blocks) (also : AreBlocks graph terms lines more)
    (same : map block_lines blocks ≡ map block_lines more) where
  blocks_upto : (count : ℕ) → count ≤ length blocks → take count blocks ≡ take count more
  blocks_upto zero within = refl
  blocks_upto (suc count) within =
      let one_each = are.one_each in
      let each_too = also.one_each in
      let before : take count blocks ≡ take count more = blocks_upto count (omega (arith, within)) in
      let line = slice_get-there lines count (omega (arith, within, one_each)) in
      let block = slice_get-there blocks count within in
      let other = slice_get-there more count (omega (arith, within, one_each, each_too)) in
      let alike : block_lines block.0 ≡ block_lines other.0 =
      same_Some (block_lines block.0) (block_lines other.0)
      (sym (slice_get-map block_lines blocks count ∙ ap (option_map block_lines) block.1) ∙ ap (λ (ls : List (List ReportLine)). slice_get ls count) same
      ∙ slice_get-map block_lines more count ∙ ap (option_map block_lines) other.1) in
      let progress : Progress = progress_of graph (take count lines) (take count blocks) in
      let one : block.0 ≡ other.0 = one_block graph terms progress (count + 1) (event_of_line graph progress.log line.0) block.0 other.0 (are.each count line.0 block.0 line.1 block.1)
      (subst (λ (front : List Block). IsBlock graph terms (progress_of graph (take count lines) front) (count + 1) line.0 other.0) (sym before) (also.each count line.0 other.0 line.1 other.1)) alike in
      subst (λ (n : ℕ). take n blocks ≡ take n more) (add-one count)
      (take-next blocks count block.0 block.1 ∙ (λ i. before i ++ one i ∷ []) ∙ sym (take-next more count other.0 other.1))

  blocks_alike : blocks ≡ more
  blocks_alike =
      let one_each = are.one_each in
      let each_too = also.one_each in
      sym (take_all (length blocks) blocks (omega arith)) ∙ blocks_upto (length blocks) (omega arith) ∙ take_all (length blocks) more (omega (arith, one_each, each_too))

-- Lines that are right so far are so on the same terms, and with the same blocks.
pub one_report : (problem : DiagnosisProblem) (terms others : Terms) (blocks more : List Block) (reads : List ReportLine) → AreRightSoFar problem terms blocks reads
    → AreRightSoFar problem others more reads → (terms ≡ others) × (blocks ≡ more)
one_report problem terms others blocks more reads right also =
    let whole : right.head ∷ flat_map block_lines blocks ++ begun_in reads ≡ also.head ∷ flat_map block_lines more ++ begun_in reads = sym right.lines_are ∙ also.lines_are in
    let heads : right.head ≡ also.head = cc in
    let later : flat_map block_lines blocks ++ begun_in reads ≡ flat_map block_lines more ++ begun_in reads = cc in
    let lines : flat_map block_lines blocks ≡ flat_map block_lines more =
    append_cancel_right (flat_map block_lines blocks) (flat_map block_lines more) (begun_in reads) later in
    let one : terms ≡ others = one_head terms others right.head right.is_head (subst (IsHead others) (sym heads) also.is_head) in
    let each = same_one_by_one blocks more lines in
    let many : length blocks ≡ length more = sym (length-map blocks block_lines) ∙ ap length each ∙ length-map more block_lines in (
      one,
      blocks_alike problem.graph terms (take (length blocks) problem.log_lines) blocks more right.are_blocks
          (subst (λ (t : Terms). AreBlocks problem.graph t (take (length blocks) problem.log_lines) more) (sym one)
          (subst (λ (n : ℕ). AreBlocks problem.graph others (take n problem.log_lines) more) (sym many) also.are_blocks))
          each,
    )
