-- What the lines of a report begin with is right so far, and so is each line that completes a block.
use Rattle.std.proofs.Common.{◌≡◌, ℕ, ◌+◌, ◌<◌, ◌≤◌, true, false, List, [], ◌∷◌, ◌++◌, length, map, take, drop, All, AllPairs, Some, Result, Ok, Err, slice_get, inl, inr, refl, sym, ap, subst, ◌∙◌, arith, append-nil, append_assoc, length-append}
use Rattle.std.specs.Prelude.{flat_map, fold}
use Rattle.std.proofs.Math.Seq.{take-append_seam}
use Rattle.std.proofs.lemmas.Bool.{false≢true}
use Rattle.std.proofs.lemmas.List.{length-take-le, same_from_push, take-append-drop, take-append-le, take-map, take-take}
use Rattle.std.proofs.lemmas.List.Concat.{flat_map-append}
use Rattle.std.proofs.lemmas.List.Elements.{All-nil, All-cons, All-take, All-weaker}
use Rattle.std.proofs.lemmas.List.Sums.{fold-append}
use Rattle.std.proofs.lemmas.Option.{same_Some, slice_get_within}
use Rattle.tfpg_base.specs.declared.terms.Terms.{Terms}
use Rattle.tfpg_base.specs.declared.limits.TheConstants.{MAX_PANEL_NUMBER}
use Rattle.tfpg_base.proofs.lemmas.lists.Cuts.{append_cons-not_nil, cut_twice, slice_get-take, slice_get-taken}
use Rattle.tfpg_base.proofs.lemmas.lists.Elements.{All-front, All-middle, AllPairs-front, slice_get-there}
use Rattle.tfpg_base.proofs.lemmas.lists.Written.{slice_get-append_some, slice_get-push_cases, slice_get-after}
use Rattle.tfpg_graph.specs.Graph.{Tfpg}
use Rattle.tfpg_log.specs.declared.event.Event.{Event}
use Rattle.tfpg_evidence.specs.declared.round.Round.{Round as RoundOf}
use Rattle.tfpg_log.specs.declared.refused_line.RefusedLine.{RefusedLine}
use Rattle.tfpg_report.specs.declared.report_line.ReportLine.{ReportLine}
use Rattle.tfpg_report.specs.declared.report_line.ReportLine.TheVariants.{Refused, Counts}
use Rattle.tfpg_report.specs.Blocks.{Block, RefusedBlock, RoundBlock, Loss, block_lines, round_lines}
use Rattle.tfpg_report.specs.inside.LineNames.{loss_line}
use Rattle.tfpg_report.specs.Reading.{IsHead, begun_in, begun_with, is_last}
use Rattle.tfpg_check.specs.Report.{AreBlocks, AreLosses, HasReports, IsBlock, IsBlockOf, Progress, event_of_line, progress_of}
use Rattle.tfpg_check.specs.Causes.{AreRightSoFar, BlockFails, DiagnosisProblem, next_event, progress_after_blocks}
use Rattle.tfpg_check.specs.Tests.{Passes}
use Rattle.tfpg_check.proofs.lemmas.completeness.LinesOfBlocks.{begun_after_last, begun_more, blocks_end, completes_block, is_panel, is_within, last_completes, losses_are_panels, middle, middle_within, panel_completes_none, round_line, within_not_last}
use Rattle.tfpg_check.proofs.lemmas.completeness.RightBlocksPass.{IsNextBlock, completed_passes}

-- ---- blocks

module _ (graph : Tfpg) (terms : Terms) (lines : List (List ℕ)) where
  -- What right blocks begin with is right.
  pub blocks_front : (front back : List Block) → AreBlocks graph terms lines (front ++ back) → AreBlocks graph terms (take (length front) lines) front
  blocks_front front back are =
      let one_each = are.one_each in
      let long : length (front ++ back) ≡ length front + length back = length-append front back in
      record {
        one_each = sym (length-take-le (length front) lines (omega (arith, one_each, long)));
        each = λ index line block at_line at. (
            let within : index < length front = slice_get_within front index block at in
            let there = slice_get-taken (length front) lines index line at_line in
            let own = are.each index line block there.1 (slice_get-append_some front back index block at) in
            let fronts : take index (front ++ back) ≡ take index front = take-append-le index front back (omega (arith, within)) in
            let earlier : take index (take (length front) lines) ≡ take index lines = take-take index (length front) lines (omega (arith, within)) in
            subst (λ (progress : Progress). IsBlock graph terms progress (index + 1) line block) (λ i. progress_of graph (sym earlier i) (fronts i)) own
            );
      }

  -- So are blocks with the next one.
  blocks_with : (front : List Block) (block : Block) (text : List ℕ) → AreBlocks graph terms (take (length front) lines) front → slice_get lines (length front) ≡ Some text
      → IsBlock graph terms (progress_of graph (take (length front) lines) front) (length front + 1) text block
      → AreBlocks graph terms (take (length (front ++ block ∷ [])) lines) (front ++ block ∷ [])
  blocks_with front block text are at is =
      let inside : length front < length lines = slice_get_within lines (length front) text at in
      let long : length (front ++ block ∷ []) ≡ length front + 1 = length-append front (block ∷ []) in
      record {
        one_each = sym (length-take-le (length (front ++ block ∷ [])) lines (omega (arith, inside, long)));
        each = λ index line other at_line there. (
            let own_line = slice_get-taken (length (front ++ block ∷ [])) lines index line at_line in
            elim (slice_get-push_cases front block index other there) [
              | inl before ↦ (
                  let within : index < length front = slice_get_within front index other before in
                  let fronts : take index (front ++ block ∷ []) ≡ take index front = take-append-le index front (block ∷ []) (omega (arith, within)) in
                  let one : take index (take (length front) lines) ≡ take index lines = take-take index (length front) lines (omega (arith, within)) in
                  let both : take index (take (length (front ++ block ∷ [])) lines) ≡ take index lines = take-take index (length (front ++ block ∷ [])) lines (omega (arith, within, long)) in
                  subst (λ (progress : Progress). IsBlock graph terms progress (index + 1) line other) (λ i. progress_of graph ((one ∙ sym both) i) (sym fronts i))
                  (are.each index line other (slice_get-take (length front) lines index within ∙ own_line.1) before)
                  )
              | inr last ↦ (
                  let number : index ≡ length front = last.0 in
                  let same : block ≡ other = last.1 in
                  let fronts : take index (front ++ block ∷ []) ≡ front = ap (λ (n : ℕ). take n (front ++ block ∷ [])) number ∙ take-append_seam front (block ∷ []) in
                  let both : take index (take (length (front ++ block ∷ [])) lines) ≡ take (length front) lines =
                  ap (λ (n : ℕ). take n (take (length (front ++ block ∷ [])) lines)) number ∙ take-take (length front) (length (front ++ block ∷ [])) lines (omega (arith, long)) in
                  let texts : text ≡ line = same_Some text line (sym at ∙ ap (slice_get lines) (sym number) ∙ own_line.1) in
                  subst (λ (progress : Progress). IsBlock graph terms progress (index + 1) line other) (λ i. progress_of graph (sym both i) (sym fronts i))
                  (subst (λ (b : Block). IsBlock graph terms (progress_of graph (take (length front) lines) front) (index + 1) line b) same
                  (subst (λ (l : List ℕ). IsBlock graph terms (progress_of graph (take (length front) lines) front) (index + 1) l block) texts
                  (subst (λ (n : ℕ). IsBlock graph terms (progress_of graph (take (length front) lines) front) (n + 1) text block) (sym number) is)))
                  )
            ]
            );
      }

-- a round may lose only the first of its panels
fewer_losses : (graph : Tfpg) (terms : Terms) (before : Progress) (number : ℕ) (round : RoundOf) (losses : List Loss) (found : Result Event RefusedLine) (count : ℕ)
    → IsBlockOf graph terms before number (RoundBlock round losses) found → IsBlockOf graph terms before number (RoundBlock round (take count losses)) found
fewer_losses graph terms before number round losses (Err cause) count is = absurd cc
fewer_losses graph terms before number round losses (Ok event) count is =
    let same : RoundBlock round losses ≡ RoundBlock is.0 is.1 = is.2 in
    let rounds : round ≡ is.0 = cc in
    let lost : is.1 ≡ losses = cc in
    let are : AreLosses losses = subst AreLosses lost is.4 in (
      is.0,
      take count losses,
      ap (λ (r : RoundOf). RoundBlock r (take count losses)) rounds,
      is.3,
      record {
        numbers = All-take (λ (loss : Loss). loss.panel ≤ MAX_PANEL_NUMBER) count losses are.numbers;
        rising = AllPairs-front (λ (a b : Loss). a.panel < b.panel) (take count losses) (drop count losses)
            (subst (AllPairs (λ (a b : Loss). a.panel < b.panel)) (sym (take-append-drop count losses)) are.rising);
      },
    )

-- ---- where a line stands

-- The line stands in a block, after some of its lines and the blocks before it.
record StandsIn (all : List Block) (front : List ReportLine) (here : ReportLine) : Type 0 where
  earlier : List Block
  block : Block
  later : List Block
  part : List ReportLine
  more : List ReportLine
  blocks_are : all ≡ earlier ++ block ∷ later
  front_is : front ≡ flat_map block_lines earlier ++ part
  lines_are : block_lines block ≡ part ++ here ∷ more

stands_in : (all : List Block) (front : List ReportLine) (here : ReportLine) (rest : List ReportLine) → flat_map block_lines all ≡ front ++ here ∷ rest → StandsIn all front here
stands_in [] front here rest same = absurd (append_cons-not_nil front here rest same)
stands_in (block ∷ blocks) front here rest same = elim (cut_twice (block_lines block) (flat_map block_lines blocks) front (here ∷ rest) same) [
  | inl past ↦ (
      let found = stands_in blocks past.mid here rest past.rest_is in
      record {
        earlier = block ∷ found.earlier;
        block = found.block;
        later = found.later;
        part = found.part;
        more = found.more;
        blocks_are = ap (λ (bs : List Block). block ∷ bs) found.blocks_are;
        front_is = past.front_is ∙ ap (λ (ls : List ReportLine). block_lines block ++ ls) found.front_is
            ∙ sym (append_assoc (block_lines block) (flat_map block_lines found.earlier) found.part);
        lines_are = found.lines_are;
      }
      )
  | inr within ↦ (
      let head : here ≡ within.here = (let back = within.back_is in cc) in
      record {
        earlier = [];
        block = block;
        later = blocks;
        part = front;
        more = within.mid;
        blocks_are = refl;
        front_is = refl;
        lines_are = within.xs_is ∙ ap (λ (l : ReportLine). front ++ l ∷ within.mid) (sym head);
      }
      )
]

-- ---- fronts of a report

-- Lines are right so far, and so they are with this line and one more block, where it completes one.
pub record IsRightFront (problem : DiagnosisProblem) (terms : Terms) (reads : List ReportLine) (here : ReportLine) : Type 0 where
  pub blocks : List Block
  pub right : AreRightSoFar problem terms blocks reads
  pub next : completes_block here ≡ true → (block : Block) × AreRightSoFar problem terms (blocks ++ block ∷ []) (reads ++ here ∷ [])

-- the first line is a last one
pub head_is_last : (terms : Terms) (head : ReportLine) → IsHead terms head → is_last head ≡ true
head_is_last terms head (inl new) = ap is_last new
head_is_last terms head (inr old) = ap is_last old.1

module _ (problem : DiagnosisProblem) (terms : Terms) (has_reports : HasReports problem.graph terms) (head : ReportLine) (is_head : IsHead terms head) where
  -- Right blocks and the lines of a round that has not ended are right so far.
  pub right_so_far : (blocks : List Block) (begun : List ReportLine) (reads : List ReportLine) → length blocks ≤ length problem.log_lines
      → AreBlocks problem.graph terms (take (length blocks) problem.log_lines) blocks → All (λ line. is_last line ≡ false) begun → reads ≡ head ∷ (flat_map block_lines blocks ++ begun)
      → AreRightSoFar problem terms blocks reads
  right_so_far blocks begun reads few are not_last same =
      let counted : begun_in reads ≡ begun =
      ap begun_in same
      ∙ ap (λ (b : List ReportLine). fold begun_with b (flat_map block_lines blocks ++ begun)) (begun_after_last [] head (head_is_last terms head is_head))
      ∙ fold-append begun_with [] (flat_map block_lines blocks) begun
      ∙ ap (λ (b : List ReportLine). fold begun_with b begun) (blocks_end blocks)
      ∙ begun_more [] begun not_last in
      record {
        has_reports = has_reports;
        head = head;
        is_head = is_head;
        few = few;
        are_blocks = are;
        lines_are = same ∙ ap (λ (ls : List ReportLine). head ∷ (flat_map block_lines blocks ++ ls)) (sym counted);
      }

  -- So are right blocks with the lines of the next one.
  pub right_with_block : (earlier : List Block) (block : Block) (reads : List ReportLine) → AreBlocks problem.graph terms (take (length earlier) problem.log_lines) earlier
      → IsNextBlock problem terms earlier block → reads ≡ head ∷ (flat_map block_lines earlier ++ block_lines block) → AreRightSoFar problem terms (earlier ++ block ∷ []) reads
  right_with_block earlier block reads are next same =
      let inside : length earlier < length problem.log_lines = slice_get_within problem.log_lines (length earlier) next.text next.at in
      let long : length (earlier ++ block ∷ []) ≡ length earlier + 1 = length-append earlier (block ∷ []) in
      right_so_far (earlier ++ block ∷ []) [] reads (omega (arith, inside, long))
      (blocks_with problem.graph terms problem.log_lines earlier block next.text are next.at next.is_block)
      (All-nil (λ line. is_last line ≡ false))
      (same ∙ ap (λ (ls : List ReportLine). head ∷ ls)
      (sym (append-nil (flat_map block_lines (earlier ++ block ∷ [])) ∙ flat_map-append block_lines earlier (block ∷ [])
      ∙ ap (λ (ls : List ReportLine). flat_map block_lines earlier ++ ls) (append-nil (block_lines block)))))

  module _ (earlier : List Block) (few : length earlier ≤ length problem.log_lines) (are : AreBlocks problem.graph terms (take (length earlier) problem.log_lines) earlier)
      (part : List ReportLine) (here : ReportLine) (more : List ReportLine) where
    abbrev Reads : List ReportLine
    Reads = head ∷ (flat_map block_lines earlier ++ part)

    -- with this line
    reads_with : (lines : List ReportLine) → lines ≡ part ++ here ∷ [] → Reads ++ here ∷ [] ≡ head ∷ (flat_map block_lines earlier ++ lines)
    reads_with lines same =
        ap (λ (ls : List ReportLine). head ∷ ls) (append_assoc (flat_map block_lines earlier) part (here ∷ []) ∙ ap (λ (ls : List ReportLine). flat_map block_lines earlier ++ ls) (sym same))

    -- the line is that of a refused line
    front_at_refused : (number : ℕ) (cause : RefusedLine) → IsNextBlock problem terms earlier (RefusedBlock number cause) → (others : List ReportLine) → part ≡ others
        → Refused number cause ∷ [] ≡ others ++ here ∷ more → IsRightFront problem terms Reads here
    front_at_refused number cause next [] none lines =
        let own : here ≡ Refused number cause = cc in
        record {
          blocks = earlier;
          right = right_so_far earlier part Reads few are (subst (All (λ line. is_last line ≡ false)) (sym none) (All-nil (λ line. is_last line ≡ false))) refl;
          next = λ completes. (
            RefusedBlock number cause,
            right_with_block earlier (RefusedBlock number cause) (Reads ++ here ∷ []) are next
                (reads_with (Refused number cause ∷ []) (λ i. sym none i ++ sym own i ∷ [])),
          );
        }
    front_at_refused number cause next (other ∷ others) some lines =
        let rest : [] ≡ others ++ here ∷ more = cc in
        absurd (append_cons-not_nil others here more rest)

    module _ (round : RoundOf) (losses : List Loss) (next : IsNextBlock problem terms earlier (RoundBlock round losses)) where
      -- the round with fewer losses may come as well
      next_with : (count : ℕ) → IsNextBlock problem terms earlier (RoundBlock round (take count losses))
      next_with count = record {
        text = next.text;
        at = next.at;
        is_block = fewer_losses problem.graph terms (progress_after_blocks problem earlier) (length earlier + 1) round losses
            (event_of_line problem.graph (progress_after_blocks problem earlier).log next.text) count next.is_block;
      }

      begun_not_last : All (λ line. is_last line ≡ false) (round_line round ∷ middle round)
      begun_not_last =
          All-cons (λ line. is_last line ≡ false) (round_line round) (middle round) refl
          (All-weaker (λ line. is_within line ≡ true) (λ line. is_last line ≡ false) within_not_last (middle round) (middle_within round))

      -- the line stands before the counts of a round
      front_before_counts : (mid : List ReportLine) → round_line round ∷ middle round ≡ part ++ here ∷ mid → IsRightFront problem terms Reads here
      front_before_counts mid same =
          let all : All (λ line. is_last line ≡ false) (part ++ here ∷ mid) = subst (All (λ line. is_last line ≡ false)) same begun_not_last in
          record {
            blocks = earlier;
            right = right_so_far earlier part Reads few are (All-front (λ line. is_last line ≡ false) part (here ∷ mid) all) refl;
            next = λ completes. absurd (false≢true (sym (All-middle (λ line. is_last line ≡ false) part here mid all) ∙ last_completes here completes));
          }

      -- it is the counts
      front_at_counts : (others mid : List ReportLine) → part ≡ (round_line round ∷ middle round) ++ others → Counts round.counts ∷ [] ≡ others ++ here ∷ mid → IsRightFront problem terms Reads here
      front_at_counts [] mid before counts =
          let own : here ≡ Counts round.counts = cc in
          let begun : part ≡ round_line round ∷ middle round = before ∙ append-nil (round_line round ∷ middle round) in
          record {
            blocks = earlier;
            right = right_so_far earlier part Reads few are (subst (All (λ line. is_last line ≡ false)) (sym begun) begun_not_last) refl;
            next = λ completes. (
              RoundBlock round (take 0 losses),
              right_with_block earlier (RoundBlock round (take 0 losses)) (Reads ++ here ∷ []) are (next_with 0)
                  (reads_with (block_lines (RoundBlock round (take 0 losses))) (append-nil (round_lines round) ∙ (λ i. sym begun i ++ sym own i ∷ []))),
            );
          }
      front_at_counts (other ∷ others) mid before counts =
          let rest : [] ≡ others ++ here ∷ mid = cc in
          absurd (append_cons-not_nil others here mid rest)

      -- it is that of a lost panel
      front_at_panel : (mid : List ReportLine) → part ≡ round_lines round ++ mid → map loss_line losses ≡ mid ++ here ∷ more → IsRightFront problem terms Reads here
      front_at_panel mid before panels =
          let count : ℕ = length mid in
          let lost : map loss_line (take count losses) ≡ mid = sym (take-map loss_line count losses) ∙ ap (take count) panels ∙ take-append_seam mid (here ∷ more) in
          record {
            blocks = earlier ++ RoundBlock round (take count losses) ∷ [];
            right = right_with_block earlier (RoundBlock round (take count losses)) Reads are (next_with count)
                (ap (λ (ls : List ReportLine). head ∷ (flat_map block_lines earlier ++ ls)) (before ∙ ap (λ (ls : List ReportLine). round_lines round ++ ls) (sym lost)));
            next = λ completes. absurd (false≢true
                (sym (panel_completes_none here (All-middle (λ line. is_panel line ≡ true) mid here more (subst (All (λ line. is_panel line ≡ true)) panels (losses_are_panels losses)))) ∙ completes));
          }

      front_in_round : block_lines (RoundBlock round losses) ≡ part ++ here ∷ more → IsRightFront problem terms Reads here
      front_in_round lines = elim (cut_twice (round_lines round) (map loss_line losses) part (here ∷ more) lines) [
        | inl past ↦ front_at_panel past.mid past.front_is past.rest_is
        | inr within ↦ (
            let own : within.here ≡ here = (let back = within.back_is in cc) in
            let whole : (round_line round ∷ middle round) ++ Counts round.counts ∷ [] ≡ part ++ here ∷ within.mid = within.xs_is ∙ ap (λ (l : ReportLine). part ++ l ∷ within.mid) own in
            elim (cut_twice (round_line round ∷ middle round) (Counts round.counts ∷ []) part (here ∷ within.mid) whole) [
              | inl past ↦ front_at_counts past.mid within.mid past.front_is past.rest_is
              | inr inner ↦ (
                  let same : inner.here ≡ here = (let back = inner.back_is in cc) in
                  front_before_counts inner.mid (inner.xs_is ∙ ap (λ (l : ReportLine). part ++ l ∷ inner.mid) same)
                  )
            ]
            )
      ]

    front_in : (block : Block) → IsNextBlock problem terms earlier block → block_lines block ≡ part ++ here ∷ more → IsRightFront problem terms Reads here
    front_in (RefusedBlock number cause) next lines = front_at_refused number cause next part refl lines
    front_in (RoundBlock round losses) next lines = front_in_round round losses next lines

  -- What the lines of a report begin with is right so far.
  pub right_front : (all : List Block) → AreBlocks problem.graph terms problem.log_lines all → (front : List ReportLine) (here : ReportLine) (rest : List ReportLine)
      → flat_map block_lines all ≡ front ++ here ∷ rest → IsRightFront problem terms (head ∷ front) here
  right_front all are front here rest same =
      let at = stands_in all front here rest same in
      let own : AreBlocks problem.graph terms problem.log_lines (at.earlier ++ at.block ∷ at.later) = subst (AreBlocks problem.graph terms problem.log_lines) at.blocks_are are in
      let one_each = own.one_each in
      let long : length (at.earlier ++ at.block ∷ at.later) ≡ length at.earlier + length (at.block ∷ at.later) = length-append at.earlier (at.block ∷ at.later) in
      let text = slice_get-there problem.log_lines (length at.earlier) (omega (arith, one_each, long)) in
      let next : IsNextBlock problem terms at.earlier at.block =
      record {
        text = text.0;
        at = text.1;
        is_block = subst (λ (bs : List Block). IsBlock problem.graph terms (progress_of problem.graph (take (length at.earlier) problem.log_lines) bs) (length at.earlier + 1) text.0 at.block)
            (take-append_seam at.earlier (at.block ∷ at.later))
            (own.each (length at.earlier) text.0 at.block text.1 (slice_get-after at.earlier at.block at.later));
      } in
      subst (λ (ls : List ReportLine). IsRightFront problem terms (head ∷ ls) here) (sym at.front_is)
      (front_in at.earlier (omega (arith, one_each, long)) (blocks_front problem.graph terms problem.log_lines at.earlier (at.block ∷ at.later) own) at.part here at.more at.block next at.lines_are)

-- ---- before a block that is complete

-- The lines of a block before the line that completes it.
record IsCompletedBy (line : ReportLine) (block : Block) : Type 0 where
  begun : List ReportLine
  lines_are : block_lines block ≡ begun ++ line ∷ []
  not_last : All (λ other. is_last other ≡ false) begun

-- where the last line of a block completes it, it is the only one that can
completed_by : (front reads : List ReportLine) (line : ReportLine) (block : Block) → completes_block line ≡ true → reads ++ line ∷ [] ≡ front ++ block_lines block → IsCompletedBy line block
completed_by front reads line (RefusedBlock number cause) completes same =
    let last = same_from_push reads front line (Refused number cause) same in
    record { begun = []; lines_are = ap (λ (l : ReportLine). l ∷ []) (sym last.1); not_last = All-nil (λ other. is_last other ≡ false) }
completed_by front reads line (RoundBlock round []) completes same =
    let whole : block_lines (RoundBlock round []) ≡ (round_line round ∷ middle round) ++ Counts round.counts ∷ [] = append-nil (round_lines round) in
    let last = same_from_push reads (front ++ round_line round ∷ middle round) line (Counts round.counts)
    (same ∙ ap (λ (ls : List ReportLine). front ++ ls) whole ∙ sym (append_assoc front (round_line round ∷ middle round) (Counts round.counts ∷ []))) in
    record {
      begun = round_line round ∷ middle round;
      lines_are = whole ∙ ap (λ (l : ReportLine). (round_line round ∷ middle round) ++ l ∷ []) (sym last.1);
      not_last = All-cons (λ other. is_last other ≡ false) (round_line round) (middle round) refl
          (All-weaker (λ other. is_within other ≡ true) (λ other. is_last other ≡ false) within_not_last (middle round) (middle_within round));
    }
completed_by front reads line (RoundBlock round (loss ∷ losses)) completes same =
    let lost : List ReportLine = map loss_line (loss ∷ losses) in
    elim (cut_twice (front ++ round_lines round) lost reads (line ∷ []) (append_assoc front (round_lines round) lost ∙ sym same)) [
      | inl past ↦ absurd (false≢true
          (sym (panel_completes_none line (All-middle (λ l. is_panel l ≡ true) past.mid line [] (subst (All (λ l. is_panel l ≡ true)) past.rest_is (losses_are_panels (loss ∷ losses))))) ∙ completes))
      | inr within ↦ (
          let back : line ∷ [] ≡ within.here ∷ (within.mid ++ lost) = within.back_is in
          let none : [] ≡ within.mid ++ loss_line loss ∷ map loss_line losses = cc in
          absurd (append_cons-not_nil within.mid (loss_line loss) (map loss_line losses) none)
          )
    ]

module _ (problem : DiagnosisProblem) (terms : Terms) (blocks : List Block) (block : Block) (reads : List ReportLine) (line : ReportLine) (completes : completes_block line ≡ true)
    (right : AreRightSoFar problem terms (blocks ++ block ∷ []) (reads ++ line ∷ [])) where
  -- without the line and the block that it completes lines are right so far
  right_before : AreRightSoFar problem terms blocks reads
  right_before =
      let head : ReportLine = right.head in
      let few = right.few in
      let long : length (blocks ++ block ∷ []) ≡ length blocks + 1 = length-append blocks (block ∷ []) in
      let ended : begun_in (reads ++ line ∷ []) ≡ [] = fold-append begun_with [] reads (line ∷ []) ∙ begun_after_last (begun_in reads) line (last_completes line completes) in
      let lines : reads ++ line ∷ [] ≡ (head ∷ flat_map block_lines blocks) ++ block_lines block =
      right.lines_are ∙ ap (λ (begun : List ReportLine). head ∷ flat_map block_lines (blocks ++ block ∷ []) ++ begun) ended
      ∙ ap (λ (ls : List ReportLine). head ∷ ls)
      (append-nil (flat_map block_lines (blocks ++ block ∷ [])) ∙ flat_map-append block_lines blocks (block ∷ [])
      ∙ ap (λ (ls : List ReportLine). flat_map block_lines blocks ++ ls) (append-nil (block_lines block))) in
      let own = completed_by (head ∷ flat_map block_lines blocks) reads line block completes lines in
      let before = same_from_push reads ((head ∷ flat_map block_lines blocks) ++ own.begun) line line
      (lines ∙ ap (λ (ls : List ReportLine). (head ∷ flat_map block_lines blocks) ++ ls) own.lines_are
      ∙ sym (append_assoc (head ∷ flat_map block_lines blocks) own.begun (line ∷ []))) in
      right_so_far problem terms right.has_reports head right.is_head blocks own.begun reads (omega (arith, few, long))
      (subst (λ (ls : List (List ℕ)). AreBlocks problem.graph terms ls blocks) (take-take (length blocks) (length (blocks ++ block ∷ [])) problem.log_lines (omega (arith, long)))
      (blocks_front problem.graph terms (take (length (blocks ++ block ∷ [])) problem.log_lines) blocks (block ∷ []) right.are_blocks))
      own.not_last before.0

  -- A block with which lines are right so far does not fail at the line that completes it.
  pub right_block_passes : Passes (BlockFails problem terms blocks reads line (next_event problem blocks))
  right_block_passes = completed_passes problem terms blocks block reads line completes right_before right
