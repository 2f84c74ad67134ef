-- A block with which lines are right so far does not fail.
use Rattle.std.proofs.Common.{◌≡◌, ℕ, ◌+◌, ◌-◌, Bool, true, false, List, [], ◌∷◌, ◌++◌, length, map, take, All, Option, Some, Result, Ok, Err, slice_get, inl, inr, refl, sym, ap, subst, ◌∙◌, arith, append-nil, append_assoc, length-append}
use Rattle.std.specs.Prelude.{flat_map, option_map}
use Rattle.std.proofs.Math.Seq.{take-append_seam}
use Rattle.std.proofs.lemmas.List.{append_cancel_left, same_from_push, take-take}
use Rattle.std.proofs.lemmas.List.Concat.{flat_map-append}
use Rattle.std.proofs.lemmas.List.Elements.{All-nil, All-cons, All-append, All-map, All-weaker}
use Rattle.std.proofs.lemmas.List.Sums.{fold-append}
use Rattle.tfpg_base.specs.declared.terms.Terms.{Terms}
use Rattle.tfpg_base.proofs.lemmas.lists.Cuts.{cut_twice, slice_get-take}
use Rattle.tfpg_base.proofs.lemmas.lists.Elements.{All-middle, slice_get-there}
use Rattle.tfpg_base.proofs.lemmas.lists.Written.{slice_get-push_last}
use Rattle.tfpg_log.specs.declared.event.Event.{Event}
use Rattle.tfpg_log.specs.Log.{Logbook, with_event}
use Rattle.tfpg_evidence.specs.declared.round.Round.{Round as RoundOf}
use Rattle.tfpg_evidence.specs.declared.round.Counts.{Counts as CountsOf}
use Rattle.tfpg_hyp.specs.Rounds.{IsRound}
use Rattle.tfpg_log.specs.declared.refused_line.RefusedLine.{RefusedLine}
use Rattle.tfpg_report.specs.declared.report_line.ReportLine.{ReportLine}
use Rattle.tfpg_report.specs.declared.report_line.ReportLine.TheVariants.{Refused, Counts}
use Rattle.tfpg_report.specs.Blocks.{Block, RoundBlock, Loss, block_lines, round_lines}
use Rattle.tfpg_report.specs.inside.LineNames.{loss_line}
use Rattle.tfpg_report.specs.Reading.{IsReadFrom, begun_in, begun_with, is_last}
use Rattle.tfpg_check.specs.Tests.{Passes}
use Rattle.tfpg_check.specs.Report.{IsBlock, IsBlockOf, Progress, event_of_line, progress_of}
use Rattle.tfpg_check.specs.Causes.{AreRightSoFar, BlockFails, IsRoundBasis, DiagnosisProblem, block_begins, next_event, progress_after_blocks}
use Rattle.tfpg_check.specs.Judging.{RoundBasis}
use Rattle.tfpg_check.proofs.lemmas.completeness.RightRoundFacts.{IsRightBy, right_by}
use Rattle.tfpg_check.proofs.lemmas.completeness.RightRoundPasses.{right_round_passes}
use Rattle.tfpg_check.proofs.lemmas.completeness.NothingFails.{does_not_fail}
use Rattle.tfpg_check.proofs.lemmas.completeness.LinesOfBlocks.{begun_after_last, completes_block, is_panel, is_within, last_completes, losses_are_panels, middle, middle_within, round_line}

-- ---- the next block

-- The block is one that the next line of the log may have after these.
pub record IsNextBlock (problem : DiagnosisProblem) (terms : Terms) (blocks : List Block) (block : Block) : Type 0 where
  pub text : List ℕ
  pub at : slice_get problem.log_lines (length blocks) ≡ Some text
  pub is_block : IsBlock problem.graph terms (progress_after_blocks problem blocks) (length blocks + 1) text block

-- The last of some blocks is the next one after those before it.
pub next_block : (problem : DiagnosisProblem) (terms : Terms) (blocks : List Block) (block : Block) (reads : List ReportLine) → AreRightSoFar problem terms (blocks ++ block ∷ []) reads
    → IsNextBlock problem terms blocks block
next_block problem terms blocks block reads right =
    let few = right.few in
    let long : length (blocks ++ block ∷ []) ≡ length blocks + 1 = length-append blocks (block ∷ []) in
    let lines : List (List ℕ) = take (length (blocks ++ block ∷ [])) problem.log_lines in
    let text = slice_get-there problem.log_lines (length blocks) (omega (arith, few, long)) in
    let line : slice_get lines (length blocks) ≡ Some text.0 = slice_get-take (length (blocks ++ block ∷ [])) problem.log_lines (length blocks) (omega (arith, long)) ∙ text.1 in
    let front : take (length blocks) (blocks ++ block ∷ []) ≡ blocks = take-append_seam blocks (block ∷ []) in
    let lines_front : take (length blocks) lines ≡ take (length blocks) problem.log_lines =
    take-take (length blocks) (length (blocks ++ block ∷ [])) problem.log_lines (omega (arith, long)) in
    record {
      text = text.0;
      at = text.1;
      is_block = subst (λ (progress : Progress). IsBlock problem.graph terms progress (length blocks + 1) text.0 block) (λ i. progress_of problem.graph (lines_front i) (front i))
          (right.are_blocks.each (length blocks) text.0 block line (slice_get-push_last blocks block));
    }

-- its lines are those that have begun, and the line that ends it
lines_of_next : (problem : DiagnosisProblem) (terms : Terms) (blocks : List Block) (block : Block) (reads : List ReportLine) (line : ReportLine) → AreRightSoFar problem terms blocks reads
    → AreRightSoFar problem terms (blocks ++ block ∷ []) (reads ++ line ∷ []) → is_last line ≡ true → block_lines block ≡ begun_in reads ++ line ∷ []
lines_of_next problem terms blocks block reads line right also last =
    let ended : begun_in (reads ++ line ∷ []) ≡ [] = fold-append begun_with [] reads (line ∷ []) ∙ begun_after_last (begun_in reads) line last in
    let one : reads ++ line ∷ [] ≡ right.head ∷ (flat_map block_lines blocks ++ begun_in reads) ++ line ∷ [] = ap (λ (ls : List ReportLine). ls ++ line ∷ []) right.lines_are in
    let two : reads ++ line ∷ [] ≡ also.head ∷ flat_map block_lines (blocks ++ block ∷ []) ++ [] =
    also.lines_are ∙ ap (λ (begun : List ReportLine). also.head ∷ flat_map block_lines (blocks ++ block ∷ []) ++ begun) ended in
    let whole : right.head ∷ (flat_map block_lines blocks ++ begun_in reads) ++ line ∷ [] ≡ also.head ∷ flat_map block_lines (blocks ++ block ∷ []) ++ [] = sym one ∙ two in
    let later : (flat_map block_lines blocks ++ begun_in reads) ++ line ∷ [] ≡ flat_map block_lines (blocks ++ block ∷ []) ++ [] = cc in
    sym (append_cancel_left (flat_map block_lines blocks) (begun_in reads ++ line ∷ []) (block_lines block)
    (sym (append_assoc (flat_map block_lines blocks) (begun_in reads) (line ∷ [])) ∙ later ∙ append-nil (flat_map block_lines (blocks ++ block ∷ []))
    ∙ flat_map-append block_lines blocks (block ∷ []) ∙ ap (λ (ls : List ReportLine). flat_map block_lines blocks ++ ls) (append-nil (block_lines block))))

-- ---- a refused line

-- the line of a refused line
abbrev is_refused : ReportLine → Bool
is_refused (Refused line cause) = true
is_refused _ = false

within_not_refused : (line : ReportLine) → is_within line ≡ true → is_refused line ≡ false
within_not_refused (Refused line cause) within = absurd cc
within_not_refused _ within = refl

-- no line of a round is one
round_not_refused : (round : RoundOf) (losses : List Loss) → All (λ line. is_refused line ≡ false) (block_lines (RoundBlock round losses))
round_not_refused round losses =
    All-append (λ line. is_refused line ≡ false) (round_lines round) (map loss_line losses)
    (All-cons (λ line. is_refused line ≡ false) (round_line round) (middle round ++ Counts round.counts ∷ []) refl
    (All-append (λ line. is_refused line ≡ false) (middle round) (Counts round.counts ∷ [])
    (All-weaker (λ line. is_within line ≡ true) (λ line. is_refused line ≡ false) within_not_refused (middle round) (middle_within round))
    (All-cons (λ line. is_refused line ≡ false) (Counts round.counts) [] refl (All-nil (λ line. is_refused line ≡ false)))))
    (All-map (λ line. is_refused line ≡ false) loss_line losses (λ k d within. refl))

refused_passes : (problem : DiagnosisProblem) (terms : Terms) (blocks : List Block) (block : Block) (found : Result Event RefusedLine)
    → IsBlockOf problem.graph terms (progress_after_blocks problem blocks) (length blocks + 1) block found → (begun : List ReportLine) (number : ℕ) (said : RefusedLine)
    → block_lines block ≡ begun ++ Refused number said ∷ [] → (reads : List ReportLine) → Passes (BlockFails problem terms blocks reads (Refused number said) (Some found))
refused_passes problem terms blocks block (Err cause) is begun number said lines reads at why fails =
    let both = same_from_push [] begun (Refused (length blocks + 1) cause) (Refused number said) (sym (ap block_lines is) ∙ lines) in
    let same : Refused (length blocks + 1) cause ≡ Refused number said = both.1 in
    let causes : cause ≡ said = cc in
    let numbers : number ≡ length blocks + 1 = cc in
    fails.2 (ap Err causes, numbers)
refused_passes problem terms blocks block (Ok event) is begun number said lines reads at why fails =
    let none : true ≡ false =
    All-middle (λ l. is_refused l ≡ false) begun (Refused number said) []
    (subst (All (λ l. is_refused l ≡ false)) (sym (ap block_lines is.2) ∙ lines) (round_not_refused is.0 is.1)) in
    absurd cc

-- ---- a round

-- the counts end the lines of the round alone, without lost panels
ends_with_counts : (round : RoundOf) (losses : List Loss) (begun : List ReportLine) (counts : CountsOf) → block_lines (RoundBlock round losses) ≡ begun ++ Counts counts ∷ []
    → round_lines round ≡ begun ++ Counts counts ∷ []
ends_with_counts round losses begun counts lines = elim (cut_twice (round_lines round) (map loss_line losses) begun (Counts counts ∷ []) lines) [
  | inl past ↦ (let none : false ≡ true = All-middle (λ l. is_panel l ≡ true) past.mid (Counts counts) [] (subst (All (λ l. is_panel l ≡ true)) past.rest_is (losses_are_panels losses)) in absurd cc)
  | inr within ↦ (
      let back : Counts counts ∷ [] ≡ within.here ∷ (within.mid ++ map loss_line losses) = within.back_is in
      let here : within.here ≡ Counts counts = cc in
      let rest : within.mid ++ map loss_line losses ≡ [] = cc in
      let none : within.mid ≡ [] = first_empty within.mid (map loss_line losses) rest in
      within.xs_is ∙ (λ i. begun ++ here i ∷ none i)
      )
]
  where
    first_empty : (xs ys : List ReportLine) → xs ++ ys ≡ [] → xs ≡ []
    first_empty [] ys same = refl
    first_empty (x ∷ xs) ys same = absurd cc

-- A round of the next line is right by the basis of that line.
pub right_by_basis : (problem : DiagnosisProblem) (terms : Terms) (blocks : List Block) (event : Event) (basis : RoundBasis) (line : ℕ) (round : RoundOf) → IsRoundBasis problem terms blocks event basis
    → IsRound problem.graph terms (progress_after_blocks problem blocks).rounds (with_event (progress_after_blocks problem blocks).log event) line round → IsRightBy basis line round
right_by_basis problem terms blocks event basis line round is is_round =
    right_by problem.graph terms (progress_after_blocks problem blocks).rounds basis line round is.graph is.terms_are is.hypotheses is.steps
    (subst (λ (log : Logbook). IsRound problem.graph terms (progress_after_blocks problem blocks).rounds log line round) (sym is.log) is_round)

round_passes : (problem : DiagnosisProblem) (terms : Terms) (blocks : List Block) (block : Block) (reads : List ReportLine) (found : Result Event RefusedLine)
    → IsBlockOf problem.graph terms (progress_after_blocks problem blocks) (length blocks + 1) block found → (counts : CountsOf) → block_lines block ≡ begun_in reads ++ Counts counts ∷ []
    → Passes (BlockFails problem terms blocks reads (Counts counts) (Some found))
round_passes problem terms blocks block reads (Err cause) is counts lines at why fails =
    let both = same_from_push [] (begun_in reads) (Refused (length blocks + 1) cause) (Counts counts) (sym (ap block_lines is) ∙ lines) in
    let same : Refused (length blocks + 1) cause ≡ Counts counts = both.1 in
    absurd cc
round_passes problem terms blocks block reads (Ok event) is counts lines at why fails =
    let own : round_lines is.0 ≡ begun_in reads ++ Counts counts ∷ [] = ends_with_counts is.0 is.1 (begun_in reads) counts (sym (ap block_lines is.2) ∙ lines) in
    let right : IsRightBy fails.1 (length blocks + 1) is.0 = right_by_basis problem terms blocks event fails.1 (length blocks + 1) is.0 fails.3 is.3 in
    does_not_fail fails.1 (length blocks + 1) fails.0
    (right_round_passes fails.1 (length blocks + 1) is.0 (block_begins reads) fails.0 right (subst (λ (ls : List ReportLine). IsReadFrom (block_begins reads) ls fails.0) (sym own) fails.2))
    at why fails.4

-- ---- the line that completes a block

module _ (problem : DiagnosisProblem) (terms : Terms) (blocks : List Block) (block : Block) (reads : List ReportLine) where
  completed : (line : ReportLine) (found : Result Event RefusedLine) → IsBlockOf problem.graph terms (progress_after_blocks problem blocks) (length blocks + 1) block found
      → block_lines block ≡ begun_in reads ++ line ∷ [] → Passes (BlockFails problem terms blocks reads line (Some found))
  completed (Refused number said) found is lines at why fails = refused_passes problem terms blocks block found is (begun_in reads) number said lines reads at why fails
  completed (Counts counts) found is lines at why fails = round_passes problem terms blocks block reads found is counts lines at why fails
  completed _ found is lines at why fails = absurd fails

  -- Where lines are right so far, a line with which one more block is right completes a block that does not fail.
  pub completed_passes : (line : ReportLine) → completes_block line ≡ true → AreRightSoFar problem terms blocks reads → AreRightSoFar problem terms (blocks ++ block ∷ []) (reads ++ line ∷ [])
      → Passes (BlockFails problem terms blocks reads line (next_event problem blocks))
  completed_passes line completes right also at why fails =
      let next = next_block problem terms blocks block (reads ++ line ∷ []) also in
      completed line (event_of_line problem.graph (progress_after_blocks problem blocks).log next.text) next.is_block (lines_of_next problem terms blocks block reads line right also (last_completes line completes)) at why
      (subst (λ (found : Option (Result Event RefusedLine)). BlockFails problem terms blocks reads line found at why)
      (ap (option_map (event_of_line problem.graph (progress_after_blocks problem blocks).log)) next.at) fails)

-- a line that completes no block makes none fail
pub others_pass : (problem : DiagnosisProblem) (terms : Terms) (blocks : List Block) (reads : List ReportLine) (line : ReportLine) (next : Option (Result Event RefusedLine))
    → completes_block line ≡ false → Passes (BlockFails problem terms blocks reads line next)
others_pass problem terms blocks reads (Refused number said) next completes at why fails = absurd cc
others_pass problem terms blocks reads (Counts counts) next completes at why fails = absurd cc
others_pass problem terms blocks reads _ next completes at why fails = fails
