-- The lines of a draft are those that were read: each line that may come is one line more, or ends the round.
use Rattle.std.proofs.Common.{◌≡◌, ℕ, suc, ◌+◌, ◌-◌, ◌<◌, List, [], ◌∷◌, ◌++◌, length, map, true, Option, Some, None, refl, sym, ap, ◌∙◌, append_assoc, append-nil, length-append, inl, inr, arith}
use Rattle.std.proofs.lemmas.List.{map-append}
use Rattle.tfpg_base.specs.Trace.{with_time}
use Rattle.tfpg_base.specs.declared.activation.Activation.{Activation}
use Rattle.tfpg_evidence.specs.declared.step.Step.{Step}
use Rattle.tfpg_evidence.specs.declared.step.Step.TheVariants as step
use Rattle.tfpg_evidence.specs.declared.reason.Reason.{Reason}
use Rattle.tfpg_report.specs.declared.stand.Stand.{Stand}
use Rattle.tfpg_report.specs.declared.stand.Stand.TheVariants as stand
use Rattle.tfpg_report.specs.declared.read_round.RankedLine.{RankedLine}
use Rattle.tfpg_report.specs.declared.report_line.ReportLine.{ReportLine}
use Rattle.tfpg_report.specs.declared.report_line.ReportLine.TheVariants.{Head, OldHead, Refused, Round, Hyp, Split, Cycle, Why, Again, Ranked, At, Open, Rejected, Counts, Panel}
use Rattle.tfpg_report.specs.declared.block_reader.draft.RoundDraft.{RoundDraft}
use Rattle.tfpg_report.specs.declared.block_reader.draft.UnderWay.{UnderWay}
use Rattle.tfpg_report.specs.declared.block_reader.draft.UnderWay.TheVariants as under_way
use Rattle.tfpg_report.specs.Stands.{may_begin, may_begin_block, may_begin_steps, may_step, may_rank, may_open, may_reject, after_reasons, is_later, stand_after}
use Rattle.tfpg_report.specs.ReadRounds.{NumberedLine, numbered_from, step_lines, lines_of_ranked, hypothesis_ranked}
use Rattle.tfpg_report.specs.inside.Drafts.{ranked_with, under_way_with_step, under_way_with_activation, with_step, with_cycle, with_reason, with_open, with_rejected, settled, named_at, draft_with, draft_after, completed}
use Rattle.tfpg_report.specs.inside.Fitting.{whole_lines, lines_under_way, lines_so_far, cycle_lines, begun_lines, IsPart, IsRankedUpTo, HasSteps, Fits, Feeds}
use Rattle.tfpg_report.proofs.lemmas.block_reader.NumberedLines.{numbered, numbered_from_more, numbers_end, lines_of_part_with, with_time_at_end}
use Rattle.tfpg_report.proofs.lemmas.block_reader.SettledDrafts.{is_settled, lines_when_settled, none_rejected, open_more, rejected_more}
use Rattle.tfpg_report.proofs.lemmas.block_reader.Turns.{steps_or_reject, rank_or_open, open_or_reject}
use Rattle.tfpg_report.proofs.lemmas.block_reader.FittingDrafts.{then_some_is, after_reasons_is, after_reason_is, after_activation_is, after_loss_is, steps_fit, nodes_below}

-- The next line after these has this number.
pub record IsNumberAfter (lines : List NumberedLine) (next : ℕ) : Type 0 where
  pub first : ℕ
  pub said : List ReportLine
  pub are : lines ≡ numbered_from first said
  pub next_is : next ≡ first + length said

-- ---- steps

-- one step more under way
step_under_way : (line : ℕ) (step : Step) (now : UnderWay) → IsPart now → lines_under_way (under_way_with_step line step now) ≡ lines_under_way now ++ numbered_from line (step_lines step)
step_under_way line step under_way.Nothing is = absurd is
step_under_way line step (under_way.Part part) has = lines_of_part_with line step part has
step_under_way line step (under_way.Ranked ranked) is = absurd is

-- one step more
step_more : (line : ℕ) (step : Step) (draft : RoundDraft) → HasSteps draft → lines_so_far (with_step line step draft) ≡ lines_so_far draft ++ numbered_from line (step_lines step)
step_more line step draft fits =
    ap (λ under_way. whole_lines draft ++ under_way) (step_under_way line step draft.under_way fits.0)
    ∙ sym (append_assoc (whole_lines draft) (lines_under_way draft.under_way) (numbered_from line (step_lines step)))

-- Where a step may come, the lines are those so far.
begun_steps : (before : Stand) (draft : RoundDraft) → may_step before ≡ true → lines_so_far draft ≡ begun_lines before draft
begun_steps stand.Hyp draft may = refl
begun_steps stand.Step draft may = refl
begun_steps stand.Nothing draft may = cc
begun_steps stand.Block draft may = cc
begun_steps stand.Round draft may = cc
begun_steps (stand.Reasons owed) draft may = cc
begun_steps (stand.Ranked last) draft may = cc
begun_steps stand.Open draft may = cc
begun_steps stand.Rejected draft may = cc
begun_steps (stand.Counts last) draft may = cc

-- one step of one line more
step_feeds : (before : Stand) (draft : RoundDraft) (at : ℕ) (step : Step) (line : ReportLine) → step_lines step ≡ line ∷ [] → may_step before ≡ true → Fits before draft → lines_so_far (with_step at step draft) ≡ begun_lines before draft ++ numbered at line ∷ []
step_feeds before draft at step line lines may fits =
    step_more at step draft (steps_fit before draft may fits)
    ∙ (λ i. begun_steps before draft may i ++ numbered_from at (lines i))

-- ---- cycles

-- the first line of a cycle
cycle_feeds : (before : Stand) (draft : RoundDraft) (at count : ℕ) (next : Stand) → after_reasons count ≡ next → may_step before ≡ true → Fits before draft → begun_lines next (with_cycle at next draft) ≡ begun_lines before draft ++ numbered at (Cycle count) ∷ []
cycle_feeds before draft at count next same may fits =
    after_reasons_is (λ s. begun_lines s (with_cycle at s draft) ≡ begun_lines before draft ++ numbered at (Cycle count) ∷ []) count next same
    (λ none.
    step_more at (step.Cycle []) (record draft { cycle_line = at; reasons = [] }) (steps_fit before draft may fits)
    ∙ (λ i. begun_steps before draft may i ++ numbered at (Cycle (sym none i)) ∷ []))
    (λ left lacks.
    let count_is : 0 + suc left ≡ count = omega arith in
    (λ i. begun_steps before draft may i ++ numbered at (Cycle (count_is i)) ∷ []))

-- the lines of a cycle with so many reasons, one reason more
reason_more : (first count : ℕ) (reasons : List Reason) (reason : Reason) → numbered_from first (Cycle count ∷ map Why (reasons ++ reason ∷ [])) ≡ numbered_from first (Cycle count ∷ map Why reasons) ++ numbered (first + length (Cycle count ∷ map Why reasons)) (Why reason) ∷ []
reason_more first count reasons reason =
    ap (λ whys. numbered_from first (Cycle count ∷ whys)) (map-append Why reasons (reason ∷ []))
    ∙ numbered_from_more first (Cycle count ∷ map Why reasons) (Why reason)

-- one reason more of a cycle of so many
reason_feeds : (owed count : ℕ) (draft : RoundDraft) (at : ℕ) (reason : Reason) → IsNumberAfter (begun_lines (stand.Reasons owed) draft) at → count ≡ length draft.reasons + owed
    → lines_so_far draft ++ numbered_from draft.cycle_line (Cycle count ∷ map Why (draft.reasons ++ reason ∷ [])) ≡ begun_lines (stand.Reasons owed) draft ++ numbered at (Why reason) ∷ []
reason_feeds owed count draft at reason number count_is =
    let counted : ℕ = length draft.reasons + owed in
    let at_is : draft.cycle_line + length (Cycle counted ∷ map Why draft.reasons) ≡ at =
    numbers_end (lines_so_far draft) draft.cycle_line (Cycle counted) (map Why draft.reasons) number.first number.said number.are ∙ sym number.next_is in
    ap (λ n. lines_so_far draft ++ numbered_from draft.cycle_line (Cycle n ∷ map Why (draft.reasons ++ reason ∷ []))) count_is
    ∙ ap (λ lines. lines_so_far draft ++ lines) (reason_more draft.cycle_line counted draft.reasons reason)
    ∙ ap (λ n. lines_so_far draft ++ (cycle_lines owed draft ++ numbered n (Why reason) ∷ [])) at_is
    ∙ sym (append_assoc (lines_so_far draft) (cycle_lines owed draft) (numbered at (Why reason) ∷ []))

-- one reason more
why_feeds : (owed : ℕ) (draft : RoundDraft) (at : ℕ) (reason : Reason) (next : Stand) → after_reasons (owed - 1) ≡ next → IsNumberAfter (begun_lines (stand.Reasons owed) draft) at → Fits (stand.Reasons owed) draft
    → begun_lines next (with_reason reason next draft) ≡ begun_lines (stand.Reasons owed) draft ++ numbered at (Why reason) ∷ []
why_feeds owed draft at reason next same number fits =
    let length_is : length (draft.reasons ++ reason ∷ []) ≡ length draft.reasons + 1 = length-append draft.reasons (reason ∷ []) in
    let owes : 0 < owed = fits.1 in
    after_reasons_is (λ s. begun_lines s (with_reason reason s draft) ≡ begun_lines (stand.Reasons owed) draft ++ numbered at (Why reason) ∷ []) (owed - 1) next same
    (λ none.
    step_more draft.cycle_line (step.Cycle (draft.reasons ++ reason ∷ [])) (record draft { reasons = draft.reasons ++ reason ∷ [] }) fits.0
    ∙ reason_feeds owed (length (draft.reasons ++ reason ∷ [])) draft at reason number (omega arith))
    (λ left lacks. reason_feeds owed (length (draft.reasons ++ reason ∷ []) + suc left) draft at reason number (omega arith))

-- ---- ranked hypotheses

-- one activation more
ranked_lines_with : (activation : Activation) (ranked : RankedLine) → with_time activation.node activation.time ranked.trace ≡ ranked.trace ++ activation ∷ []
    → lines_of_ranked (ranked_with activation ranked) ≡ lines_of_ranked ranked ++ numbered (ranked.first_line + length (Ranked ranked.number ranked.cost ranked.alarmed ranked.monitored (hypothesis_ranked ranked) ∷ map At ranked.trace)) (At activation) ∷ []
ranked_lines_with activation ranked at_end =
    let head : ReportLine = Ranked ranked.number ranked.cost ranked.alarmed ranked.monitored (hypothesis_ranked ranked) in
    ap (λ trace. numbered_from ranked.first_line (head ∷ map At trace)) at_end
    ∙ ap (λ ats. numbered_from ranked.first_line (head ∷ ats)) (map-append At ranked.trace (activation ∷ []))
    ∙ numbered_from_more ranked.first_line (head ∷ map At ranked.trace) (At activation)

-- one activation more under way, after these lines
activation_feeds : (before : List NumberedLine) (last : Option ℕ) (activation : Activation) (at : ℕ) (now : UnderWay) → IsRankedUpTo last now → is_later last activation.node ≡ true → IsNumberAfter (before ++ lines_under_way now) at
    → before ++ lines_under_way (under_way_with_activation activation now) ≡ (before ++ lines_under_way now) ++ numbered at (At activation) ∷ []
activation_feeds before last activation at under_way.Nothing is later number = absurd is
activation_feeds before last activation at (under_way.Part part) is later number = absurd is
activation_feeds before last activation at (under_way.Ranked ranked) up_to later number =
    let head : ReportLine = Ranked ranked.number ranked.cost ranked.alarmed ranked.monitored (hypothesis_ranked ranked) in
    let at_is : ranked.first_line + length (head ∷ map At ranked.trace) ≡ at =
    numbers_end before ranked.first_line head (map At ranked.trace) number.first number.said number.are ∙ sym number.next_is in
    ap (λ lines. before ++ lines) (ranked_lines_with activation ranked (with_time_at_end activation.node activation.time ranked.trace (nodes_below last activation.node ranked.trace up_to later)))
    ∙ ap (λ n. before ++ (lines_of_ranked ranked ++ numbered n (At activation) ∷ [])) at_is
    ∙ sym (append_assoc before (lines_of_ranked ranked) (numbered at (At activation) ∷ []))

-- ---- each line

-- Nothing was read of a round where a block may come.
begun_nothing : (before : Stand) (draft : RoundDraft) → may_begin_block before ≡ true → begun_lines before draft ≡ []
begun_nothing stand.Block draft may = refl
begun_nothing (stand.Counts last) draft may = refl
begun_nothing stand.Nothing draft may = cc
begun_nothing stand.Round draft may = cc
begun_nothing stand.Hyp draft may = cc
begun_nothing (stand.Reasons owed) draft may = cc
begun_nothing stand.Step draft may = cc
begun_nothing (stand.Ranked last) draft may = cc
begun_nothing stand.Open draft may = cc
begun_nothing stand.Rejected draft may = cc

-- what a line does, as a type by the stand after it
abbrev FeedsAfter : Stand → RoundDraft → ℕ → ReportLine → Stand → Type 0
FeedsAfter before draft at line next =
    Feeds (begun_lines before draft) (begun_lines next (draft_after at next line draft)) (numbered at line)
    (completed at line (draft_with at next line draft))

-- Each line that may come is one line more, or ends what it belongs to.
pub feeds_after : (before : Stand) (draft : RoundDraft) (at : ℕ) (line : ReportLine) (next : Stand) → Fits before draft → IsNumberAfter (begun_lines before draft) at → stand_after before line ≡ Some next → FeedsAfter before draft at line next
feeds_after before draft at (Head terms) next fits number same =
    then_some_is (FeedsAfter before draft at (Head terms)) (may_begin before) stand.Block next same (λ _. (inl refl, refl))
feeds_after before draft at (OldHead k budget) next fits number same =
    then_some_is (FeedsAfter before draft at (OldHead k budget)) (may_begin before) stand.Block next same (λ _. (inr (refl, refl), refl))
feeds_after before draft at (Refused line cause) next fits number same =
    then_some_is (FeedsAfter before draft at (Refused line cause)) (may_begin_block before) stand.Block next same (λ _. (refl, refl))
feeds_after before draft at (Round number line now) next fits after same =
    then_some_is (FeedsAfter before draft at (Round number line now)) (may_begin_block before) stand.Round next same
    (λ may. (refl, ap (λ lines. lines ++ numbered at (Round number line now) ∷ []) (sym (begun_nothing before draft may))))
feeds_after before draft at (Hyp number) next fits after same =
    then_some_is (FeedsAfter before draft at (Hyp number)) (may_begin_steps before) stand.Hyp next same
    (λ may. (refl, ap (λ lines. lines ++ numbered at (Hyp number) ∷ []) (sym (lines_when_settled before draft (steps_or_reject before may) fits))))
feeds_after before draft at (Split name) next fits number same =
    then_some_is (FeedsAfter before draft at (Split name)) (may_step before) stand.Step next same
    (λ may. (refl, step_feeds before draft at (step.Split name) (Split name) refl may fits))
feeds_after before draft at (Cycle count) next fits number same =
    then_some_is (FeedsAfter before draft at (Cycle count)) (may_step before) (after_reasons count) next same
    (λ may. (refl, cycle_feeds before draft at count (after_reasons count) refl may fits))
feeds_after before draft at (Why reason) next fits number same =
    after_reason_is (λ s t. Fits s draft → IsNumberAfter (begun_lines s draft) at → FeedsAfter s draft at (Why reason) t) before next same
    (λ owed after fits number. (refl, why_feeds owed draft at reason next after number fits)) fits number
feeds_after before draft at Again next fits number same =
    then_some_is (FeedsAfter before draft at Again) (may_step before) stand.Step next same
    (λ may. (refl, step_feeds before draft at step.Again Again refl may fits))
feeds_after before draft at (Ranked number cost alarmed monitored hypothesis) next fits after same =
    let line : ReportLine = Ranked number cost alarmed monitored hypothesis in
    then_some_is (FeedsAfter before draft at line) (may_rank before) (stand.Ranked None) next same
    (λ may. (refl, ap (λ lines. lines ++ numbered at line ∷ []) (sym (lines_when_settled before draft (open_or_reject before (rank_or_open before may)) fits))))
feeds_after before draft at (At activation) next fits number same =
    after_activation_is (λ s t. Fits s draft → IsNumberAfter (begun_lines s draft) at → FeedsAfter s draft at (At activation) t) before next activation.node same
    (λ last later fits number. (refl, activation_feeds (whole_lines draft) last activation at draft.under_way fits.0 later number)) fits number
feeds_after before draft at (Open number hypothesis) next fits after same =
    let line : ReportLine = Open number hypothesis in
    then_some_is (FeedsAfter before draft at line) (may_open before) stand.Open next same
    (λ may. (
      refl,
      append-nil (whole_lines (with_open (named_at at number hypothesis) draft))
          ∙ open_more (settled draft) (named_at at number hypothesis) (none_rejected before draft may fits)
          ∙ ap (λ lines. lines ++ numbered at line ∷ []) (sym (lines_when_settled before draft (open_or_reject before may) fits)),
    ))
feeds_after before draft at (Rejected number hypothesis) next fits after same =
    let line : ReportLine = Rejected number hypothesis in
    then_some_is (FeedsAfter before draft at line) (may_reject before) stand.Rejected next same
    (λ may. (
      refl,
      append-nil (whole_lines (with_rejected (named_at at number hypothesis) draft))
          ∙ rejected_more (settled draft) (named_at at number hypothesis)
          ∙ ap (λ lines. lines ++ numbered at line ∷ []) (sym (lines_when_settled before draft may fits)),
    ))
feeds_after before draft at (Counts counts) next fits after same =
    then_some_is (FeedsAfter before draft at (Counts counts)) (may_reject before) (stand.Counts None) next same
    (λ may. ((counts, refl), ap (λ lines. lines ++ numbered at (Counts counts) ∷ []) (sym (lines_when_settled before draft may fits)), (is_settled before draft may fits).steps, refl))
feeds_after before draft at (Panel panel memory) next fits number same =
    after_loss_is (FeedsAfter before draft at (Panel panel memory)) before next panel same (refl, refl)
