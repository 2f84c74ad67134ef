-- A draft fits the stand after a line that may come.
use Rattle.std.proofs.Common.{◌≡◌, ℕ, zero, suc, ◌-◌, ◌<◌, ◌≤◌, List, [], ◌∷◌, ◌++◌, All, Bool, true, false, Option, Some, None, refl, sym, subst, arith}
use Rattle.std.specs.Bool.{then_some}
use Rattle.std.proofs.lemmas.Bool.{ltb-true}
use Rattle.std.proofs.lemmas.Option.{same_Some}
use Rattle.std.proofs.lemmas.List.Elements.{All-cons, All-nil, All-append, All-weaker}
use Rattle.tfpg_base.specs.Trace.{with_time}
use Rattle.tfpg_base.specs.declared.activation.Activation.{Activation}
use Rattle.tfpg_evidence.specs.declared.step.Step.{Step}
use Rattle.tfpg_evidence.specs.declared.step.Step.TheVariants as step
use Rattle.tfpg_report.specs.declared.stand.Stand.{Stand}
use Rattle.tfpg_report.specs.declared.stand.Stand.TheVariants as stand
use Rattle.tfpg_report.specs.declared.report_line.ReportLine.{ReportLine}
use Rattle.tfpg_report.specs.declared.report_line.ReportLine.TheVariants.{Head, OldHead, Refused, Round, Hyp, Split, Cycle, Why, Again, Ranked, At, Open, Rejected, Counts, Panel}
use Rattle.tfpg_report.specs.declared.block_reader.draft.RoundDraft.{RoundDraft}
use Rattle.tfpg_report.specs.declared.block_reader.draft.UnderWay.{UnderWay}
use Rattle.tfpg_report.specs.declared.block_reader.draft.UnderWay.TheVariants as under_way
use Rattle.tfpg_report.specs.Stands.{may_begin, may_begin_block, may_begin_steps, may_step, may_rank, may_open, may_reject, after_reasons, after_reason, is_later, after_activation, after_loss, stand_after}
use Rattle.tfpg_report.specs.ReadRounds.{HasLineForEachStep}
use Rattle.tfpg_report.specs.inside.Drafts.{under_way_with_step, under_way_with_activation, with_step, with_cycle, with_reason, with_activation, has_part, has_ranked, lets, draft_after}
use Rattle.tfpg_report.specs.inside.Fitting.{IsPart, AreUpTo, IsRankedUpTo, HasSteps, Fits}
use Rattle.tfpg_report.proofs.lemmas.block_reader.NumberedLines.{has_line_with, with_time_at_end}
use Rattle.tfpg_report.proofs.lemmas.block_reader.SettledDrafts.{is_settled, only_steps, no_sets, none_rejected}
use Rattle.tfpg_report.proofs.lemmas.block_reader.Turns.{steps_or_reject, rank_or_open, open_or_reject}

-- ---- the stand after a line

-- what a stand that a test lets be is known by
pub then_some_is : (P : Stand → Type 0) (test : Bool) (here next : Stand) → then_some test here ≡ Some next → (test ≡ true → P here) → P next
then_some_is P true here next same holds = subst P (same_Some here next same) (holds refl)
then_some_is P false here next same holds = absurd cc

-- the two stands after a line of a cycle
pub after_reasons_is : (P : Stand → Type 0) (owed : ℕ) (next : Stand) → after_reasons owed ≡ next → (owed ≡ 0 → P stand.Step) → ((left : ℕ) → owed ≡ suc left → P (stand.Reasons (suc left))) → P next
after_reasons_is P zero next same whole lacks = subst P same (whole refl)
after_reasons_is P (suc left) next same whole lacks = subst P same (lacks left refl)

-- the cases in which a reason may come
pub after_reason_is : (P : Stand → Stand → Type 0) (before next : Stand) → after_reason before ≡ Some next → ((owed : ℕ) → after_reasons (owed - 1) ≡ next → P (stand.Reasons owed) next) → P before next
after_reason_is P (stand.Reasons owed) next same holds = holds owed (same_Some (after_reasons (owed - 1)) next same)
after_reason_is P stand.Nothing next same holds = absurd cc
after_reason_is P stand.Block next same holds = absurd cc
after_reason_is P stand.Round next same holds = absurd cc
after_reason_is P stand.Hyp next same holds = absurd cc
after_reason_is P stand.Step next same holds = absurd cc
after_reason_is P (stand.Ranked last) next same holds = absurd cc
after_reason_is P stand.Open next same holds = absurd cc
after_reason_is P stand.Rejected next same holds = absurd cc
after_reason_is P (stand.Counts last) next same holds = absurd cc

-- the cases in which an activation may come
pub after_activation_is : (P : Stand → Stand → Type 0) (before next : Stand) (node : ℕ) → after_activation before node ≡ Some next → ((last : Option ℕ) → is_later last node ≡ true → P (stand.Ranked last) (stand.Ranked (Some node))) → P before next
after_activation_is P (stand.Ranked last) next node same holds =
    then_some_is (P (stand.Ranked last)) (is_later last node) (stand.Ranked (Some node)) next same (holds last)
after_activation_is P stand.Nothing next node same holds = absurd cc
after_activation_is P stand.Block next node same holds = absurd cc
after_activation_is P stand.Round next node same holds = absurd cc
after_activation_is P stand.Hyp next node same holds = absurd cc
after_activation_is P (stand.Reasons owed) next node same holds = absurd cc
after_activation_is P stand.Step next node same holds = absurd cc
after_activation_is P stand.Open next node same holds = absurd cc
after_activation_is P stand.Rejected next node same holds = absurd cc
after_activation_is P (stand.Counts last) next node same holds = absurd cc

-- the stand after a loss
pub after_loss_is : (P : Stand → Type 0) (before next : Stand) (panel : ℕ) → after_loss before panel ≡ Some next → P (stand.Counts (Some panel)) → P next
after_loss_is P (stand.Counts last) next panel same holds =
    then_some_is P (is_later last panel) (stand.Counts (Some panel)) next same (λ _. holds)
after_loss_is P stand.Nothing next panel same holds = absurd cc
after_loss_is P stand.Block next panel same holds = absurd cc
after_loss_is P stand.Round next panel same holds = absurd cc
after_loss_is P stand.Hyp next panel same holds = absurd cc
after_loss_is P (stand.Reasons owed) next panel same holds = absurd cc
after_loss_is P stand.Step next panel same holds = absurd cc
after_loss_is P (stand.Ranked last) next panel same holds = absurd cc
after_loss_is P stand.Open next panel same holds = absurd cc
after_loss_is P stand.Rejected next panel same holds = absurd cc

-- ---- steps

-- Where a step may come, what was read ends with steps.
pub steps_fit : (before : Stand) (draft : RoundDraft) → may_step before ≡ true → Fits before draft → HasSteps draft
steps_fit stand.Hyp draft may fits = fits
steps_fit stand.Step draft may fits = fits
steps_fit stand.Nothing draft may fits = cc
steps_fit stand.Block draft may fits = cc
steps_fit stand.Round draft may fits = cc
steps_fit (stand.Reasons owed) draft may fits = cc
steps_fit (stand.Ranked last) draft may fits = cc
steps_fit stand.Open draft may fits = cc
steps_fit stand.Rejected draft may fits = cc
steps_fit (stand.Counts last) draft may fits = cc

-- A part with one more step has a line for each.
part_with_step : (line : ℕ) (step : Step) (now : UnderWay) → IsPart now → IsPart (under_way_with_step line step now)
part_with_step line step under_way.Nothing is = absurd is
part_with_step line step (under_way.Part part) has = has_line_with line step part has
part_with_step line step (under_way.Ranked ranked) is = absurd is

-- One more step is one more step.
step_fits : (line : ℕ) (step : Step) (draft : RoundDraft) → HasSteps draft → HasSteps (with_step line step draft)
step_fits line step draft fits = (part_with_step line step draft.under_way fits.0, fits.1, fits.2)

-- ---- traces

-- The nodes of a trace are below a later one.
pub nodes_below : (last : Option ℕ) (node : ℕ) (trace : List Activation) → AreUpTo last trace → is_later last node ≡ true → All (λ activation. activation.node < node) trace
nodes_below None node trace none later = let P : List Activation → Type 0 = λ t. All (λ activation. activation.node < node) t in subst P (sym none) (All-nil (λ (activation : Activation). activation.node < node))
nodes_below (Some last) node trace up_to later =
    let less : last < node = ltb-true last node later in
    All-weaker (λ (activation : Activation). activation.node ≤ last) (λ (activation : Activation). activation.node < node) (λ activation within. omega arith) trace up_to

-- With an activation of it, they are not above it.
up_to_with : (last : Option ℕ) (activation : Activation) (trace : List Activation) → AreUpTo last trace → is_later last activation.node ≡ true → AreUpTo (Some activation.node) (with_time activation.node activation.time trace)
up_to_with last activation trace up_to later =
    let UpTo : Activation → Type 0 = λ other. other.node ≤ activation.node in
    let below : All (λ other. other.node < activation.node) trace = nodes_below last activation.node trace up_to later in
    subst (All UpTo) (sym (with_time_at_end activation.node activation.time trace below))
    (All-append UpTo trace (activation ∷ []) (All-weaker (λ (other : Activation). other.node < activation.node) UpTo (λ other less. omega arith) trace below)
    (All-cons UpTo activation [] (omega arith) (All-nil UpTo)))

ranked_fits : (last : Option ℕ) (activation : Activation) (now : UnderWay) → IsRankedUpTo last now → is_later last activation.node ≡ true → IsRankedUpTo (Some activation.node) (under_way_with_activation activation now)
ranked_fits last activation under_way.Nothing is later = absurd is
ranked_fits last activation (under_way.Part part) is later = absurd is
ranked_fits last activation (under_way.Ranked ranked) up_to later = up_to_with last activation ranked.trace up_to later

-- ---- each line

-- A draft fits the stand after the line.
pub fits_after : (before : Stand) (draft : RoundDraft) (at : ℕ) (line : ReportLine) (next : Stand) → Fits before draft → stand_after before line ≡ Some next → Fits next (draft_after at next line draft)
fits_after before draft at (Head terms) next fits same =
    then_some_is (λ s. Fits s draft) (may_begin before) stand.Block next same (λ _. tt)
fits_after before draft at (OldHead k budget) next fits same =
    then_some_is (λ s. Fits s draft) (may_begin before) stand.Block next same (λ _. tt)
fits_after before draft at (Refused line cause) next fits same =
    then_some_is (λ s. Fits s draft) (may_begin_block before) stand.Block next same (λ _. tt)
fits_after before draft at (Round number line now) next fits same =
    then_some_is (λ s. Fits s (draft_after at s (Round number line now) draft)) (may_begin_block before) stand.Round next same
    (λ _. (tt, All-nil HasLineForEachStep, record { no_ranked = refl; no_sets = record { no_unsettled = refl; no_rejected = refl } }))
fits_after before draft at (Hyp number) next fits same =
    then_some_is (λ s. Fits s (draft_after at s (Hyp number) draft)) (may_begin_steps before) stand.Hyp next same
    (λ may. (refl, (is_settled before draft (steps_or_reject before may) fits).steps, only_steps before draft may fits))
fits_after before draft at (Split name) next fits same =
    then_some_is (λ s. Fits s (draft_after at s (Split name) draft)) (may_step before) stand.Step next same
    (λ may. step_fits at (step.Split name) draft (steps_fit before draft may fits))
fits_after before draft at (Cycle count) next fits same =
    then_some_is (λ s. Fits s (with_cycle at s draft)) (may_step before) (after_reasons count) next same
    (λ may.
    let steps : HasSteps draft = steps_fit before draft may fits in
    after_reasons_is (λ s. Fits s (with_cycle at s draft)) count (after_reasons count) refl
    (λ _. step_fits at (step.Cycle []) (record draft { cycle_line = at; reasons = [] }) steps)
    (λ left _. (steps, omega arith)))
fits_after before draft at (Why reason) next fits same =
    after_reason_is (λ s t. Fits s draft → Fits t (with_reason reason t draft)) before next same
    (λ owed after fits.
    after_reasons_is (λ s. Fits s (with_reason reason s draft)) (owed - 1) next after
    (λ _. step_fits draft.cycle_line (step.Cycle (draft.reasons ++ reason ∷ [])) (record draft { reasons = draft.reasons ++ reason ∷ [] }) fits.0)
    (λ left _. (fits.0, omega arith)))
    fits
fits_after before draft at Again next fits same =
    then_some_is (λ s. Fits s (draft_after at s Again draft)) (may_step before) stand.Step next same
    (λ may. step_fits at step.Again draft (steps_fit before draft may fits))
fits_after before draft at (Ranked number cost alarmed monitored hypothesis) next fits same =
    then_some_is (λ s. Fits s (draft_after at s (Ranked number cost alarmed monitored hypothesis) draft)) (may_rank before) (stand.Ranked None) next same
    (λ may. (refl, (is_settled before draft (open_or_reject before (rank_or_open before may)) fits).steps, no_sets before draft may fits))
fits_after before draft at (At activation) next fits same =
    after_activation_is (λ s t. Fits s draft → Fits t (with_activation activation draft)) before next activation.node same
    (λ last later fits. (ranked_fits last activation draft.under_way fits.0 later, fits.1, fits.2)) fits
fits_after before draft at (Open number hypothesis) next fits same =
    then_some_is (λ s. Fits s (draft_after at s (Open number hypothesis) draft)) (may_open before) stand.Open next same
    (λ may. (tt, (is_settled before draft (open_or_reject before may) fits).steps, none_rejected before draft may fits))
fits_after before draft at (Rejected number hypothesis) next fits same =
    then_some_is (λ s. Fits s (draft_after at s (Rejected number hypothesis) draft)) (may_reject before) stand.Rejected next same
    (λ may. (tt, (is_settled before draft may fits).steps))
fits_after before draft at (Counts counts) next fits same =
    then_some_is (λ s. Fits s (draft_after at s (Counts counts) draft)) (may_reject before) (stand.Counts None) next same (λ _. tt)
fits_after before draft at (Panel panel memory) next fits same =
    after_loss_is (λ s. Fits s draft) before next panel same tt

-- ---- what is under way lets the line come

part_lets : (now : UnderWay) → IsPart now → has_part now ≡ true
part_lets under_way.Nothing is = absurd is
part_lets (under_way.Part part) is = refl
part_lets (under_way.Ranked ranked) is = absurd is

ranked_lets : (last : Option ℕ) (now : UnderWay) → IsRankedUpTo last now → has_ranked now ≡ true
ranked_lets last under_way.Nothing is = absurd is
ranked_lets last (under_way.Part part) is = absurd is
ranked_lets last (under_way.Ranked ranked) is = refl

-- Where a line may come, what is under way lets it come.
pub lets_fit : (before : Stand) (draft : RoundDraft) (line : ReportLine) (next : Stand) → Fits before draft → stand_after before line ≡ Some next → lets draft.under_way line ≡ true
lets_fit before draft (Split name) next fits same =
    then_some_is (λ _. has_part draft.under_way ≡ true) (may_step before) stand.Step next same (λ may. part_lets draft.under_way (steps_fit before draft may fits).0)
lets_fit before draft (Cycle count) next fits same =
    then_some_is (λ _. has_part draft.under_way ≡ true) (may_step before) (after_reasons count) next same (λ may. part_lets draft.under_way (steps_fit before draft may fits).0)
lets_fit before draft (Why reason) next fits same =
    after_reason_is (λ s _. Fits s draft → has_part draft.under_way ≡ true) before next same (λ owed _ fits. part_lets draft.under_way fits.0.0) fits
lets_fit before draft Again next fits same =
    then_some_is (λ _. has_part draft.under_way ≡ true) (may_step before) stand.Step next same (λ may. part_lets draft.under_way (steps_fit before draft may fits).0)
lets_fit before draft (At activation) next fits same =
    after_activation_is (λ s _. Fits s draft → has_ranked draft.under_way ≡ true) before next activation.node same (λ last _ fits. ranked_lets last draft.under_way fits.0) fits
lets_fit before draft (Head terms) next fits same = refl
lets_fit before draft (OldHead k budget) next fits same = refl
lets_fit before draft (Refused line cause) next fits same = refl
lets_fit before draft (Round number line now) next fits same = refl
lets_fit before draft (Hyp number) next fits same = refl
lets_fit before draft (Ranked number cost alarmed monitored hypothesis) next fits same = refl
lets_fit before draft (Open number hypothesis) next fits same = refl
lets_fit before draft (Rejected number hypothesis) next fits same = refl
lets_fit before draft (Counts counts) next fits same = refl
lets_fit before draft (Panel panel memory) next fits same = refl
