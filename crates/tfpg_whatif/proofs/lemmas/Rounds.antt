-- What outcomes and questions say of later logs and of the rounds to come.
use Rattle.std.proofs.Common.{◌≡◌, ℕ, suc, ◌+◌, ◌<◌, ◌≤◌, Bool, true, false, cond, List, [], ◌∷◌, length, map, Option, refl, sym, ap, subst, ◌∙◌, arith}
use Rattle.std.specs.Prelude.{IsTrue, Some, slice_get, count_by, option_map, unwrap_or}
use Rattle.std.proofs.lemmas.List.Elements.{All-push}
use Rattle.std.proofs.lemmas.List.Sums.{sum_by-cons}
use Rattle.std.specs.List.{list_any}
use Rattle.std.proofs.lemmas.Bool.{false_from_ne_true, false≢true}
use Rattle.std.proofs.lemmas.List.{append-nil}
use Rattle.std.proofs.lemmas.Option.{same_Some}
use Rattle.tfpg_base.specs.declared.terms.Terms.{Terms}
use Rattle.tfpg_base.specs.Hypothesis.{Hypothesis}
use Rattle.tfpg_base.proofs.lemmas.lists.Elements.{All-at, Contains-at, slice_get-there, slice_get-same_length, All-list_any_none, list_any-count}
use Rattle.tfpg_graph.specs.Graph.{Tfpg}
use Rattle.tfpg_graph.specs.Valid.{IsValid}
use Rattle.tfpg_log.specs.Log.{Logbook, GoesOn, IsLogOf, IsOrdered}
use Rattle.tfpg_evidence.specs.declared.finding.Finding.{Finding}
use Rattle.tfpg_evidence.specs.declared.round.Round.{Round}
use Rattle.tfpg_evidence.specs.declared.step.Step.{Step}
use Rattle.tfpg_evidence.specs.RoundOf.{is_rejected, is_open}
use Rattle.tfpg_evidence.specs.Findings.{hypothesis_of}
use Rattle.tfpg_graph.specs.Reach.{IsReach}
use Rattle.tfpg_log.specs.Explains.{Fits as FitsLog}
use Rattle.tfpg_clause.specs.Case.{case_of}
use Rattle.tfpg_clause.specs.Trees.{Judged, IsRefutation}
use Rattle.tfpg_hyp.specs.Table.{IsTable, IsHypothesis}
use Rattle.tfpg_hyp.specs.Views.{HypothesisFits, log_for}
use Rattle.tfpg_hyp.specs.Rounds.{IsRound, HasNoneOpen}
use Rattle.tfpg_hyp.specs.Fitting.{SayWhichSetsFit}
use Rattle.tfpg_hyp.proofs.lemmas.FindingsOfRound.{evidence}
use Rattle.tfpg_hyp.proofs.lemmas.FittingSets.{says_misfit}
use Rattle.tfpg_engine.specs.Work.{has_status}
use Rattle.tfpg_engine.proofs.lemmas.Ignoring.{ordered_for}
use Rattle.tfpg_whatif.specs.declared.outcome.Outcome.{Outcome}
use Rattle.tfpg_whatif.specs.declared.outcome.Outcome.TheVariants.{Fits, Out, Unknown}
use Rattle.tfpg_whatif.specs.Outcomes.{Asked, asked_at, IsOutcome, AreOutcomes, is_out, is_unknown}
use Rattle.tfpg_log.specs.declared.event.Event.{Event}
use Rattle.tfpg_log.proofs.lemmas.events.Order.{last_upto, ordered-with_event}
use Rattle.tfpg_base.specs.declared.limits.TheConstants.{MAX_TIME}
use Rattle.tfpg_log.specs.Log.{now_of, time_of_event, with_event, IsEventOf}
use Rattle.tfpg_whatif.specs.declared.question.Question.{Question}
use Rattle.tfpg_whatif.specs.Questions.{IsQuestion, after_silence, after_alarm}
use Rattle.tfpg_whatif.specs.Foresight.{FitsNoLaterLog, IsRoundOfLog, ForeseeRounds, ForeseesRounds, CountsRejected}
use Rattle.tfpg_whatif.specs.Laws.{IsWellAsked, OutcomesForeseeRounds}

-- That a refutation leaves no trace is a law of trees,
abbrev pub LeavesNoTrace : Type 0
LeavesNoTrace =
    (graph : Tfpg) (earlier log : Logbook) (set reach : List ℕ) (steps : List Judged) → IsValid graph → IsLogOf graph log → IsOrdered log → IsReach graph set reach
    → GoesOn earlier log → IsRefutation (case_of graph earlier reach) steps → FitsLog graph log set → ⊥

-- that the statuses of a round say which sets fit is a law of rounds,
abbrev pub RoundsSayWhichFit : Type 0
RoundsSayWhichFit =
    (graph : Tfpg) (terms : Terms) (line : ℕ) (rounds : List Round) (log : Logbook) (round : Round) → IsValid graph → IsLogOf graph log → IsOrdered log → IsRound graph terms rounds log line round
    → SayWhichSetsFit graph log terms round.findings

-- and that there is one table is a law of tables.
abbrev pub TablesAreOne : Type 0
TablesAreOne = (graph : Tfpg) (terms : Terms) (hypotheses others : List Hypothesis) → IsTable graph terms hypotheses → IsTable graph terms others → hypotheses ≡ others

module _ (leaves_none : LeavesNoTrace) (which_fit : RoundsSayWhichFit) (one_table : TablesAreOne) (asked : Asked) (well : IsWellAsked asked) where
  is_hypothesis : (number : ℕ) (hypothesis : Hypothesis) → slice_get asked.hypotheses number ≡ Some hypothesis → IsHypothesis asked.graph asked.terms hypothesis
  is_hypothesis number hypothesis at = (well.table.exact hypothesis).0 (Contains-at asked.hypotheses number hypothesis at)

  -- a hypothesis that is out fits no later log
  out_forever : (hypothesis : Hypothesis) (steps : List Step) → IsHypothesis asked.graph asked.terms hypothesis → IsOutcome asked.graph asked.log hypothesis asked.budget (Out steps)
      → FitsNoLaterLog asked.graph asked.log hypothesis
  out_forever hypothesis steps is outcome later of ordered goes_on fits =
      leaves_none asked.graph (log_for asked.log hypothesis) (log_for later hypothesis) hypothesis.set outcome.reach _ well.valid (record { own = of.own; ignored = is.doubts_of_graph.monitored })
      (ordered_for later hypothesis.doubts ordered) outcome.reach_is (record { more = goes_on.more; events = goes_on.events; ignored = refl }) outcome.evidence.0 fits

  -- one that is out does not fit the log itself
  out_now : (hypothesis : Hypothesis) (steps : List Step) → IsHypothesis asked.graph asked.terms hypothesis → IsOutcome asked.graph asked.log hypothesis asked.budget (Out steps)
      → HypothesisFits asked.graph asked.log hypothesis → ⊥
  out_now hypothesis steps is outcome =
      out_forever hypothesis steps is outcome asked.log well.of well.ordered (record { more = []; events = sym (append-nil asked.log.events); ignored = refl })

  module _ (round : Round) (is_round : IsRoundOfLog asked round) where
    says : SayWhichSetsFit asked.graph asked.log asked.terms round.findings
    says = which_fit asked.graph asked.terms is_round.line is_round.before asked.log round well.valid well.of well.ordered is_round.is

    same_table : is_round.is.hypotheses ≡ asked.hypotheses
    same_table = one_table asked.graph asked.terms is_round.is.hypotheses asked.hypotheses is_round.is.table well.table

    -- the finding of the round on the hypothesis of a number
    finding_at : (number : ℕ) (hypothesis : Hypothesis) → slice_get asked.hypotheses number ≡ Some hypothesis
        → (finding : Finding) × (slice_get round.findings number ≡ Some finding) × (hypothesis_of finding ≡ hypothesis)
    finding_at number hypothesis at =
        let there = slice_get-same_length round.findings asked.hypotheses number hypothesis (sym (is_round.is.complete ∙ ap length same_table)) at in
        let own = evidence is_round.is number there.0 there.1 in
        (there.0, there.1, own.2.hypothesis_is ∙ same_Some own.0 hypothesis (sym own.1 ∙ ap (λ (hs : List Hypothesis). slice_get hs number) same_table ∙ at))

    status_at : (number : ℕ) (finding : Finding) → slice_get round.findings number ≡ Some finding → has_status is_rejected number round ≡ is_rejected finding.status
    status_at number finding at = ap (λ (found : Option Finding). unwrap_or (option_map (λ (f : Finding). is_rejected f.status) found) false) at

    -- a hypothesis that fits is not rejected
    fits_not_rejected : (number : ℕ) (hypothesis : Hypothesis) → slice_get asked.hypotheses number ≡ Some hypothesis → HypothesisFits asked.graph asked.log hypothesis
        → IsTrue (has_status is_rejected number round) → ⊥
    fits_not_rejected number hypothesis at fits rejected =
        let found = finding_at number hypothesis at in
        says_misfit says number found.0 found.1 (subst (HypothesisFits asked.graph asked.log) (sym found.2) fits) (sym (status_at number found.0 found.1) ∙ rejected)

    module _ (none_open : HasNoneOpen round) where
      -- one that does not is rejected, where none is open
      misfit_rejected : (number : ℕ) (hypothesis : Hypothesis) → slice_get asked.hypotheses number ≡ Some hypothesis → (HypothesisFits asked.graph asked.log hypothesis → ⊥)
          → IsTrue (has_status is_rejected number round)
      misfit_rejected number hypothesis at misfit =
          let found = finding_at number hypothesis at in
          status_at number found.0 found.1
          ∙ (says.rejected found.0 (Contains-at round.findings number found.0 found.1)
          (All-at (λ (f : Finding). is_open f.status ≡ false) round.findings number found.0 (All-list_any_none (λ (f : Finding). is_open f.status) round.findings none_open) found.1)).1
          (λ fits. misfit (subst (HypothesisFits asked.graph asked.log) found.2 fits))

      exact_by : (number : ℕ) (hypothesis : Hypothesis) → slice_get asked.hypotheses number ≡ Some hypothesis → (outcome : Outcome) → IsOutcome asked.graph asked.log hypothesis asked.budget outcome
          → is_unknown outcome ≡ false → is_out outcome ≡ has_status is_rejected number round
      exact_by number hypothesis at (Fits trace) outcome known = sym (false_from_ne_true (has_status is_rejected number round) (fits_not_rejected number hypothesis at (trace, outcome.evidence)))
      exact_by number hypothesis at (Out steps) outcome known = sym (misfit_rejected number hypothesis at (out_now hypothesis steps (is_hypothesis number hypothesis at) outcome))
      exact_by number hypothesis at (Unknown steps) outcome known = cc

  module _ (outcomes : List Outcome) (are : AreOutcomes asked outcomes) where
    hypothesis_of_number : (index number : ℕ) → slice_get asked.among index ≡ Some number → (hypothesis : Hypothesis) × (slice_get asked.hypotheses number ≡ Some hypothesis)
    hypothesis_of_number index number at = slice_get-there asked.hypotheses number (All-at (λ (n : ℕ). n < length asked.hypotheses) asked.among index number well.among at)

    pub foresee : ForeseeRounds asked outcomes
    foresee = record {
      out = λ index number hypothesis steps at there outcome. out_forever hypothesis steps (is_hypothesis number hypothesis there) (are.each index number (Out steps) at outcome hypothesis there);
      fits = λ index number trace at outcome round is_round.
          let own = hypothesis_of_number index number at in
          fits_not_rejected round is_round number own.0 own.1 (trace, (are.each index number (Fits trace) at outcome own.0 own.1).evidence);
      exact = λ round is_round none_open index number outcome at there known.
          let own = hypothesis_of_number index number at in
          exact_by round is_round none_open number own.0 own.1 outcome (are.each index number outcome at there own.0 own.1) known;
    }

-- ---- questions

-- the last time of a log is not too large
pub now_in_range : (log : Logbook) → IsOrdered log → now_of log ≤ MAX_TIME
now_in_range log ordered = last_upto log.events 0 MAX_TIME (omega arith) ordered.in_range

-- What is asked makes sense after one more event at now.
well_after : (asked : Asked) (event : Event) → IsWellAsked asked → IsEventOf asked.graph event → time_of_event event ≡ now_of asked.log → IsWellAsked (asked_at asked (with_event asked.log event))
well_after asked event well own at_now = record {
  valid = well.valid;
  of = record { own = All-push (IsEventOf asked.graph) asked.log.events event well.of.own own; ignored = well.of.ignored };
  ordered = ordered-with_event asked.log event well.ordered (omega (arith, at_now)) (omega (arith, at_now, now_in_range asked.log well.ordered));
  table = well.table;
  among = well.among;
}

-- One more item is counted within the bounds: where it is not unknown it counts on both sides, and else on one side at most.
counts_one_more : (out unknown rejected : Bool) (outs unknowns rejects : ℕ) → (IsTrue unknown → out ≡ false) → (unknown ≡ false → out ≡ rejected)
    → (outs ≤ rejects) × (rejects ≤ outs + unknowns)
    → (cond out 1 0 + outs ≤ cond rejected 1 0 + rejects) × (cond rejected 1 0 + rejects ≤ (cond out 1 0 + outs) + (cond unknown 1 0 + unknowns))
counts_one_more true true rejected outs unknowns rejects apart known within = absurd (false≢true (sym (apart refl)))
counts_one_more false true true outs unknowns rejects apart known within = (omega (arith, within.0), omega (arith, within.1))
counts_one_more false true false outs unknowns rejects apart known within = (omega (arith, within.0), omega (arith, within.1))
counts_one_more true false true outs unknowns rejects apart known within = (omega (arith, within.0), omega (arith, within.1))
counts_one_more true false false outs unknowns rejects apart known within = absurd (false≢true (sym (known refl)))
counts_one_more false false true outs unknowns rejects apart known within = absurd (false≢true (known refl))
counts_one_more false false false outs unknowns rejects apart known within = (omega (arith, within.0), omega (arith, within.1))

-- Where two lists agree but for the unknown items of the first, their counts differ at most by the number of these.
counts_within : {X Y : Type 0} (out unknown : X → Bool) (rejected : Y → Bool) (xs : List X) (ys : List Y) → length xs ≡ length ys
    → ((x : X) → IsTrue (unknown x) → out x ≡ false)
    → ((index : ℕ) (x : X) (y : Y) → slice_get ys index ≡ Some y → slice_get xs index ≡ Some x → unknown x ≡ false → out x ≡ rejected y)
    → (count_by out xs ≤ count_by rejected ys) × (count_by rejected ys ≤ count_by out xs + count_by unknown xs)
counts_within out unknown rejected [] [] long apart same = (omega arith, omega arith)
counts_within out unknown rejected [] (y ∷ ys) long apart same = absurd (omega (arith, long))
counts_within out unknown rejected (x ∷ xs) [] long apart same = absurd (omega (arith, long))
counts_within out unknown rejected (x ∷ xs) (y ∷ ys) long apart same =
    let others = counts_within out unknown rejected xs ys (omega (arith, long)) apart (λ index a b at_b at_a known. same (suc index) a b at_b at_a known) in
    let both = counts_one_more (out x) (unknown x) (rejected y) (count_by out xs) (count_by unknown xs) (count_by rejected ys) (apart x) (same 0 x y refl refl) others in
    let outs : count_by out (x ∷ xs) ≡ cond (out x) 1 0 + count_by out xs = sum_by-cons (λ a. cond (out a) 1 0) x xs in
    let unknowns : count_by unknown (x ∷ xs) ≡ cond (unknown x) 1 0 + count_by unknown xs = sum_by-cons (λ a. cond (unknown a) 1 0) x xs in
    let rejects : count_by rejected (y ∷ ys) ≡ cond (rejected y) 1 0 + count_by rejected ys = sum_by-cons (λ b. cond (rejected b) 1 0) y ys in
    (omega (arith, both.0, outs, rejects), omega (arith, both.1, outs, unknowns, rejects))

-- an unknown outcome is not out
unknown_not_out : (outcome : Outcome) → IsTrue (is_unknown outcome) → is_out outcome ≡ false
unknown_not_out (Fits trace) unknown = refl
unknown_not_out (Out steps) unknown = absurd (false≢true unknown)
unknown_not_out (Unknown steps) unknown = refl

-- Outcomes count what a round rejects, but for the unknown ones.
counts_rejected : OutcomesForeseeRounds → (asked : Asked) (outcomes : List Outcome) (unknown out : ℕ) → IsWellAsked asked → AreOutcomes asked outcomes
    → count_by is_unknown outcomes ≤ unknown → out ≡ count_by is_out outcomes → CountsRejected asked unknown out
counts_rejected foresees asked outcomes unknown out well are within is round is_round none_open =
    let counted = counts_within is_out is_unknown (λ (number : ℕ). has_status is_rejected number round) outcomes asked.among are.one_each unknown_not_out
    (λ index outcome number at there known. (foresees asked outcomes well are).exact round is_round none_open index number outcome at there known) in
    (omega (arith, is, counted.0), omega (arith, is, within, counted.1))

pub question_foresees : OutcomesForeseeRounds → (asked : Asked) (question : Question) → IsWellAsked asked → IsQuestion asked question → ForeseesRounds asked question
question_foresees foresees asked question well is = record {
  silent = counts_rejected foresees (asked_at asked (after_silence asked.log question.node)) is.silent question.unknown question.silent_out
      (well_after asked _ well is.can_be_asked.monitored refl) is.silent_are (omega (arith, is.unknown)) is.silent_out;
  alarm = counts_rejected foresees (asked_at asked (after_alarm asked.log question.node)) is.alarm question.unknown question.alarm_out
      (well_after asked _ well is.can_be_asked.monitored refl) is.alarm_are (omega (arith, is.unknown)) is.alarm_out;
}
