-- What was found of the hypotheses that are asked about.
use Rattle.std.proofs.Common.{◌≡◌, ℕ, ◌+◌, ◌<◌, ◌≤◌, List, [], ◌∷◌, ◌++◌, length, false, refl, sym, ap, subst, ◌∙◌, arith, ⊎_elim, length-append}
use Rattle.std.specs.Prelude.{All, Some, slice_get}
use Rattle.std.proofs.lemmas.Option.{same_Some, slice_get_within}
use Rattle.std.proofs.lemmas.List.Folds.{list_any_none}
use Rattle.tfpg_base.specs.Hypothesis.{Hypothesis}
use Rattle.tfpg_base.specs.declared.terms.Terms.{Terms}
use Rattle.tfpg_base.specs.Set.{Rises}
use Rattle.tfpg_base.proofs.lemmas.lists.Elements.{All-from_indexes, Contains-at, slice_get-same_length}
use Rattle.tfpg_base.proofs.lemmas.lists.Written.{slice_get-push_before, slice_get-push_last}
use Rattle.tfpg_base.proofs.lemmas.lists.Sequences.{below_or_last}
use Rattle.tfpg_base.proofs.lemmas.lists.Ordered.{Rises-differ}
use Rattle.tfpg_base.proofs.lemmas.lists.Distinct.{length-le_distinct}
use Rattle.tfpg_graph.specs.Graph.{Tfpg, AreFailures}
use Rattle.tfpg_graph.specs.Reach.{IsReach}
use Rattle.tfpg_log.specs.Log.{Logbook, IsLogOf, IsEventOf, ignoring, with_event}
use Rattle.tfpg_log.specs.declared.event.Event.{Event}
use Rattle.tfpg_clause.specs.Case.{case_of}
use Rattle.tfpg_hyp.specs.Hypotheses.{Hypotheses, IsTableOf}
use Rattle.tfpg_hyp.specs.Table.{IsHypothesis}
use Rattle.tfpg_search.specs.Enough.{IsEnough}
use Rattle.tfpg_engine.proofs.lemmas.EnoughIgnoring.{enough_ignoring}
use Rattle.tfpg_whatif.specs.declared.outcome.Outcome.{Outcome}
use Rattle.std.proofs.lemmas.List.{append-nil}
use Rattle.tfpg_log.specs.declared.event.Offered.TheVariants.{Accepted}
use Rattle.tfpg_hyp.specs.Views.{HypothesisFits, IsReachOf}
use Rattle.tfpg_whatif.specs.declared.outcome.Outcome.TheVariants.{Fits}
use Rattle.tfpg_whatif.specs.Outcomes.{Asked, asked_at, Lengthens, HasOutcomeEvidence, AreOutcomes, AreOutcomesAfter, HasNoneUnknown, is_unknown}
use Rattle.tfpg_whatif.specs.Foresight.{ForeseeRounds, SayWhichKeep}
use Rattle.tfpg_whatif.specs.Laws.{OutcomesForeseeRounds}
use Rattle.tfpg_whatif.specs.declared.asking.Asking.{Asking}
use Rattle.tfpg_whatif.specs.inside.Asking.{asked_by, IsAskedAt, IsShown, IsFound, AreFound, AreAllFound, AreKnown, IsAnswer}

-- ---- the hypothesis of a number

module _ (graph : Tfpg) (terms : Terms) (read : Hypotheses) (is_table : IsTableOf graph terms read) (number : ℕ) (hypothesis : Hypothesis) (at : slice_get read.hypotheses number ≡ Some hypothesis) where
  is_hypothesis : IsHypothesis graph terms hypothesis
  is_hypothesis = (is_table.hypotheses.exact hypothesis).0 (Contains-at read.hypotheses number hypothesis at)

  pub its_members : (lent : Tfpg) → lent ≡ graph → AreFailures lent hypothesis.set
  its_members lent same = subst (λ (g : Tfpg). AreFailures g hypothesis.set) (sym same) is_hypothesis.of_graph.members

  pub its_reach : (lent : Tfpg) (reach : List ℕ) → lent ≡ graph → slice_get read.reaches number ≡ Some reach → IsReach lent hypothesis.set reach
  its_reach lent reach same reach_at = subst (λ (g : Tfpg). IsReach g hypothesis.set reach) (sym same) (is_table.reached.exact number hypothesis reach at reach_at)

  -- the log that ignores its monitors is one of the graph
  pub its_log : (lent : Tfpg) (log own : Logbook) → lent ≡ graph → All (IsEventOf graph) log.events → own ≡ ignoring log hypothesis.doubts → IsLogOf lent own
  its_log lent log own same events is =
      subst (λ (g : Tfpg). IsLogOf g own) (sym same) (subst (IsLogOf graph) (sym is) (record { own = events; ignored = is_hypothesis.doubts_of_graph.monitored }))

-- The outcome by the log that ignores the monitors of a hypothesis is that of the hypothesis.
pub found_by : (asked : Asked) (read : Hypotheses) (lent : Tfpg) (number : ℕ) (hypothesis : Hypothesis) (reach : List ℕ) (own : Logbook) (outcome : Outcome) → read.hypotheses ≡ asked.hypotheses
    → IsTableOf asked.graph asked.terms read → slice_get read.hypotheses number ≡ Some hypothesis → slice_get read.reaches number ≡ Some reach → lent ≡ asked.graph
    → own ≡ ignoring asked.log hypothesis.doubts → IsShown (case_of lent own reach) hypothesis.set asked.budget outcome → IsFound asked number outcome
found_by asked read lent number hypothesis reach own outcome same_list table at reach_at same own_is shown_own =
    let shown = subst (λ (g : Tfpg). IsShown (case_of g (ignoring asked.log hypothesis.doubts) reach) hypothesis.set asked.budget outcome) same
    (subst (λ (log : Logbook). IsShown (case_of lent log reach) hypothesis.set asked.budget outcome) own_is shown_own) in
    record {
      outcome_of = λ other at_other.
          let same_one : hypothesis ≡ other = same_Some hypothesis other (sym at ∙ ap (λ (hs : List Hypothesis). slice_get hs number) same_list ∙ at_other) in
          record {
            reach = reach;
            reach_is = subst (λ (h : Hypothesis). IsReachOf asked.graph h reach) same_one (table.reached.exact number hypothesis reach at reach_at);
            evidence = subst (λ (h : Hypothesis). HasOutcomeEvidence (case_of asked.graph (ignoring asked.log h.doubts) reach) h.set asked.budget outcome) same_one shown.evidence;
          };
      known = λ enough. shown.known (enough_ignoring asked.graph asked.log hypothesis.doubts asked.budget enough);
    }

-- a log has as many events, whatever it ignores
pub has_event : (log own : Logbook) (nodes : List ℕ) → own ≡ ignoring log nodes → 1 ≤ length log.events → 1 ≤ length own.events
has_event log own nodes is some = subst (λ (l : Logbook). 1 ≤ length l.events) (sym is) some

-- ---- the same events

-- what is asked at a log can be asked at one of the same events
pub asked_same : (asking : Asking) (one other : Logbook) → other.events ≡ one.events → IsAskedAt asking one → IsAskedAt asking other
asked_same asking one other same is = record {
  own = subst (All (IsEventOf asking.engine.now.graph)) (sym same) is.own;
  event = subst (λ (events : List Event). 1 ≤ length events) (sym same) is.event;
  goes_on = (is.goes_on.0, same ∙ is.goes_on.1);
}

-- what was found depends on the events alone
pub found_same : (asked : Asked) (other : Logbook) (number : ℕ) (outcome : Outcome) → other.events ≡ asked.log.events → IsFound (asked_at asked other) number outcome → IsFound asked number outcome
found_same asked other number outcome same found =
    let moved : IsFound (asked_at asked (ignoring asked.log other.ignored)) number outcome =
    subst (λ (log : Logbook). IsFound (asked_at asked log) number outcome) (λ i. record { events = same i; ignored = other.ignored }) found in
    record {
      outcome_of = λ hypothesis at.
          let own = moved.outcome_of hypothesis at in record { reach = own.reach; reach_is = own.reach_is; evidence = own.evidence };
      known = λ enough. moved.known (enough_ignoring asked.graph asked.log other.ignored asked.budget enough);
    }

-- ---- one outcome after the other

pub none_found : (asked : Asked) → AreFound asked [] 0
none_found asked = record { counted = refl; each = λ index number outcome at there. cc }

pub one_more_found : (asked : Asked) (outcomes new : List Outcome) (count number : ℕ) (outcome : Outcome) → AreFound asked outcomes count → slice_get asked.among count ≡ Some number
    → new ≡ outcomes ++ outcome ∷ [] → IsFound asked number outcome → AreFound asked new (count + 1)
one_more_found asked outcomes new count number outcome so_far at pushed found = subst (λ (os : List Outcome). AreFound asked os (count + 1)) (sym pushed) (record {
  counted = omega (arith, length-append outcomes (outcome ∷ []), so_far.counted);
  each = λ index other one at_other there.
      let within = slice_get_within (outcomes ++ outcome ∷ []) index one there in
      ⊎_elim (λ before. so_far.each index other one at_other (sym (slice_get-push_before outcomes outcome index (omega (arith, before, so_far.counted))) ∙ there))
      (λ last.
      let own : outcome ≡ one = same_Some outcome one (sym (slice_get-push_last outcomes outcome) ∙ ap (slice_get (outcomes ++ outcome ∷ [])) (so_far.counted ∙ sym last) ∙ there) in
      let numbered : number ≡ other = same_Some number other (sym at ∙ ap (slice_get asked.among) (sym last) ∙ at_other) in
      subst (λ (n : ℕ). IsFound asked n one) numbered (subst (IsFound asked number) own found))
      (below_or_last index count (omega (arith, within, length-append outcomes (outcome ∷ []), so_far.counted)));
})

-- The loop over the numbers has found one more, by a log of the same events.
pub found_next : (asking : Asking) (log own : Logbook) (lent : List ℕ) (outcomes new : List Outcome) (index number : ℕ) (outcome : Outcome) → own.events ≡ log.events → lent ≡ asking.among.now
    → slice_get lent index ≡ Some number → AreFound (asked_by asking log) outcomes index → new ≡ outcomes ++ outcome ∷ [] → IsFound (asked_by asking own) number outcome
    → AreFound (asked_by asking log) new (index + 1)
found_next asking log own lent outcomes new index number outcome same list at so_far pushed found =
    one_more_found (asked_by asking log) outcomes new index number outcome so_far (ap (λ (ns : List ℕ). slice_get ns index) (sym list) ∙ at) pushed
    (found_same (asked_by asking log) own number outcome same found)

module _ (asked : Asked) (outcomes : List Outcome) (all : AreAllFound asked outcomes) where
  pub are_outcomes : AreOutcomes asked outcomes
  are_outcomes = record {
    one_each = all.counted;
    each = λ index number outcome at there. (all.each index number outcome at there).outcome_of;
  }

  pub none_unknown : IsEnough asked.graph asked.log asked.budget → HasNoneUnknown outcomes
  none_unknown enough = list_any_none is_unknown outcomes
      (All-from_indexes (λ (o : Outcome). is_unknown o ≡ false) outcomes
      (λ index outcome there.
      let own = slice_get-same_length asked.among outcomes index outcome all.counted there in
      (all.each index own.0 outcome own.1 there).known enough))

-- outcomes of all are known
pub all_known : (asked : Asked) (outcomes : List Outcome) → AreAllFound asked outcomes → AreKnown asked outcomes
all_known asked outcomes all index number outcome at there = (all.each index number outcome at there).outcome_of

-- ---- how many are asked about

pub few_asked : (among : List ℕ) (count : ℕ) → Rises among → All (λ (number : ℕ). number < count) among → length among ≤ count
few_asked among count rising below = length-le_distinct among count (Rises-differ among rising) below

-- ---- what an answer says

-- a line lengthens a log to one log
one_lengthened : (graph : Tfpg) (log : Logbook) (line : List ℕ) (one other : Logbook) → Lengthens graph log line one → Lengthens graph log line other → one ≡ other
one_lengthened graph log line one other first second =
    let same : Accepted first.event ≡ Accepted second.event = sym first.accepted ∙ second.accepted in
    let event : first.event ≡ second.event = cc in
    first.is ∙ ap (with_event log) event ∙ sym second.is

module _ (foresees : OutcomesForeseeRounds) (asked : Asked) (line : List ℕ) (outcomes : List Outcome) (answer : IsAnswer asked line outcomes) where
  answered : AreOutcomes (asked_at asked answer.lengthened) outcomes
  answered = are_outcomes (asked_at asked answer.lengthened) outcomes answer.found

  pub answer_outcomes : AreOutcomesAfter asked line outcomes
  answer_outcomes = record { lengthened = answer.lengthened; by = answer.by; are = answered }

  foresight : ForeseeRounds (asked_at asked answer.lengthened) outcomes
  foresight = foresees (asked_at asked answer.lengthened) outcomes answer.well answered

  module _ (lengthened : Logbook) (by : Lengthens asked.graph asked.log line lengthened) where
    same_log : answer.lengthened ≡ lengthened
    same_log = one_lengthened asked.graph asked.log line answer.lengthened lengthened answer.by by

    pub answer_foresees : ForeseeRounds (asked_at asked lengthened) outcomes
    answer_foresees = subst (λ (log : Logbook). ForeseeRounds (asked_at asked log) outcomes) same_log foresight

    pub answer_known : IsEnough asked.graph lengthened asked.budget → HasNoneUnknown outcomes
    answer_known enough = none_unknown (asked_at asked answer.lengthened) outcomes answer.found (subst (λ (log : Logbook). IsEnough asked.graph log asked.budget) (sym same_log) enough)

  pub answer_keeps : SayWhichKeep asked line outcomes
  answer_keeps = record {
    fits = λ index number hypothesis trace at there outcome.
        record { lengthened = answer.lengthened; by = answer.by; fits = (trace, (answered.each index number (Fits trace) at outcome hypothesis there).evidence) };
    out = λ index number hypothesis steps at there outcome keeps.
        foresight.out index number hypothesis steps at there outcome answer.lengthened answer.well.of answer.well.ordered
        (record { more = []; events = sym (append-nil answer.lengthened.events); ignored = refl })
        (subst (λ (log : Logbook). HypothesisFits asked.graph log hypothesis) (sym (same_log keeps.lengthened keeps.by)) keeps.fits);
  }
