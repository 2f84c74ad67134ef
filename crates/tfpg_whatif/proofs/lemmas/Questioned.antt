-- What the question of a node rests on: that its events may come next, and its counts.
use Rattle.std.proofs.Common.{◌≡◌, ℕ, ◌+◌, ◌<◌, ◌≤◌, false, List, [], ◌∷◌, length, sym, ap, subst, ◌∙◌, arith, length-append}
use Rattle.std.specs.Prelude.{All, IsTrue, count_by, nat_lt}
use Rattle.std.proofs.lemmas.Bool.Decides.{nat_tests}
use Rattle.tfpg_base.specs.Set.{Rises}
use Rattle.tfpg_base.proofs.lemmas.lists.Elements.{list_any-count}
use Rattle.tfpg_graph.specs.Graph.{Tfpg, is_monitored}
use Rattle.tfpg_log.specs.declared.event.Event.{Event}
use Rattle.tfpg_log.specs.declared.event.Event.TheVariants.{Alarm, Silent}
use Rattle.tfpg_log.specs.declared.limits.TheConstants.{MAX_EVENTS}
use Rattle.tfpg_log.specs.Log.{Logbook, IsLogOf, IsEventOf, IsOrdered, now_of, with_event}
use Rattle.tfpg_log.specs.EventLines.{IsNextEvent}
use Rattle.tfpg_hyp.specs.Hypotheses.{Hypotheses}
use Rattle.tfpg_hyp.specs.declared.limits.TheConstants.{MAX_HYPOTHESES}
use Rattle.tfpg_whatif.specs.declared.asking.Asking.{Asking}
use Rattle.tfpg_whatif.specs.declared.outcome.Outcome.{Outcome}
use Rattle.tfpg_whatif.specs.declared.question.Question.{Question}
use Rattle.tfpg_whatif.specs.Outcomes.{is_out, is_unknown, HasNoneUnknown}
use Rattle.tfpg_whatif.specs.Questions.{CanBeAsked, IsQuestion}
use Rattle.tfpg_whatif.specs.Foresight.{IsKnownIfEnough}
use Rattle.tfpg_whatif.specs.inside.Asking.{asked_by, asked_of_lent, IsAskedAt, AreAllFound}
use Rattle.tfpg_whatif.proofs.lemmas.Asked.{are_outcomes, none_unknown, few_asked}
use Rattle.tfpg_whatif.proofs.lemmas.Rounds.{now_in_range}

-- ---- the events

-- a silence of a monitored node at now may come next,
pub next_silence : (graph : Tfpg) (log lent : Logbook) (time node : ℕ) → lent ≡ log → IsOrdered lent → time ≡ now_of lent → IsTrue (is_monitored graph node) → length log.events < MAX_EVENTS
    → IsNextEvent graph log (Silent time node)
next_silence graph log lent time node same ordered at_now monitored room = record {
  own = monitored;
  not_back = omega (arith, at_now, ap now_of same);
  in_range = omega (arith, at_now, now_in_range lent ordered);
  room = room;
  mode_room = λ changes. absurd cc;
}

-- and so may an alarm of it
pub next_alarm : (graph : Tfpg) (log lent : Logbook) (time node : ℕ) → lent ≡ log → IsOrdered lent → time ≡ now_of lent → IsTrue (is_monitored graph node) → length log.events < MAX_EVENTS
    → IsNextEvent graph log (Alarm time node)
next_alarm graph log lent time node same ordered at_now monitored room = record {
  own = monitored;
  not_back = omega (arith, at_now, ap now_of same);
  in_range = omega (arith, at_now, now_in_range lent ordered);
  room = room;
  mode_room = λ changes. absurd cc;
}

-- the engine lends its graph and its log, and a copy of the log takes the same events
pub next_lent : (graph lent : Tfpg) (log lent_log copied : Logbook) (event : Event) → lent ≡ graph → lent_log ≡ log → copied ≡ lent_log → IsNextEvent graph log event → IsNextEvent lent copied event
next_lent graph lent log lent_log copied event same is_log is_copy next =
    subst (λ (g : Tfpg). IsNextEvent g copied event) (sym same) (subst (λ (l : Logbook). IsNextEvent graph l event) (sym (is_copy ∙ is_log)) next)

-- What is asked can be asked after one more event.
pub asked_after : (asking : Asking) (lent : Tfpg) (old new : Logbook) (event : Event) → lent ≡ asking.engine.now.graph → IsLogOf lent new → old ≡ asking.engine.now.log → new ≡ with_event old event
    → IsAskedAt asking new
asked_after asking lent old new event same of is_log longer = record {
  own = subst (λ (g : Tfpg). All (IsEventOf g) new.events) same of.own;
  event = omega (arith, ap (λ (log : Logbook). length log.events) longer, length-append old.events (event ∷ []));
  goes_on = (event ∷ [], ap (λ (log : Logbook). log.events) (longer ∙ ap (λ (log : Logbook). with_event log event) is_log));
}

-- ---- the counts

-- As many outcomes as hypotheses are few.
pub few_outcomes : (asking : Asking) (log : Logbook) (table : Hypotheses) (outcomes read : List Outcome) (count : ℕ) → AreAllFound (asked_by asking log) outcomes → read ≡ outcomes → Rises asking.among.now
    → All (λ (number : ℕ). number < length asking.engine.now.table.hypotheses) asking.among.now → table ≡ asking.engine.now.table → count ≡ length table.hypotheses → count ≤ MAX_HYPOTHESES
    → length read < 2147483648
few_outcomes asking log table outcomes read count all same rising below is_table counted few =
    omega (arith, ap length same, all.counted, few_asked asking.among.now (length asking.engine.now.table.hypotheses) rising below, ap (λ (t : Hypotheses). length t.hypotheses) is_table, counted, few)

-- nothing that passes is counted 0 times
counted_none : (outcomes : List Outcome) → HasNoneUnknown outcomes → count_by is_unknown outcomes ≡ 0
counted_none outcomes none = not_some (count_by is_unknown outcomes) (sym (list_any-count is_unknown outcomes) ∙ none)
  where
    not_some : (n : ℕ) → nat_lt 0 n ≡ false → n ≡ 0
    not_some n is = grind (arith, nat_tests)

module _ (asking : Asking) (lent : Logbook) (time node : ℕ) (is_log : lent ≡ asking.engine.now.log) (at_now : time ≡ now_of lent) (silent alarm read_silent read_alarm : List Outcome) (same_silent : read_silent ≡ silent)
    (same_alarm : read_alarm ≡ alarm) (silent_found : AreAllFound (asked_by asking (with_event asking.engine.now.log (Silent time node))) silent)
    (alarm_found : AreAllFound (asked_by asking (with_event asking.engine.now.log (Alarm time node))) alarm) (question : Question)
    (is : question ≡ record { node = node; silent_out = count_by is_out read_silent; alarm_out = count_by is_out read_alarm; unknown = count_by is_unknown read_silent + count_by is_unknown read_alarm }) where
  is_node : question.node ≡ node
  is_node = ap (λ (q : Question). q.node) is

  is_time : time ≡ now_of asking.engine.now.log
  is_time = at_now ∙ ap now_of is_log

  silent_all : AreAllFound (asked_by asking (with_event asking.engine.now.log (Silent (now_of asking.engine.now.log) question.node))) read_silent
  silent_all = subst (λ (n : ℕ). AreAllFound (asked_by asking (with_event asking.engine.now.log (Silent (now_of asking.engine.now.log) n))) read_silent) (sym is_node)
      (subst (λ (t : ℕ). AreAllFound (asked_by asking (with_event asking.engine.now.log (Silent t node))) read_silent) is_time
      (subst (AreAllFound (asked_by asking (with_event asking.engine.now.log (Silent time node)))) (sym same_silent) silent_found))

  alarm_all : AreAllFound (asked_by asking (with_event asking.engine.now.log (Alarm (now_of asking.engine.now.log) question.node))) read_alarm
  alarm_all = subst (λ (n : ℕ). AreAllFound (asked_by asking (with_event asking.engine.now.log (Alarm (now_of asking.engine.now.log) n))) read_alarm) (sym is_node)
      (subst (λ (t : ℕ). AreAllFound (asked_by asking (with_event asking.engine.now.log (Alarm t node))) read_alarm) is_time
      (subst (AreAllFound (asked_by asking (with_event asking.engine.now.log (Alarm time node)))) (sym same_alarm) alarm_found))

  -- The counts are those of a question.
  pub is_question : CanBeAsked asking.engine.now.graph asking.engine.now.log node → IsQuestion (asked_of_lent asking) question
  is_question can = record {
    can_be_asked = subst (CanBeAsked asking.engine.now.graph asking.engine.now.log) (sym is_node) can;
    silent = read_silent;
    silent_are = are_outcomes (asked_by asking (with_event asking.engine.now.log (Silent (now_of asking.engine.now.log) question.node))) read_silent silent_all;
    alarm = read_alarm;
    alarm_are = are_outcomes (asked_by asking (with_event asking.engine.now.log (Alarm (now_of asking.engine.now.log) question.node))) read_alarm alarm_all;
    silent_out = ap (λ (q : Question). q.silent_out) is;
    alarm_out = ap (λ (q : Question). q.alarm_out) is;
    unknown = ap (λ (q : Question). q.unknown) is;
  }

  -- Nothing is unknown where the budget is enough.
  pub is_known : IsKnownIfEnough (asked_of_lent asking) question
  is_known silent_enough alarm_enough =
      omega (
        arith,
        ap (λ (q : Question). q.unknown) is,
        counted_none read_silent (none_unknown (asked_by asking (with_event asking.engine.now.log (Silent (now_of asking.engine.now.log) question.node))) read_silent silent_all silent_enough),
        counted_none read_alarm (none_unknown (asked_by asking (with_event asking.engine.now.log (Alarm (now_of asking.engine.now.log) question.node))) read_alarm alarm_all alarm_enough),
      )
