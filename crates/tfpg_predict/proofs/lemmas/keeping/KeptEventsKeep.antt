-- The kept events keep what matters of the log.
use Rattle.std.proofs.Common.{◌≡◌, ℕ, zero, suc, ◌<◌, Bool, true, false, cond, [], ◌∷◌, length, Contains, Option, Some, None, slice_get, refl, sym, ap, ◌∙◌, subst}
use Rattle.std.specs.Prelude.{is_some, MatchOption}
use Rattle.std.specs.Option.{option_map_or}
use Rattle.std.proofs.lemmas.Bool.{false≢true, or_left, or_right, eq-eqb}
use Rattle.std.proofs.lemmas.Option.{same_Some}
use Rattle.tfpg_base.specs.Trials.{greatest}
use Rattle.tfpg_base.proofs.lemmas.lists.Choices.{is_some-there}
use Rattle.tfpg_base.proofs.lemmas.lists.Elements.{Contains-head, Contains-nil, Contains-one, Contains-cond}
use Rattle.tfpg_base.proofs.lemmas.lists.Trials.{IsGreatest, NonePassesUpTo, greatest_there, greatest_from, greatest_found}
use Rattle.tfpg_graph.specs.Graph.{Tfpg}
use Rattle.tfpg_log.specs.declared.event.Event.{Event}
use Rattle.tfpg_log.specs.declared.event.Event.TheVariants.{Alarm, Silent, Sweep, Tick, Mode}
use Rattle.tfpg_log.specs.Log.{Logbook, IsLogOf, IsOrdered, event_at, first_events, is_alarm_of, alarm_event, time_of_event, silence_at, silence_time}
use Rattle.tfpg_log.proofs.lemmas.events.AlarmEvents.{alarm_event_is, alarm_event_first}
use Rattle.tfpg_log.proofs.lemmas.events.AlarmIndexes.{alarm_is}
use Rattle.tfpg_log.proofs.lemmas.events.NodesEvents.{event_within}
use Rattle.tfpg_log.proofs.lemmas.events.SilenceTimes.{IsSilenceAt, silence_event, silences_in_order, not_later}
use Rattle.tfpg_log.proofs.lemmas.events.SilentNodes.{silent_within}
use Rattle.tfpg_clause.proofs.lemmas.traces.FactsMet.{silence_of}
use Rattle.tfpg_predict.specs.Kept.{kept_events}
use Rattle.tfpg_predict.specs.inside.KeptEvents.{is_at, is_alarm_at, is_silence_at, last_alarm, last_silence, is_kept_alarm, kept_of_number, kept_by_numbers}
use Rattle.tfpg_predict.proofs.lemmas.explained.KeptFacts.{IsBetweenAlarms, IsBeforeSilence, IsSaidBy, KeepsEvents}
use Rattle.tfpg_predict.proofs.lemmas.keeping.SameKept.{same_kept}
use Rattle.tfpg_predict.proofs.lemmas.keeping.KeptItems.{at_itself, all_kept, among_kept, silence_kept, kept_silence, modes_kept}

-- what a test of an optional value passes is there
passed : {X : Type 0} (test : X → Bool) (found : Option X) → option_map_or test found false ≡ true → (x : X) × (found ≡ Some x) × (test x ≡ true)
passed test None is = absurd (false≢true is)
passed test (Some x) is = (x, refl, is)

module _ (graph : Tfpg) (log : Logbook) (of : IsLogOf graph log) (ordered : IsOrdered log) where
  -- ---- each kept event is said by the log

  silence_said : (index node time number : ℕ) (event : Event) → slice_get log.events index ≡ Some event → time ≡ time_of_event event → number ≡ suc index
      → last_silence graph log node ≡ Some number → IsSaidBy graph log (Silent time node)
  silence_said index node time number event at time_is number_is last = by (greatest (is_silence_at graph log node) (length log.events)) last (greatest_found (is_silence_at graph log node) (length log.events))
    where
      by : (found : Option ℕ) → found ≡ Some number → MatchOption found (NonePassesUpTo (is_silence_at graph log node) (length log.events)) (IsGreatest (is_silence_at graph log node) (length log.events))
          → IsSaidBy graph log (Silent time node)
      by None is none = absurd cc
      by (Some other) is great =
          let same : other ≡ suc index = same_Some other number is ∙ number_is in
          let there = is_some-there (silence_at graph log other node) great.here in
          let event_is : IsSilenceAt log other there.0 = silence_event graph log node other there.0 there.1 in
          let one : event_is.event ≡ event = same_Some event_is.event event (sym event_is.there ∙ ap (event_at log) same ∙ at) in
          let when : there.0 ≡ time = event_is.at ∙ ap time_of_event one ∙ sym time_is in
          (other, there.1 ∙ ap Some when)

  kept_said : (index : ℕ) (event kept : Event) → slice_get log.events index ≡ Some event → Contains (kept_of_number graph log (suc index) event) kept → IsSaidBy graph log kept
  kept_said index (Alarm time node) kept at among =
      let is = Contains-cond (is_kept_alarm log node (suc index)) (Alarm time node) kept among in
      subst (IsSaidBy graph log) is.1 (suc index, at)
  kept_said index (Silent time node) kept at among =
      let is = silence_kept graph log (suc index) time kept among in
      subst (IsSaidBy graph log) is.is (silence_said index is.node time (suc index) (Silent time node) at refl refl is.last)
  kept_said index (Sweep time) kept at among =
      let is = silence_kept graph log (suc index) time kept among in
      subst (IsSaidBy graph log) is.is (silence_said index is.node time (suc index) (Sweep time) at refl refl is.last)
  kept_said index (Tick time) kept at among = absurd (Contains-nil kept among)
  kept_said index (Mode time mode) kept at among = subst (IsSaidBy graph log) (Contains-one (Mode time mode) kept among) (suc index, at)

  -- ---- the first and the last alarm are kept

  alarm_kept : (number time node : ℕ) → event_at log number ≡ Some (Alarm time node) → is_kept_alarm log node number ≡ true
      → Contains (kept_by_numbers graph log) (Alarm time node)
  alarm_kept zero time node at kept = absurd cc
  alarm_kept (suc index) time node at kept =
      among_kept graph log index (Alarm time node) (Alarm time node) at
      (subst (λ (b : Bool). Contains (cond b (Alarm time node ∷ []) []) (Alarm time node)) (sym kept) (Contains-head (Alarm time node) []))

  alarms_between : (number time node : ℕ) → event_at log number ≡ Some (Alarm time node) → IsBetweenAlarms (kept_by_numbers graph log) time node
  alarms_between number time node at =
      let first = alarm_event_first log node number time at in
      let first_is = alarm_event_is log node first.0 first.1 in
      let within = event_within log (Alarm time node) number at in
      let here : is_alarm_at log node number ≡ true = ap (λ (e : Option Event). option_map_or (is_alarm_of node) e false) at ∙ eq-eqb node node refl in
      let last = greatest_there (is_alarm_at log node) (length log.events) number within here in
      let last_event = passed (is_alarm_of node) (event_at log last.0) last.2.here in
      let last_is : event_at log last.0 ≡ Some (Alarm (time_of_event last_event.0) node) = last_event.1 ∙ ap Some (alarm_is node last_event.0 last_event.2) in
      record {
        first = first_is.0;
        last = time_of_event last_event.0;
        first_in = alarm_kept first.0 first_is.0 node first_is.1 (or_left (is_at (alarm_event log node) first.0) (is_at (last_alarm log node) first.0) (at_itself (alarm_event log node) first.0 first.1));
        last_in = alarm_kept last.0 (time_of_event last_event.0) node last_is
            (or_right (is_at (alarm_event log node) last.0) (is_at (last_alarm log node) last.0) (at_itself (last_alarm log node) last.0 last.1));
        from = not_later log ordered first.0 number (Alarm first_is.0 node) (Alarm time node) first_is.1 at first.2;
        upto = not_later log ordered number last.0 (Alarm time node) (Alarm (time_of_event last_event.0) node) at last_is
            (greatest_from (is_alarm_at log node) (length log.events) last.0 number last.2 within here);
      }

  -- ---- the last silence is kept

  silence_in : (index node time : ℕ) (event : Event) → slice_get log.events index ≡ Some event → silence_time graph (first_events log index) event node ≡ Some time
      → node < length graph.nodes → last_silence graph log node ≡ Some (suc index) → Contains (kept_by_numbers graph log) (Silent (time_of_event event) node)
  silence_in index node time (Alarm own alarmed) at is within last = absurd cc
  silence_in index node time (Silent own silent) at is within last =
      among_kept graph log index (Silent own silent) (Silent own node) at (kept_silence graph log (suc index) own node within last)
  silence_in index node time (Sweep own) at is within last =
      among_kept graph log index (Sweep own) (Silent own node) at (kept_silence graph log (suc index) own node within last)
  silence_in index node time (Tick own) at is within last = absurd cc
  silence_in index node time (Mode own mode) at is within last = absurd cc

  last_in : (number node time : ℕ) → silence_at graph log number node ≡ Some time → last_silence graph log node ≡ Some number
      → Contains (kept_by_numbers graph log) (Silent time node)
  last_in zero node time is last = absurd cc
  last_in (suc index) node time is last =
      let event_is : IsSilenceAt log (suc index) time = silence_event graph log node (suc index) time is in
      subst (λ (t : ℕ). Contains (kept_by_numbers graph log) (Silent t node)) (sym event_is.at)
      (silence_in index node time event_is.event event_is.there (sym (silence_of graph log index node event_is.event event_is.there) ∙ is)
      (silent_within graph log (suc index) node time of is) last)

  silence_before : (number time node : ℕ) → silence_at graph log number node ≡ Some time → IsBeforeSilence (kept_by_numbers graph log) time node
  silence_before number time node is =
      let event_is : IsSilenceAt log number time = silence_event graph log node number time is in
      let within = event_within log event_is.event number event_is.there in
      let here : is_silence_at graph log node number ≡ true = ap is_some is in
      let last = greatest_there (is_silence_at graph log node) (length log.events) number within here in
      let there = is_some-there (silence_at graph log last.0 node) last.2.here in
      record {
        last = there.0;
        last_in = last_in last.0 node there.0 there.1 last.1;
        upto = silences_in_order graph log ordered node number last.0 time there.0 is there.1 (greatest_from (is_silence_at graph log node) (length log.events) last.0 number last.2 within here);
      }

  -- The kept events keep what matters of the log.
  keeps_by_numbers : KeepsEvents graph log (kept_by_numbers graph log)
  keeps_by_numbers = record {
    modes = modes_kept graph log;
    each = all_kept graph log (IsSaidBy graph log) kept_said;
    alarms = alarms_between;
    silences = silence_before;
  }

  pub keeps : KeepsEvents graph log (kept_events graph log)
  keeps = subst (KeepsEvents graph log) (sym (same_kept graph log)) keeps_by_numbers
