-- A trace shows each event exactly where it shows each alarm and each silence of each node; of a node's alarms the first and
-- the last are enough, and of its silences the last.
use Rattle.std.proofs.Common.{◌≡◌, ℕ, zero, suc, ◌+◌, ◌-◌, ◌<◌, List, length, Some, None, IsTrue, refl, sym, ap, ◌∙◌, subst, inl, inr, arith, slice_get}
use Rattle.std.specs.Prelude.{is_none, not, option_and_then}
use Rattle.std.proofs.lemmas.Bool.{cases_lt, and_from, eq-eqb, cond-true}
use Rattle.std.proofs.lemmas.Option.{option_and_then_some}
use Rattle.tfpg_base.specs.declared.activation.Activation.{Activation}
use Rattle.tfpg_base.specs.Trace.{time_of}
use Rattle.tfpg_base.proofs.lemmas.lists.Elements.{All-at}
use Rattle.tfpg_base.proofs.lemmas.lists.Sequences.{below_or_last}
use Rattle.tfpg_graph.specs.Graph.{Tfpg, is_monitored}
use Rattle.tfpg_graph.proofs.lemmas.NodeAt.{monitored_within}
use Rattle.tfpg_log.specs.declared.event.Event.{Event}
use Rattle.tfpg_log.specs.declared.event.Event.TheVariants.{Alarm, Silent, Sweep, Tick, Mode}
use Rattle.tfpg_log.specs.Log.{Logbook, IsLogOf, IsEventOf, event_at, first_events, time_of_event, alarm_of, inactive_until, is_silence_of, silence_time, silence_at}
use Rattle.tfpg_log.specs.Explains.{ShowsAlarm, ShowsSilence, Shows, ShowsAll}
use Rattle.tfpg_log.proofs.lemmas.events.AlarmIntervals.{interval_is}
use Rattle.tfpg_log.proofs.lemmas.events.ShownByLookUp.{shows_alarm_heard, shows_alarm_from_interval, shows_silence_by_instant, shows_silence_from_instant}
use Rattle.tfpg_log.proofs.lemmas.events.SilenceTimes.{quiet_by}
use Rattle.tfpg_trace.specs.inside.Shown.{AreAlarmTimes, IsQuietLongest, ShowsAlarmsOf, ShowsSilencesOf, ShowsNode}
use Rattle.tfpg_trace.proofs.lemmas.Explained.{shows_quiet}

module _ (graph : Tfpg) (log : Logbook) (trace : List Activation) where
  module _ (node : ℕ) where
    -- ---- alarms

    -- Where the first and the last alarm are shown, so are those between.
    pub alarms_shown : (first last : ℕ) → AreAlarmTimes log node first last → ShowsAlarm graph log trace node first
        → ShowsAlarm graph log trace node last
        → ShowsAlarmsOf graph log trace node
    alarms_shown first last are shows_first shows_last time alarm =
        shows_alarm_from_interval graph log trace node time shows_first.0
        (λ interval left.
        let is = interval_is graph log node time interval left in
        let low = shows_alarm_heard graph log trace node first is.heard shows_first in
        let high = shows_alarm_heard graph log trace node last is.heard shows_last in
        let same : low.0 ≡ high.0 = cc (low.1, high.1) in
        let within = are.between time alarm in
        (low.0, low.1, omega (arith, is.earliest, same, high.2, within.1), omega (arith, is.latest, low.3, within.0)))

    -- ---- silences

    -- Where the last silence is shown, so are those before: where the node becomes active after it.
    pub silences_shown : (start until : ℕ) → Some start ≡ time_of trace node → IsQuietLongest graph log node until → until < start
        → ShowsSilencesOf graph log trace node
    silences_shown start until at longest later other is active =
        let upto = longest.last other is in
        let same : start ≡ active.0 = cc (at, active.1) in
        absurd (omega (arith, upto, later, same, active.2))

    -- Where all are shown, it becomes active after the last.
    pub active_after : (start until : ℕ) → Some start ≡ time_of trace node → IsQuietLongest graph log node until
        → ShowsSilencesOf graph log trace node → until < start
    active_after start until at longest shows = elim (cases_lt until start) [
      | inl lt ↦ lt
      | inr ge ↦ absurd (shows until longest.is (start, sym at, ge))
    ]

  -- ---- all events

  -- the trace shows each alarm and each silence of each node before this one
  abbrev pub ShowNodesBefore : ℕ → Type 0
  ShowNodesBefore end = (node : ℕ) → node < end → ShowsNode graph log trace node

  -- one node more
  pub ShowNodesBefore-more : (end : ℕ) → ShowNodesBefore end → ShowsNode graph log trace end → ShowNodesBefore (end + 1)
  ShowNodesBefore-more end before here node within =
      elim (below_or_last node end within) [
        | inl earlier ↦ before node earlier
        | inr same ↦ subst (ShowsNode graph log trace) (sym same) here
      ]

  -- an event that is a silence of a node
  silence_there : (index node : ℕ) (event : Event) → slice_get log.events index ≡ Some event
      → IsTrue (is_silence_of graph (first_events log index) node event)
      → silence_at graph log (suc index) node ≡ Some (time_of_event event)
  silence_there index node event at is =
      let same : suc index - 1 ≡ index = omega arith in
      ap (option_and_then (λ said. silence_time graph (first_events log (suc index - 1)) said node)) at
      ∙ ap (λ (n : ℕ). silence_time graph (first_events log n) event node) same
      ∙ cond-true (is_silence_of graph (first_events log index) node event) (Some (time_of_event event)) None is

  module _ (of : IsLogOf graph log) (nodes : ShowNodesBefore (length graph.nodes)) where
    silence_shown : (number node time : ℕ) → IsTrue (is_monitored graph node) → silence_at graph log number node ≡ Some time
        → ShowsSilence graph log trace node time
    silence_shown number node time monitored silent =
        shows_silence_from_instant graph log trace node time
        (λ until said.
        (nodes node (monitored_within graph node monitored)).silences until
        (number, ap (option_and_then (inactive_until graph log node)) silent ∙ said))

    event_shown : (index : ℕ) (event : Event) → slice_get log.events index ≡ Some event → IsEventOf graph event
        → Shows graph (first_events log index) trace event
    event_shown index (Alarm time node) at own = (nodes node (monitored_within graph node own)).alarms time (suc index, at)
    event_shown index (Silent time node) at own =
        silence_shown (suc index) node time own (silence_there index node (Silent time node) at (eq-eqb node node refl))
    event_shown index (Sweep time) at own = λ node monitored none.
        silence_shown (suc index) node time monitored
        (silence_there index node (Sweep time) at
        (and_from (is_monitored graph node) (is_none (alarm_of (first_events log index) node)) monitored (ap not none)))
    event_shown index (Tick time) at own = tt
    event_shown index (Mode time mode) at own = tt

    -- what shows each node shows each event
    pub all_shown : ShowsAll graph log trace
    all_shown index event at = event_shown index event at (All-at (IsEventOf graph) log.events index event of.own at)

  module _ (shows : ShowsAll graph log trace) (node : ℕ) where
    alarm_shown : (number time : ℕ) → event_at log number ≡ Some (Alarm time node) → ShowsAlarm graph log trace node time
    alarm_shown zero time at = absurd cc
    alarm_shown (suc index) time at = shows index (Alarm time node) at

    quiet_shown : (number time : ℕ) → silence_at graph log number node ≡ Some time → ShowsSilence graph log trace node time
    quiet_shown zero time is = absurd cc
    quiet_shown (suc index) time is =
        let same : suc index - 1 ≡ index = omega arith in
        option_and_then_some (λ (e : Event). silence_time graph (first_events log (suc index - 1)) e node)
        (event_at log (suc index)) time is
        (λ event at rest. shows_quiet graph (first_events log index) trace event node time (shows index event at)
        (ap (λ (n : ℕ). silence_time graph (first_events log n) event node) (sym same) ∙ rest))

    -- and the other way round
    pub node_shown : ShowsNode graph log trace node
    node_shown = record {
      alarms = λ time is. alarm_shown is.0 time is.1;
      silences = λ until is.
          let by = quiet_by graph log node is.0 until is.1 in
          shows_silence_by_instant graph log trace node by.time (quiet_shown is.0 by.time by.silent) until by.until_is;
    }
