-- The number of a node's first alarm: what event has it, that none before is an alarm of the node, and where there is none.
use Rattle.std.proofs.Common.{◌≡◌, ℕ, zero, suc, ◌≤◌, true, ltb, length, take, Option, Some, None, refl, sym, ap, ◌∙◌, arith}
use Rattle.std.specs.Prelude.{option_map, option_and_then, is_none, slice_get}
use Rattle.std.proofs.lemmas.Bool.{eq-eqb}
use Rattle.std.proofs.lemmas.Option.{slice_get_within}
use Rattle.tfpg_base.proofs.lemmas.lists.Choices.{option_map-some, option_map-none}
use Rattle.tfpg_log.specs.declared.event.Event.{Event}
use Rattle.tfpg_log.specs.declared.event.Event.TheVariants.{Alarm}
use Rattle.tfpg_log.specs.Log.{Logbook, event_at, is_alarm_of, alarm_among, alarm_index, alarm_of, alarm_event, time_of_event}
use Rattle.tfpg_base.proofs.lemmas.lists.FirstFound.{is_from, find-position, position-passes, position-upto}
use Rattle.tfpg_base.proofs.lemmas.lists.Sequences.{leb-suc}
use Rattle.tfpg_log.proofs.lemmas.events.AlarmIndexes.{alarm_is, none_before}

-- The event of the number is an alarm of the node, at the time of its first alarm.
pub alarm_event_is : (log : Logbook) (node number : ℕ) → alarm_event log node ≡ Some number
    → (time : ℕ) × (event_at log number ≡ Some (Alarm time node)) × (alarm_of log node ≡ Some time)
alarm_event_is log node number e =
    let at = option_map-some suc (alarm_index log.events node) number e in
    let there = position-passes (is_alarm_of node) log.events at.0 at.1 in (
      time_of_event there.0,
      ap (event_at log) (sym at.2) ∙ there.1 ∙ ap Some (alarm_is node there.0 there.2),
      ap (option_map time_of_event)
          (find-position (is_alarm_of node) log.events ∙ ap (option_and_then (slice_get log.events)) at.1 ∙ there.1),
    )

-- it is one of the events
pub alarm_event_within : (log : Logbook) (node number : ℕ) → alarm_event log node ≡ Some number
    → (1 ≤ number) × (number ≤ length log.events)
alarm_event_within log node number e =
    let at = option_map-some suc (alarm_index log.events node) number e in
    let there = position-passes (is_alarm_of node) log.events at.0 at.1 in
    let within = slice_get_within log.events at.0 there.0 there.1 in
    (omega (arith, at.2), omega (arith, at.2, within))

-- what stands at the number has the alarm's time
pub alarm_of_event : (log : Logbook) (node number : ℕ) (event : Event) → alarm_event log node ≡ Some number
    → event_at log number ≡ Some event → alarm_of log node ≡ Some (time_of_event event)
alarm_of_event log node number event e at =
    let is = alarm_event_is log node number e in
    let same : Alarm is.0 node ≡ event = cc (is.1, at) in
    is.2 ∙ ap (λ (x : Event). Some (time_of_event x)) same

-- a node without the number has no alarm
pub alarm_event_none : (log : Logbook) (node : ℕ) → alarm_event log node ≡ None → alarm_of log node ≡ None
alarm_event_none log node e =
    let none = option_map-none suc (alarm_index log.events node) e in
    ap (option_map time_of_event) (find-position (is_alarm_of node) log.events ∙ ap (option_and_then (slice_get log.events)) none)

there_is : (log : Logbook) (node time : ℕ) (number : Option ℕ) → alarm_event log node ≡ number → alarm_of log node ≡ Some time
    → (n : ℕ) × (number ≡ Some n)
there_is log node time None e there = let none = alarm_event_none log node e in absurd cc
there_is log node time (Some n) e there = (n, refl)

-- A node has the number of an alarm exactly where it has the time of one.
pub alarm_event_of : (log : Logbook) (node time : ℕ) → alarm_of log node ≡ Some time → (number : ℕ) × (alarm_event log node ≡ Some number)
alarm_event_of log node time there = there_is log node time (alarm_event log node) refl there

-- The first alarm of a node has no greater number than any alarm of it.
pub alarm_event_first : (log : Logbook) (node number time : ℕ) → event_at log number ≡ Some (Alarm time node)
    → (first : ℕ) × (alarm_event log node ≡ Some first) × (first ≤ number)
alarm_event_first log node zero time e = absurd cc
alarm_event_first log node (suc index) time e =
    let first = position-upto (is_alarm_of node) log.events index (Alarm time node) e (eq-eqb node node refl) in
    (suc first.0, ap (option_map suc) first.1, omega (arith, first.2))

-- ---- the events before one

-- none of so many first events is an alarm of the node, where the number of its first alarm is above
pub none_before_alarm : (log : Logbook) (count node number : ℕ) → alarm_event log node ≡ Some number
    → is_none (alarm_among (take count log.events) node) ≡ ltb count number
none_before_alarm log count node number e =
    let at = option_map-some suc (alarm_index log.events node) number e in
    none_before log.events count node ∙ ap (is_from count) at.1 ∙ leb-suc count at.0 ∙ ap (ltb count) at.2

-- nor where it has none
pub none_before_none : (log : Logbook) (count node : ℕ) → alarm_event log node ≡ None
    → is_none (alarm_among (take count log.events) node) ≡ true
none_before_none log count node e =
    none_before log.events count node ∙ ap (is_from count) (option_map-none suc (alarm_index log.events node) e)
