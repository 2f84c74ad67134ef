-- A log that goes on keeps its past.
use Rattle.std.proofs.Common.{◌≡◌, ℕ, zero, suc, ◌-◌, ◌≤◌, Bool, cond, List, [], ◌∷◌, ◌++◌, length, take, Some, refl, sym, ap, subst, ◌∙◌, arith}
use Rattle.std.specs.Prelude.{◌↔◌, IsTrue, slice_get, find, option_map, option_and_then}
use Rattle.std.specs.Option.{option_or}
use Rattle.std.proofs.lemmas.Bool.{le-ltb}
use Rattle.std.proofs.lemmas.List.{take-append-le, length-take}
use Rattle.std.proofs.lemmas.List.Elements.{All-tail}
use Rattle.tfpg_base.specs.declared.activation.Activation.{Activation}
use Rattle.std.proofs.lemmas.List.Folds.{find-append}
use Rattle.tfpg_base.proofs.lemmas.lists.Choices.{option_map-some}
use Rattle.tfpg_base.proofs.lemmas.lists.Written.{slice_get-append_left, slice_get-append_some}
use Rattle.tfpg_graph.specs.declared.edge.Edge.{Edge}
use Rattle.tfpg_graph.specs.Graph.{Tfpg, is_active_in}
use Rattle.tfpg_log.specs.declared.event.Event.{Event}
use Rattle.tfpg_log.specs.declared.event.Event.TheVariants.{Alarm, Silent, Sweep, Tick, Mode}
use Rattle.tfpg_log.specs.Log.{Logbook, GoesOn, IsOrdered, now_of, event_at, first_events, is_alarm_of, alarm_among, alarm_of, alarm_index, alarm_event, silence_time, silence_at, ignoring, inactive_until, quiet_at, time_of_event, mode_after, mode_at}
use Rattle.tfpg_log.specs.Rules.{HasAge}
use Rattle.tfpg_log.specs.Spans.{span_number, span_at, window_of, joint_of}
use Rattle.tfpg_base.proofs.lemmas.lists.FirstFound.{position-append}
use Rattle.tfpg_log.proofs.lemmas.events.Order.{AreEventsInOrder, AreFrom, last_time, order_after, from_first, last_from}
use Rattle.tfpg_log.proofs.lemmas.changes.ModeChanges.{mode_after-append}
use Rattle.tfpg_log.proofs.lemmas.instants.SameModes.{same_number, same_span, same_window, same_joint}

from_after : (instant : ℕ) (event : Event) (events : List Event) → AreFrom instant (event ∷ events) → AreFrom instant events
from_after instant event events from = All-tail (λ e. instant ≤ time_of_event e) event events from

-- what is added comes at the last time or later
added_later : (time : ℕ) (events more : List Event) → AreEventsInOrder (events ++ more) → AreFrom time (events ++ more)
    → AreFrom (last_time time events) more
added_later time [] more order from = from
added_later time (event ∷ events) more order from =
    added_later (time_of_event event) events more (order_after event (events ++ more) order) (from_first event (events ++ more) order)

-- and the last time does not fall
now_rises : (time : ℕ) (events more : List Event) → AreEventsInOrder (events ++ more) → AreFrom time (events ++ more)
    → last_time time events ≤ last_time time (events ++ more)
now_rises time [] more order from = last_from more time time (omega arith) from
now_rises time (event ∷ events) more order from =
    now_rises (time_of_event event) events more (order_after event (events ++ more) order) (from_first event (events ++ more) order)

-- Events that are not before an instant do not bear on its mode.
unchanged : (held instant : ℕ) (events : List Event) → AreFrom instant events → mode_after held events instant ≡ held
unchanged held instant [] from = refl
unchanged held instant (Alarm time node ∷ events) from = unchanged held instant events (from_after instant (Alarm time node) events from)
unchanged held instant (Silent time node ∷ events) from = unchanged held instant events (from_after instant (Silent time node) events from)
unchanged held instant (Sweep time ∷ events) from = unchanged held instant events (from_after instant (Sweep time) events from)
unchanged held instant (Tick time ∷ events) from = unchanged held instant events (from_after instant (Tick time) events from)
unchanged held instant (Mode time mode ∷ events) from =
    ap (λ (b : Bool). mode_after (cond b mode held) events instant) (le-ltb time instant (from 0 (Mode time mode) (omega arith)))
    ∙ unchanged held instant events (from_after instant (Mode time mode) events from)

mode_kept : (held instant : ℕ) (events more : List Event) → AreFrom instant more
    → mode_after held (events ++ more) instant ≡ mode_after held events instant
mode_kept held instant events more from =
    mode_after-append held events more instant ∙ unchanged (mode_after held events instant) instant more from

-- An age is carried over where the modes up to the instant are the same.
age_carried : (log other : Logbook) (trace : List Activation) (edge : Edge) (instant age : ℕ)
    → ((x : ℕ) → x ≤ instant → mode_at log x ≡ mode_at other x)
    → HasAge log trace edge instant age → HasAge other trace edge instant age
age_carried log other trace edge instant age alike has = record {
  start = has.start;
  source = has.source;
  since = has.since;
  active_since = λ x after before. subst (λ mode. IsTrue (is_active_in edge mode)) (alike x before) (has.active_since x after before);
}

module _ (earlier later : Logbook) (is : IsOrdered later) (goes_on : GoesOn earlier later) where
  order : AreEventsInOrder (earlier.events ++ goes_on.more)
  order = subst AreEventsInOrder goes_on.events is.in_order

  from_zero : AreFrom 0 (earlier.events ++ goes_on.more)
  from_zero k d within = omega arith

  -- Now does not fall.
  pub now_kept : now_of earlier ≤ now_of later
  now_kept = omega (arith, now_rises 0 earlier.events goes_on.more order from_zero, ap (last_time 0) goes_on.events)

  -- Each instant up to the old now keeps its mode.
  pub modes_kept : (instant : ℕ) → instant ≤ now_of earlier → mode_at later instant ≡ mode_at earlier instant
  modes_kept instant upto =
      ap (λ events. mode_after 0 events instant) goes_on.events
      ∙ mode_kept 0 instant earlier.events goes_on.more
      (λ k d within. omega (arith, upto, added_later 0 earlier.events goes_on.more order from_zero k d within))

  -- So it keeps the number of its span.
  pub numbers_kept : (instant : ℕ) → instant ≤ now_of earlier → span_number later instant ≡ span_number earlier instant
  numbers_kept instant upto = same_number later earlier (now_of earlier) modes_kept instant upto

  module _ (number horizon : ℕ) (upto : horizon ≤ now_of earlier) where
    -- The spans up to such a horizon stay.
    pub spans_kept : span_at later number horizon ≡ span_at earlier number horizon
    spans_kept = same_span later earlier (now_of earlier) modes_kept number horizon upto (omega (arith, upto, now_kept)) upto

    -- So do the windows of each edge.
    pub windows_kept : (edge : Edge) → window_of later edge number horizon ≡ window_of earlier edge number horizon
    windows_kept edge = same_window later earlier (now_of earlier) modes_kept number horizon upto (omega (arith, upto, now_kept)) upto edge

    -- So do the windows of all edges into a node.
    pub joints_kept : (graph : Tfpg) (node : ℕ) → joint_of graph later node number horizon ≡ joint_of graph earlier node number horizon
    joints_kept graph node =
        same_joint later earlier (now_of earlier) modes_kept number horizon upto (omega (arith, upto, now_kept)) upto graph node

  -- What ages an edge has depends on the modes up to the instant alone.
  pub ages_kept : (trace : List Activation) (edge : Edge) (instant age : ℕ) → instant ≤ now_of earlier
      → HasAge later trace edge instant age ↔ HasAge earlier trace edge instant age
  ages_kept trace edge instant age upto = (
    age_carried later earlier trace edge instant age (λ x before. modes_kept x (omega (arith, before, upto))),
    age_carried earlier later trace edge instant age (λ x before. sym (modes_kept x (omega (arith, before, upto)))),
  )

-- ---- events, alarms and silences

-- The first events stay, where there are so many.
first_kept : (earlier later : Logbook) → GoesOn earlier later → (seen : ℕ) → seen ≤ length earlier.events
    → first_events earlier seen ≡ first_events later seen
first_kept earlier later goes_on seen few = λ i. record {
  events = sym (ap (take seen) goes_on.events ∙ take-append-le seen earlier.events goes_on.more few) i;
  ignored = sym goes_on.ignored i;
}

-- The same, where there are so many since that many were taken.
pub first_events_kept : (earlier later : Logbook) → GoesOn earlier later → (seen : ℕ) → seen ≡ length (take seen earlier.events)
    → first_events earlier seen ≡ first_events later seen
first_events_kept earlier later goes_on seen is =
    first_kept earlier later goes_on seen (omega (arith, is, length-take seen earlier.events))

-- An event keeps its number.
pub events_kept : (earlier later : Logbook) → GoesOn earlier later → (number : ℕ) (event : Event) → event_at earlier number ≡ Some event
    → event_at later number ≡ Some event
events_kept earlier later goes_on zero event e = absurd cc
events_kept earlier later goes_on (suc before) event e =
    ap (λ events. slice_get events before) goes_on.events ∙ slice_get-append_some earlier.events goes_on.more before event e

-- An alarm keeps its time.
pub alarms_kept : (earlier later : Logbook) → GoesOn earlier later → (node time : ℕ) → alarm_of earlier node ≡ Some time
    → alarm_of later node ≡ Some time
alarms_kept earlier later goes_on node time e =
    let found = option_map-some time_of_event (find (is_alarm_of node) earlier.events) time e in
    ap (λ events. alarm_among events node) goes_on.events
    ∙ ap (option_map time_of_event)
    (find-append (is_alarm_of node) earlier.events goes_on.more
    ∙ ap (λ first. option_or first (find (is_alarm_of node) goes_on.more)) found.1)
    ∙ ap Some found.2

-- An alarm keeps its number.
pub alarm_events_kept : (earlier later : Logbook) → GoesOn earlier later → (node number : ℕ) → alarm_event earlier node ≡ Some number
    → alarm_event later node ≡ Some number
alarm_events_kept earlier later goes_on node number e =
    let at = option_map-some suc (alarm_index earlier.events node) number e in
    ap (λ events. option_map suc (alarm_index events node)) goes_on.events
    ∙ ap (option_map suc) (position-append (is_alarm_of node) earlier.events goes_on.more at.0 at.1)
    ∙ ap Some at.2

-- An event that was there is a silence of the same nodes, at the same time,
silences_kept : (graph : Tfpg) (earlier later : Logbook) → GoesOn earlier later → (number node : ℕ) → number ≤ length earlier.events
    → silence_at graph later number node ≡ silence_at graph earlier number node
silences_kept graph earlier later goes_on zero node within = refl
silences_kept graph earlier later goes_on (suc before) node within =
    ap (λ first. option_and_then (λ event. silence_time graph first event node) (slice_get later.events before))
    (sym (first_kept earlier later goes_on (suc before - 1) (omega arith)))
    ∙ ap
    (λ events. option_and_then (λ event. silence_time graph (first_events earlier (suc before - 1)) event node)
    (slice_get events before)) goes_on.events
    ∙ ap (option_and_then (λ event. silence_time graph (first_events earlier (suc before - 1)) event node))
    (slice_get-append_left earlier.events goes_on.more before (omega arith))

-- and says the same of when they are not active.
pub quiets_kept : (graph : Tfpg) (earlier later : Logbook) → GoesOn earlier later → (number node : ℕ) → number ≤ length earlier.events
    → quiet_at graph later number node ≡ quiet_at graph earlier number node
quiets_kept graph earlier later goes_on number node within =
    ap
    (λ (nodes : List ℕ). option_and_then (inactive_until graph (ignoring earlier nodes) node)
    (silence_at graph later number node)) goes_on.ignored
    ∙ ap (option_and_then (inactive_until graph earlier node)) (silences_kept graph earlier later goes_on number node within)
