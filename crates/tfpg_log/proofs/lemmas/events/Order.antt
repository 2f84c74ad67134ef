-- The times of a log do not fall, so no event is later than now, and one more event that is not before now leaves it so.
use Rattle.std.proofs.Common.{◌≡◌, ℕ, zero, suc, ◌≤◌, List, [], ◌∷◌, get_or, Some, ap, arith}
use Rattle.std.specs.Prelude.{All, AllPairs, fold, slice_get}
use Rattle.std.proofs.lemmas.List.Elements.{All-push, All-tail}
use Rattle.std.proofs.lemmas.List.Quantifiers.{all_pairs_push}
use Rattle.std.proofs.lemmas.Option.{slice_get-get_or}
use Rattle.tfpg_base.proofs.lemmas.lists.Elements.{AllPairs-head, AllPairs-tail}
use Rattle.tfpg_base.specs.declared.limits.TheConstants.{MAX_TIME}
use Rattle.tfpg_log.specs.declared.event.Event.{Event}
use Rattle.tfpg_log.specs.Log.{Logbook, now_of, event_at, time_of_event, with_event, IsOrdered}

-- the times of the events never fall
abbrev pub AreEventsInOrder : List Event → Type 0
AreEventsInOrder events = AllPairs (λ earlier later. time_of_event earlier ≤ time_of_event later) events

-- the events are not before an instant
abbrev pub AreFrom : ℕ → List Event → Type 0
AreFrom instant events = All (λ event. instant ≤ time_of_event event) events

-- the time of the last event, or this one where there is none
abbrev pub last_time : ℕ → List Event → ℕ
last_time time events = fold (λ last event. time_of_event event) time events

-- Events in order are in order without the first.
pub order_after : (event : Event) (events : List Event) → AreEventsInOrder (event ∷ events) → AreEventsInOrder events
order_after event events order = AllPairs-tail (λ earlier later. time_of_event earlier ≤ time_of_event later) event events order

-- No event of events in order is before the first.
pub from_first : (event : Event) (events : List Event) → AreEventsInOrder (event ∷ events) → AreFrom (time_of_event event) events
from_first event events order = AllPairs-head (λ earlier later. time_of_event earlier ≤ time_of_event later) event events order

-- the last time is not before what no time is before,
pub last_from : (events : List Event) (start time : ℕ) → time ≤ start → AreFrom time events → time ≤ last_time start events
last_from [] start time first from = first
last_from (event ∷ events) start time first from =
    last_from events (time_of_event event) time (from 0 event (omega arith)) (All-tail (λ e. time ≤ time_of_event e) event events from)

-- and not after what no time is after
pub last_upto : (events : List Event) (start time : ℕ) → start ≤ time → All (λ e. time_of_event e ≤ time) events
    → last_time start events ≤ time
last_upto [] start time upto all = upto
last_upto (event ∷ events) start time upto all =
    last_upto events (time_of_event event) time (all 0 event (omega arith)) (All-tail (λ e. time_of_event e ≤ time) event events all)

-- where the times do not fall, it is not before any of them
pub before_last : (start : ℕ) (events : List Event) (index : ℕ) (event : Event) → AreEventsInOrder events
    → slice_get events index ≡ Some event
    → time_of_event event ≤ last_time start events
before_last start [] index event order at = absurd cc
before_last start (first ∷ events) zero event order at =
    let same : first ≡ event = cc in
    omega (
      arith,
      ap time_of_event same,
      last_from events (time_of_event first) (time_of_event first) (omega arith) (from_first first events order),
    )
before_last start (first ∷ events) (suc index) event order at =
    before_last (time_of_event first) events index event (order_after first events order) at

-- No event is later than now.
pub event_by_now : (log : Logbook) (index : ℕ) (event : Event) → IsOrdered log → slice_get log.events index ≡ Some event
    → time_of_event event ≤ now_of log
event_by_now log index event ordered at = before_last 0 log.events index event ordered.in_order at

-- So it is with the event of a number.
pub number_by_now : (log : Logbook) (number : ℕ) (event : Event) → IsOrdered log → event_at log number ≡ Some event
    → time_of_event event ≤ now_of log
number_by_now log zero event ordered at = absurd cc
number_by_now log (suc index) event ordered at = event_by_now log index event ordered at

-- A log with one more event, at now or later and not too late, is in order.
pub ordered-with_event : (log : Logbook) (event : Event) → IsOrdered log → now_of log ≤ time_of_event event → time_of_event event ≤ MAX_TIME
    → IsOrdered (with_event log event)
ordered-with_event log event ordered not_back in_range = record {
  in_order = all_pairs_push (λ earlier later. time_of_event earlier ≤ time_of_event later) log.events event ordered.in_order
      (λ k d within. omega (arith, event_by_now log k (get_or log.events k d) ordered (slice_get-get_or log.events k d within), not_back));
  in_range = All-push (λ e. time_of_event e ≤ MAX_TIME) log.events event ordered.in_range in_range;
}
