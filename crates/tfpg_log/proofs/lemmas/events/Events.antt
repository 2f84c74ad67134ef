-- The events of a log, in its beginnings and in the logs that go on from it.
use Rattle.std.proofs.Common.{◌≡◌, ℕ, zero, suc, List, [], ◌∷◌, length, Some, ap, arith}
use Rattle.std.proofs.lemmas.List.{take_all}
use Rattle.std.proofs.lemmas.List.Sums.{fold_push}
use Rattle.tfpg_base.proofs.lemmas.lists.Written.{slice_get-append_some, slice_get-push_last}
use Rattle.tfpg_log.specs.declared.event.Event.{Event}
use Rattle.tfpg_log.specs.Log.{Logbook, now_of, event_at, first_events, with_event, time_of_event}

-- the first events of a log, as many as it has, are the whole log
pub whole_log : (log : Logbook) → first_events log (length log.events) ≡ log
whole_log log = ap (λ (events : List Event). record log { events = events }) (take_all (length log.events) log.events (omega arith))

-- the log with one more event ends at that event's time
pub now-with_event : (log : Logbook) (event : Event) → now_of (with_event log event) ≡ time_of_event event
now-with_event log event = fold_push (λ last e. time_of_event e) 0 log.events event

-- an event stays in a log that goes on
pub event_at-with_event : (log : Logbook) (number : ℕ) (event last : Event) → event_at log number ≡ Some event
    → event_at (with_event log last) number ≡ Some event
event_at-with_event log zero event last e = absurd cc
event_at-with_event log (suc before) event last e = slice_get-append_some log.events (last ∷ []) before event e

-- the last event of a log has the number of its events
pub event_at-last : (log : Logbook) (event : Event) → event_at (with_event log event) (suc (length log.events)) ≡ Some event
event_at-last log event = slice_get-push_last log.events event
