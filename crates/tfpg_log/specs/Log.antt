-- What a log is: its events, its time, its alarms, and the mode of an instant.
use Rattle.std.specs.Prelude.{◌≤◌, AllPairs, ◌≡◌, ℕ, suc, ◌-◌, ◌<◌, List, [], ◌∷◌, ◌++◌, length, take, All, fold, Bool, true, false, ◌&&◌, nat_lt, nat_le, not, ◌==◌, if◌then◌else◌, IsTrue, Option, Some, None, is_none, option_map, option_and_then, find, position}
use Rattle.tfpg_log.specs.declared.event.Event.{Event}
use Rattle.tfpg_log.specs.declared.event.Event.TheVariants.{Alarm, Silent, Sweep, Tick, Mode}
use Rattle.tfpg_graph.specs.declared.edge.Edge.{Edge}
use Rattle.std.specs.Bool.{then_some}
use Rattle.tfpg_graph.specs.declared.kind.Lag.{Lag}
use Rattle.tfpg_graph.specs.Reach.{is_among}
use Rattle.tfpg_graph.specs.Graph.{Tfpg, lag_or_zero, is_monitored, is_active_in}
use Rattle.tfpg_log.specs.declared.interval.Interval.{Interval}
use Rattle.tfpg_base.specs.Choice.{item_at}
use Rattle.tfpg_base.specs.declared.limits.TheConstants.{MAX_TIME}

-- A log: its events in order, numbered from 1, and the nodes whose monitors are ignored, in rising order.
pub record Logbook : Type 0 where
  pub events : List Event
  pub ignored : List ℕ

-- the time of an event
abbrev pub time_of_event : Event → ℕ
time_of_event (Alarm time node) = time
time_of_event (Silent time node) = time
time_of_event (Sweep time) = time
time_of_event (Tick time) = time
time_of_event (Mode time mode) = time

-- the time of the last event, and 0 for a log without events
abbrev pub now_of : Logbook → ℕ
now_of log = fold (λ last event. time_of_event event) 0 log.events

-- the event of a number
abbrev pub event_at : Logbook → ℕ → Option Event
event_at log number = item_at log.events number

-- the log of the first events alone
abbrev pub first_events : Logbook → ℕ → Logbook
first_events log count = record log { events = take count log.events }

-- the log with one more event
abbrev pub with_event : Logbook → Event → Logbook
with_event log event = record log { events = log.events ++ event ∷ [] }

-- the log that ignores these nodes, and no other
abbrev pub ignoring : Logbook → List ℕ → Logbook
ignoring log nodes = record log { ignored = nodes }

-- whether the node's monitor is ignored
abbrev pub is_ignored : Logbook → ℕ → Bool
is_ignored log node = is_among log.ignored node

-- One log goes on from another: it begins with the other's events, and ignores the same monitors.
pub record GoesOn (earlier later : Logbook) : Type 0 where
  pub more : List Event
  pub events : later.events ≡ earlier.events ++ more
  pub ignored : later.ignored ≡ earlier.ignored

-- whether an event is an alarm of the node
abbrev pub is_alarm_of : ℕ → Event → Bool
is_alarm_of node (Alarm time alarmed) = alarmed == node
is_alarm_of node _ = false

-- the time of the first alarm of a node
abbrev pub alarm_among : List Event → ℕ → Option ℕ
alarm_among events node = option_map time_of_event (find (is_alarm_of node) events)

-- the time of the first alarm of a node in the log
abbrev pub alarm_of : Logbook → ℕ → Option ℕ
alarm_of log node = alarm_among log.events node

-- the index of the first alarm of a node among events
abbrev pub alarm_index : List Event → ℕ → Option ℕ
alarm_index events node = position (is_alarm_of node) events

-- the number of the event that is the first alarm of a node
abbrev pub alarm_event : Logbook → ℕ → Option ℕ
alarm_event log node = option_map suc (alarm_index log.events node)

-- whether an event is a change of mode
abbrev pub is_mode_change : Event → Bool
is_mode_change (Mode time mode) = true
is_mode_change _ = false

-- the mode at an instant, where this one holds before the events
abbrev pub mode_after : ℕ → List Event → ℕ → ℕ
mode_after held [] instant = held
mode_after held (Mode time mode ∷ events) instant = mode_after (if nat_lt time instant then mode else held) events instant
mode_after held (_ ∷ events) instant = mode_after held events instant

-- The mode of an instant is that of the last change whose time is below it, and else the first declared mode. So a
-- change does not hold at its own instant, and of two with one time the later line decides.
abbrev pub mode_at : Logbook → ℕ → ℕ
mode_at log instant = mode_after 0 log.events instant

-- the edge is active in the mode of the instant
abbrev pub is_active_at : Logbook → Edge → ℕ → Bool
is_active_at log edge instant = is_active_in edge (mode_at log instant)

-- the instants that lie so long before a time as a lag says
abbrev pub interval_before : Lag → ℕ → Interval
interval_before lag time = record { earliest = time - lag.most; latest = time - lag.least }

-- The instants at which a node became active, as an alarm of it at this time says: at least its least lag before, and at
-- most its greatest. An alarm of an ignored node says nothing.
abbrev pub alarm_interval : Tfpg → Logbook → ℕ → ℕ → Option Interval
alarm_interval graph log node time = then_some (not (is_ignored log node)) (interval_before (lag_or_zero graph node) time)

-- The instant up to which a node is not active, as a silence of it at this time says: its least lag before. A silence
-- says nothing where there is no such instant, nor where the node is ignored.
abbrev pub inactive_until : Tfpg → Logbook → ℕ → ℕ → Option ℕ
inactive_until graph log node time =
    then_some (not (is_ignored log node) && nat_le (lag_or_zero graph node).least time) (time - (lag_or_zero graph node).least)

-- Whether the event, after this log, is a silence of the node. A sweep is one of each monitored node without an alarm so
-- far.
abbrev pub is_silence_of : Tfpg → Logbook → ℕ → Event → Bool
is_silence_of graph before node (Silent time silent) = silent == node
is_silence_of graph before node (Sweep time) = is_monitored graph node && is_none (alarm_of before node)
is_silence_of graph before node _ = false

-- the time of the event, where it is a silence of the node after this log
abbrev pub silence_time : Tfpg → Logbook → Event → ℕ → Option ℕ
silence_time graph before event node =
    if is_silence_of graph before node event then Some (time_of_event event) else None

-- the time of the event of a number, where it is a silence of the node
abbrev pub silence_at : Tfpg → Logbook → ℕ → ℕ → Option ℕ
silence_at graph log number node =
    option_and_then (λ event. silence_time graph (first_events log (number - 1)) event node) (event_at log number)

-- the instant up to which the event of a number says that the node is not active
abbrev pub quiet_at : Tfpg → Logbook → ℕ → ℕ → Option ℕ
quiet_at graph log number node = option_and_then (inactive_until graph log node) (silence_at graph log number node)

-- the event names only monitored nodes and modes of the graph
abbrev pub IsEventOf : Tfpg → Event → Type 0
IsEventOf graph (Alarm time node) = IsTrue (is_monitored graph node)
IsEventOf graph (Silent time node) = IsTrue (is_monitored graph node)
IsEventOf graph (Mode time mode) = mode < length graph.modes
IsEventOf graph _ = Unit {0}

-- A log is of a graph where each event names only monitored nodes and modes of the graph, and each ignored node is a
-- monitored node of the graph.
pub record IsLogOf (graph : Tfpg) (log : Logbook) : Type 0 where
  pub own : All (IsEventOf graph) log.events
  pub ignored : All (λ node. IsTrue (is_monitored graph node)) log.ignored

-- The times of a log never fall from one event to the next, and none is too large. Each log made by offering lines is
-- ordered.
pub record IsOrdered (log : Logbook) : Type 0 where
  pub in_order : AllPairs (λ earlier later. time_of_event earlier ≤ time_of_event later) log.events
  pub in_range : All (λ event. time_of_event event ≤ MAX_TIME) log.events
