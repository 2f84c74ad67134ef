-- Which events of a log a probed log keeps: those from which alone the rest follows.
use Rattle.std.specs.Prelude.{ℕ, List, [], ◌∷◌, ◌++◌, length, map, filter, Bool, false, ◌&&◌, ◌||◌, not, if◌then◌else◌, is_none}
use Rattle.std.specs.List.{range_with_len}
use Rattle.tfpg_graph.specs.Graph.{Tfpg}
use Rattle.tfpg_log.specs.declared.event.Event.{Event}
use Rattle.tfpg_log.specs.declared.event.Event.TheVariants.{Alarm, Silent, Mode}
use Rattle.tfpg_log.specs.Log.{Logbook, alarm_among, alarm_of, first_events, is_silence_of, time_of_event, with_event}

-- whether one of these events, which follow this log, is a silence of the node
abbrev pub is_silenced : Tfpg → Logbook → List Event → ℕ → Bool
is_silenced graph before [] node = false
is_silenced graph before (event ∷ later) node =
    is_silence_of graph before node event || is_silenced graph (with_event before event) later node

-- What is kept of an event between this log and these later events. A change of mode is kept. An alarm is kept if no earlier
-- or no later event is an alarm of its node. A silence or a sweep becomes, in the order of the nodes, a silence of each node
-- that it silences and no later event does. Of a tick, which silences no node, nothing is kept.
abbrev pub kept_for : Tfpg → Logbook → Event → List Event → List Event
kept_for graph before (Mode time mode) later = Mode time mode ∷ []
kept_for graph before (Alarm time node) later =
    if is_none (alarm_of before node) || is_none (alarm_among later node) then Alarm time node ∷ [] else []
kept_for graph before event later =
    map (λ node. Silent (time_of_event event) node)
    (filter (λ node. is_silence_of graph before node event && not (is_silenced graph (with_event before event) later node))
    (range_with_len 0 (length graph.nodes)))

-- what is kept of these events, which follow this log
abbrev pub kept_after : Tfpg → Logbook → List Event → List Event
kept_after graph before [] = []
kept_after graph before (event ∷ later) = kept_for graph before event later ++ kept_after graph (with_event before event) later

-- the events of the log that are kept, in their order
abbrev pub kept_events : Tfpg → Logbook → List Event
kept_events graph log = kept_after graph (first_events log 0) log.events
