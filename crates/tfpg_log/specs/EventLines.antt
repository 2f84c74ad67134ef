-- The line of an event, and which event may come next in a log.
use Rattle.std.specs.Prelude.{◌≡◌, ℕ, ◌<◌, ◌≤◌, List, [], ◌∷◌, ◌++◌, length, count_by, IsTrue, unwrap_or, slice_get, codes, decimal}
use Rattle.tfpg_base.specs.TextLine.{text_line}
use Rattle.tfpg_base.specs.declared.limits.TheConstants.{MAX_TIME}
use Rattle.tfpg_graph.specs.Graph.{Tfpg, name_word}
use Rattle.tfpg_log.specs.declared.event.Event.{Event}
use Rattle.tfpg_log.specs.declared.event.Event.TheVariants.{Alarm, Silent, Sweep, Tick, Mode}
use Rattle.tfpg_log.specs.declared.limits.TheConstants.{MAX_EVENTS, MAX_MODE_CHANGES}
use Rattle.tfpg_log.specs.Log.{Logbook, now_of, is_mode_change, time_of_event, IsEventOf}
use Rattle.tfpg_log.specs.LogOfLines.{log_of_events}

-- a mode's name
abbrev pub mode_word : Tfpg → ℕ → List ℕ
mode_word graph mode = unwrap_or (slice_get graph.modes mode) []

-- the words of the line of an event
abbrev pub event_words : Tfpg → Event → List (List ℕ)
event_words graph (Alarm time node) = decimal time ∷ codes "alarm" ∷ name_word graph node ∷ []
event_words graph (Silent time node) = decimal time ∷ codes "silent" ∷ name_word graph node ∷ []
event_words graph (Sweep time) = decimal time ∷ codes "sweep" ∷ []
event_words graph (Tick time) = decimal time ∷ codes "tick" ∷ []
event_words graph (Mode time mode) = decimal time ∷ codes "mode" ∷ mode_word graph mode ∷ []

-- the line of an event
abbrev pub event_line : Tfpg → Event → List ℕ
event_line graph event = text_line (event_words graph event)

-- The event names a node and a mode of the graph.
abbrev pub HasNames : Tfpg → Event → Type 0
HasNames graph (Alarm time node) = node < length graph.nodes
HasNames graph (Silent time node) = node < length graph.nodes
HasNames graph (Mode time mode) = mode < length graph.modes
HasNames graph _ = Unit {0}

-- The event may come next in a log: it is of the graph, not before now and not too late, and there is room.
pub record IsNextEvent (graph : Tfpg) (log : Logbook) (event : Event) : Type 0 where
  pub own : IsEventOf graph event
  pub not_back : now_of log ≤ time_of_event event
  pub in_range : time_of_event event ≤ MAX_TIME
  pub room : length log.events < MAX_EVENTS
  pub mode_room : IsTrue (is_mode_change event) → count_by is_mode_change log.events < MAX_MODE_CHANGES

-- Each of the events may come next after those before it.
abbrev pub AreNextEvents : Tfpg → List Event → Type 0
AreNextEvents graph events =
    (front back : List Event) (event : Event) → events ≡ front ++ event ∷ back
    → IsNextEvent graph (log_of_events front) event
