-- What is kept of a log, as the code finds it: by the numbers of the first and the last alarm and of the last silence of each node.
use Rattle.std.specs.Prelude.{ℕ, suc, ◌==◌, List, [], ◌∷◌, ◌++◌, length, map, filter, Bool, false, ◌||◌, if◌then◌else◌, Option, None, is_some, slice_index_or}
use Rattle.std.specs.List.{range_with_len}
use Rattle.std.specs.Option.{option_map_or}
use Rattle.tfpg_base.specs.Trials.{greatest}
use Rattle.tfpg_graph.specs.Graph.{Tfpg}
use Rattle.tfpg_log.specs.declared.event.Event.{Event}
use Rattle.tfpg_log.specs.declared.event.Event.TheVariants.{Alarm, Silent, Sweep, Tick, Mode}
use Rattle.tfpg_log.specs.Log.{Logbook, event_at, is_alarm_of, alarm_event, silence_at}

-- there is a number, and it is this one
abbrev pub is_at : Option ℕ → ℕ → Bool
is_at found number = option_map_or (λ other. other == number) found false

-- the event of the number is an alarm of the node
abbrev pub is_alarm_at : Logbook → ℕ → ℕ → Bool
is_alarm_at log node number = option_map_or (is_alarm_of node) (event_at log number) false

-- the event of the number is a silence of the node: its own silence, or a sweep
abbrev pub is_silence_at : Tfpg → Logbook → ℕ → ℕ → Bool
is_silence_at graph log node number = is_some (silence_at graph log number node)

-- the number of the last alarm of a node
abbrev pub last_alarm : Logbook → ℕ → Option ℕ
last_alarm log node = greatest (is_alarm_at log node) (length log.events)

-- the number of the last event that is a silence of a node
abbrev pub last_silence : Tfpg → Logbook → ℕ → Option ℕ
last_silence graph log node = greatest (is_silence_at graph log node) (length log.events)

-- the number is that of the first or of the last alarm of its node
abbrev pub is_kept_alarm : Logbook → ℕ → ℕ → Bool
is_kept_alarm log node number = is_at (alarm_event log node) number || is_at (last_alarm log node) number

-- the silences of the nodes whose last silence has this number
abbrev pub kept_silences : Tfpg → Logbook → ℕ → ℕ → List Event
kept_silences graph log number time =
    map (λ node. Silent time node)
    (filter (λ node. is_at (last_silence graph log node) number) (range_with_len 0 (length graph.nodes)))

-- what is kept of the event of a number
abbrev pub kept_of_number : Tfpg → Logbook → ℕ → Event → List Event
kept_of_number graph log number (Alarm time node) = if is_kept_alarm log node number then Alarm time node ∷ [] else []
kept_of_number graph log number (Silent time node) = kept_silences graph log number time
kept_of_number graph log number (Sweep time) = kept_silences graph log number time
kept_of_number graph log number (Tick time) = []
kept_of_number graph log number (Mode time mode) = Mode time mode ∷ []

-- what is kept of these events of the log, where the first of them has the number after this one
abbrev pub kept_after_number : Tfpg → Logbook → ℕ → List Event → List Event
kept_after_number graph log number [] = []
kept_after_number graph log number (event ∷ events) =
    kept_of_number graph log (suc number) event ++ kept_after_number graph log (suc number) events

-- the events that are kept
abbrev pub kept_by_numbers : Tfpg → Logbook → List Event
kept_by_numbers graph log = kept_after_number graph log 0 log.events

-- ---- by a table of the last silence of each node

-- the silences of the first so many nodes, of those whose last silence has this number
abbrev pub silences_upto : List (Option ℕ) → ℕ → ℕ → ℕ → List Event
silences_upto last number time count =
    map (λ node. Silent time node) (filter (λ node. is_at (slice_index_or last node None) number) (range_with_len 0 count))

-- the silences of all such nodes
abbrev pub silences_at : List (Option ℕ) → ℕ → ℕ → List Event
silences_at last number time = silences_upto last number time (length last)

-- what is kept of the event of a number
abbrev pub kept_by : Logbook → List (Option ℕ) → ℕ → Event → List Event
kept_by log last number (Alarm time node) = if is_kept_alarm log node number then Alarm time node ∷ [] else []
kept_by log last number (Silent time node) = silences_at last number time
kept_by log last number (Sweep time) = silences_at last number time
kept_by log last number (Tick time) = []
kept_by log last number (Mode time mode) = Mode time mode ∷ []

-- what is kept of the event that has this number
abbrev pub kept_at : Logbook → List (Option ℕ) → ℕ → List Event
kept_at log last number = option_map_or (kept_by log last number) (event_at log number) []
