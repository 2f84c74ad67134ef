-- What a log keeps of each node: which events bound when it became active.
use Rattle.std.specs.Prelude.{◌≡◌, ℕ, ◌-◌, ◌<◌, max, ◌&&◌, IsTrue, List, take, Option, Some, None, is_none, slice_index_or}
use Rattle.tfpg_log.specs.declared.event.Event.TheVariants.{Alarm, Silent, Sweep}
use Rattle.tfpg_log.specs.declared.node_events.NodeEvents.{NodeEvents}
use Rattle.tfpg_graph.specs.Graph.{Tfpg, is_monitored}
use Rattle.tfpg_log.specs.Log.{Logbook, event_at, alarm_among, alarm_event, silence_at}

-- those of a node without any
abbrev pub no_events : NodeEvents
no_events = record { first_alarm = None; last_alarm = None; silence = None; sweep = None }

-- those of a node, by the list of those of all nodes; a node past the end has none
abbrev pub events_of : List NodeEvents → ℕ → NodeEvents
events_of nodes node = slice_index_or nodes node no_events

-- the same by the first alarm
abbrev pub with_alarm_after : Option ℕ → NodeEvents → ℕ → Option ℕ → NodeEvents
with_alarm_after None events alarm sweep =
    record { first_alarm = Some alarm; last_alarm = Some alarm; silence = events.silence; sweep = sweep }
with_alarm_after (Some first) events alarm sweep =
    record { first_alarm = Some first; last_alarm = Some alarm; silence = events.silence; sweep = events.sweep }

-- those of a node once the event of a number is an alarm of it, where the last sweep so far has the other number
abbrev pub with_alarm : NodeEvents → ℕ → Option ℕ → NodeEvents
with_alarm events alarm sweep = with_alarm_after events.first_alarm events alarm sweep

-- the last number of which something holds, where there is one
abbrev pub IsLast : (ℕ → Type 0) → Option ℕ → Type 0
IsLast Holds None = (number : ℕ) → Holds number → ⊥
IsLast Holds (Some number) = Holds number × ((later : ℕ) → number < later → Holds later → ⊥)

-- the event of the number is an alarm of the node
abbrev pub IsAlarm : Logbook → ℕ → ℕ → Type 0
IsAlarm log node number = (time : ℕ) × (event_at log number ≡ Some (Alarm time node))

-- the event of the number is a silence of the node's own
abbrev pub IsOwnSilence : Logbook → ℕ → ℕ → Type 0
IsOwnSilence log node number = (time : ℕ) × (event_at log number ≡ Some (Silent time node))

-- the event of the number is a silence of the node, its own or that of a sweep
abbrev pub IsSilence : Tfpg → Logbook → ℕ → ℕ → Type 0
IsSilence graph log node number = (time : ℕ) × (silence_at graph log number node ≡ Some time)

-- the event of the number is a sweep
abbrev pub IsSweep : Logbook → ℕ → Type 0
IsSweep log number = (time : ℕ) × (event_at log number ≡ Some (Sweep time))

-- the event of the number is a sweep before an alarm with this number
abbrev pub IsSweepBefore : Logbook → ℕ → ℕ → Type 0
IsSweepBefore log alarm number = IsSweep log number × (number < alarm)

-- These are the events that bound when the node became active.
pub record IsNodeEvents (log : Logbook) (node : ℕ) (events : NodeEvents) : Type 0 where
  pub first_alarm : events.first_alarm ≡ alarm_event log node
  pub last_alarm : IsLast (IsAlarm log node) events.last_alarm
  pub silence : IsLast (IsOwnSilence log node) events.silence
  pub sweep : (alarm : ℕ) → alarm_event log node ≡ Some alarm → IsLast (IsSweepBefore log alarm) events.sweep

-- the two lists say the same of each node
abbrev pub AreSameOfNodes : List NodeEvents → List NodeEvents → Type 0
AreSameOfNodes one other = (node : ℕ) → events_of one node ≡ events_of other node

-- the event of the number is a sweep that silences the node
abbrev pub IsSwept : Tfpg → Logbook → ℕ → ℕ → Type 0
IsSwept graph log node number =
    IsSweep log number × IsTrue (is_monitored graph node && is_none (alarm_among (take (number - 1) log.events) node))

-- the later of two numbers, where there are any
abbrev pub later_of : Option ℕ → Option ℕ → Option ℕ
later_of None other = other
later_of (Some one) None = Some one
later_of (Some one) (Some other) = Some (max one other)
