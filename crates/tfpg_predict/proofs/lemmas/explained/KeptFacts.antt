-- What the kept events of a log have in common with it.
use Rattle.std.specs.Prelude.{◌≡◌, ℕ, ◌≤◌, List, All, Contains, Some}
use Rattle.tfpg_graph.specs.Graph.{Tfpg}
use Rattle.tfpg_log.specs.declared.event.Event.{Event}
use Rattle.tfpg_log.specs.declared.event.Event.TheVariants.{Alarm, Silent, Sweep, Tick, Mode}
use Rattle.tfpg_log.specs.Log.{Logbook, event_at, mode_after, silence_at}

-- The log has an alarm of the node before this time, and one after it, among these events.
pub record IsBetweenAlarms (events : List Event) (time node : ℕ) : Type 0 where
  pub first : ℕ
  pub last : ℕ
  pub first_in : Contains events (Alarm first node)
  pub last_in : Contains events (Alarm last node)
  pub from : first ≤ time
  pub upto : time ≤ last

-- There is a silence of the node after this time among these events.
pub record IsBeforeSilence (events : List Event) (time node : ℕ) : Type 0 where
  pub last : ℕ
  pub last_in : Contains events (Silent last node)
  pub upto : time ≤ last

-- A kept event says what the log says: it is an alarm or a change of mode of the log, or a silence of a node by an event of it.
abbrev pub IsSaidBy : Tfpg → Logbook → Event → Type 0
IsSaidBy graph log (Alarm time node) = (number : ℕ) × (event_at log number ≡ Some (Alarm time node))
IsSaidBy graph log (Silent time node) = (number : ℕ) × (silence_at graph log number node ≡ Some time)
IsSaidBy graph log (Sweep time) = ⊥
IsSaidBy graph log (Tick time) = ⊥
IsSaidBy graph log (Mode time mode) = (number : ℕ) × (event_at log number ≡ Some (Mode time mode))

-- The events keep what matters of the log: the modes, and the bounds that its alarms and silences give.
pub record KeepsEvents (graph : Tfpg) (log : Logbook) (kept : List Event) : Type 0 where
  pub modes : (instant : ℕ) → mode_after 0 kept instant ≡ mode_after 0 log.events instant
  pub each : All (IsSaidBy graph log) kept
  pub alarms : (number time node : ℕ) → event_at log number ≡ Some (Alarm time node) → IsBetweenAlarms kept time node
  pub silences : (number time node : ℕ) → silence_at graph log number node ≡ Some time → IsBeforeSilence kept time node
