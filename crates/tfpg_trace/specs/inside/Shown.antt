-- Where a trace does not show an event, and what it shows of one node.
use Rattle.std.specs.Prelude.{◌≡◌, ℕ, ◌<◌, ◌≤◌, List, Some, slice_get, ◌⊎◌}
use Rattle.tfpg_base.specs.declared.activation.Activation.{Activation}
use Rattle.tfpg_graph.specs.Graph.{Tfpg}
use Rattle.tfpg_log.specs.declared.event.Event.{Event}
use Rattle.tfpg_log.specs.declared.event.Event.TheVariants.{Alarm}
use Rattle.tfpg_log.specs.Log.{Logbook, event_at, first_events, silence_at, quiet_at}
use Rattle.tfpg_log.specs.Rules.{IsActive}
use Rattle.tfpg_log.specs.Explains.{ShowsAlarm, ShowsSilence, Shows}
use Rattle.tfpg_trace.specs.FirstFault.{IsSilenceNotShown}
use Rattle.tfpg_trace.specs.declared.verdict.Verdict.{Verdict}
use Rattle.tfpg_trace.specs.declared.verdict.Verdict.TheVariants as verdict

-- The event of the number is a silence of the node at this time, and is not shown.
pub record IsNotQuiet (graph : Tfpg) (log : Logbook) (trace : List Activation) (number node time : ℕ) : Type 0 where
  pub silent : silence_at graph log number node ≡ Some time
  pub not_shown : ShowsSilence graph log trace node time → ⊥

-- The event, after this log, is an alarm of the node at this time, and is not shown.
pub record IsAlarmNotShown (graph : Tfpg) (before : Logbook) (trace : List Activation) (event : Event)
    (node time : ℕ) : Type 0 where
  pub alarm : event ≡ Alarm time node
  pub not_shown : ShowsAlarm graph before trace node time → ⊥

-- This is said of an event, after this log, that is not shown: an alarm, or a silence.
abbrev pub IsNotShown : Tfpg → Logbook → List Activation → Event → Verdict → Type 0
IsNotShown graph before trace event said =
    ((node time : ℕ) × (said ≡ verdict.Alarm node time) × IsAlarmNotShown graph before trace event node time)
    ⊎ ((node time : ℕ) × (said ≡ verdict.Silence node time) × IsSilenceNotShown graph before trace event node time)

-- the trace shows each event before this index
abbrev pub ShowsBefore : Tfpg → Logbook → List Activation → ℕ → Type 0
ShowsBefore graph log trace end =
    (index : ℕ) (event : Event) → index < end → slice_get log.events index ≡ Some event
    → Shows graph (first_events log index) trace event

-- This is said of the first event that is not shown.
pub record IsFirstNotShown (graph : Tfpg) (log : Logbook) (trace : List Activation) (said : Verdict) : Type 0 where
  pub index : ℕ
  pub event : Event
  pub at : slice_get log.events index ≡ Some event
  pub before : ShowsBefore graph log trace index
  pub not_shown : IsNotShown graph (first_events log index) trace event said

-- an event is an alarm of the node at this time
abbrev pub IsAlarmTime : Logbook → ℕ → ℕ → Type 0
IsAlarmTime log node time = (number : ℕ) × (event_at log number ≡ Some (Alarm time node))

-- an event says that the node is not active up to this instant
abbrev pub IsQuietUpto : Tfpg → Logbook → ℕ → ℕ → Type 0
IsQuietUpto graph log node until = (number : ℕ) × (quiet_at graph log number node ≡ Some until)

-- The node has alarms at these two times, and none before the first or after the last.
pub record AreAlarmTimes (log : Logbook) (node first last : ℕ) : Type 0 where
  pub first_is : IsAlarmTime log node first
  pub last_is : IsAlarmTime log node last
  pub between : (time : ℕ) → IsAlarmTime log node time → (first ≤ time) × (time ≤ last)

-- An event says that the node is not active up to this instant, and none says so of a later one.
pub record IsQuietLongest (graph : Tfpg) (log : Logbook) (node until : ℕ) : Type 0 where
  pub is : IsQuietUpto graph log node until
  pub last : (other : ℕ) → IsQuietUpto graph log node other → other ≤ until

-- the trace shows each alarm of the node
abbrev pub ShowsAlarmsOf : Tfpg → Logbook → List Activation → ℕ → Type 0
ShowsAlarmsOf graph log trace node = (time : ℕ) → IsAlarmTime log node time → ShowsAlarm graph log trace node time

-- the trace shows each silence of the node, its own or that of a sweep
abbrev pub ShowsSilencesOf : Tfpg → Logbook → List Activation → ℕ → Type 0
ShowsSilencesOf graph log trace node =
    (until : ℕ) → IsQuietUpto graph log node until → IsActive trace node until → ⊥

-- The trace shows each alarm and each silence of the node.
pub record ShowsNode (graph : Tfpg) (log : Logbook) (trace : List Activation) (node : ℕ) : Type 0 where
  pub alarms : ShowsAlarmsOf graph log trace node
  pub silences : ShowsSilencesOf graph log trace node
