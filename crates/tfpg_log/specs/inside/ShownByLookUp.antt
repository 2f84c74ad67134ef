-- What a trace shows of alarms and silences, by what is looked up in the log.
use Rattle.std.specs.Prelude.{◌≡◌, ℕ, ◌≤◌, List, Some}
use Rattle.tfpg_base.specs.declared.activation.Activation.{Activation}
use Rattle.tfpg_base.specs.Trace.{time_of}
use Rattle.tfpg_graph.specs.Graph.{Tfpg}
use Rattle.tfpg_log.specs.declared.interval.Interval.{Interval}
use Rattle.tfpg_log.specs.Log.{Logbook, alarm_interval, inactive_until}
use Rattle.tfpg_log.specs.Rules.{IsActive}

-- the node became active at one of the instants
abbrev pub IsActivatedIn : List Activation → ℕ → Interval → Type 0
IsActivatedIn trace node interval =
    (active : ℕ) × (time_of trace node ≡ Some active) × (interval.earliest ≤ active) × (active ≤ interval.latest)

-- Of the instants that an alarm of the node at this time leaves, if it leaves any, the node became active at one.
abbrev pub KeepsInterval : Tfpg → Logbook → List Activation → ℕ → ℕ → Type 0
KeepsInterval graph log trace node time =
    (interval : Interval) → alarm_interval graph log node time ≡ Some interval → IsActivatedIn trace node interval

-- The node is not active by the instant up to which a silence of it at this time says so, if it says anything.
abbrev pub KeepsInactive : Tfpg → Logbook → List Activation → ℕ → ℕ → Type 0
KeepsInactive graph log trace node time =
    (until : ℕ) → inactive_until graph log node time ≡ Some until → IsActive trace node until → ⊥
