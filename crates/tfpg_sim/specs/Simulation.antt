-- The simulated trace: what a script starts, and when each discrepancy is activated.
use Rattle.std.specs.Prelude.{◌≡◌, ℕ, ◌<◌, ◌≤◌, List, [], ◌∷◌, length, All, Contains, IsTrue, ◌==◌, if◌then◌else◌, Option, Some, None, slice_get, filter_map}
use Rattle.tfpg_base.specs.declared.activation.Activation.{Activation}
use Rattle.tfpg_base.specs.Trace.{time_of}
use Rattle.tfpg_graph.specs.declared.edge.Edge.{Edge}
use Rattle.tfpg_graph.specs.Graph.{Tfpg, is_kind_at, is_failure, is_or, is_and, is_discrepancy, incoming}
use Rattle.tfpg_log.specs.declared.event.Event.{Event}
use Rattle.tfpg_log.specs.declared.event.Event.TheVariants as event
use Rattle.tfpg_log.specs.Log.{Logbook}
use Rattle.tfpg_log.specs.LogOfLines.{log_of_events}
use Rattle.tfpg_log.specs.Rules.{HasAge, IsTraceOf}
use Rattle.tfpg_sim.specs.declared.entry.Entry.{Entry}
use Rattle.tfpg_sim.specs.declared.entry.Entry.TheVariants.{Start, Mode, Sweep, Tick, Stop}
use Rattle.tfpg_sim.specs.Script.{time_so_far}

-- The event that a line of a script becomes in the log. A start becomes none, and the stop a tick.
abbrev pub event_of_entry : Entry → Option Event
event_of_entry (Start time node) = None
event_of_entry (Mode time mode) = Some (event.Mode time mode)
event_of_entry (Sweep time) = Some (event.Sweep time)
event_of_entry (Tick time) = Some (event.Tick time)
event_of_entry (Stop time) = Some (event.Tick time)

-- the script's own events, with which the log has all changes of mode
abbrev pub script_log : List Entry → Logbook
script_log entries = log_of_events (filter_map event_of_entry entries)

-- when a failure mode starts
abbrev pub start_of : List Entry → ℕ → Option ℕ
start_of [] failure = None
start_of (Start time node ∷ entries) failure = if node == failure then Some time else start_of entries failure
start_of (_ ∷ entries) failure = start_of entries failure

-- the edge of this number has an age of at least its delay at an instant
pub record Carries (graph : Tfpg) (log : Logbook) (delays : List ℕ) (trace : List Activation)
    (instant number : ℕ) : Type 0 where
  pub edge : Edge
  pub is : slice_get graph.edges number ≡ Some edge
  pub delay : ℕ
  pub drawn : slice_get delays number ≡ Some delay
  pub age : HasAge log trace edge instant delay

-- The failure arrives at a discrepancy: by some edge at an OR node, by all edges at once at an AND node.
pub record Arrives (graph : Tfpg) (log : Logbook) (delays : List ℕ) (trace : List Activation)
    (node instant : ℕ) : Type 0 where
  pub or_node : IsTrue (is_kind_at is_or graph node)
      → (number : ℕ) × Contains (incoming graph node) number × Carries graph log delays trace instant number
  pub and_node : IsTrue (is_kind_at is_and graph node)
      → All (Carries graph log delays trace instant) (incoming graph node)

-- the first instant up to a limit at which something holds, where there is one
abbrev pub IsFirst : (ℕ → Type 0) → ℕ → Option ℕ → Type 0
IsFirst Holds limit None = (instant : ℕ) → instant ≤ limit → Holds instant → ⊥
IsFirst Holds limit (Some first) = (first ≤ limit) × Holds first × ((instant : ℕ) → instant < first → Holds instant → ⊥)

-- The trace of a script by these delays: each failure mode is active from its start on, and each discrepancy from the
-- first instant up to the stop at which the failure arrives.
pub record IsSimulated (graph : Tfpg) (entries : List Entry) (delays : List ℕ) (trace : List Activation) : Type 0 where
  pub trace_of : IsTraceOf graph trace
  pub failure_modes : (node : ℕ) → IsTrue (is_kind_at is_failure graph node)
      → time_of trace node ≡ start_of entries node
  pub discrepancies : (node : ℕ) → node < length graph.nodes → IsTrue (is_discrepancy graph node)
      → IsFirst (Arrives graph (script_log entries) delays trace node) (time_so_far entries) (time_of trace node)
