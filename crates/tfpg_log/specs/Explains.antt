-- When a trace shows an event and explains a log, and which sets of failure modes fit it.
use Rattle.std.specs.Prelude.{◌≡◌, ℕ, ◌+◌, ◌-◌, ◌≤◌, ◌⊎◌, List, All, Contains, IsTrue, Some, IsNone, slice_get}
use Rattle.tfpg_base.specs.declared.activation.Activation.{Activation}
use Rattle.tfpg_base.specs.Trace.{time_of}
use Rattle.tfpg_graph.specs.declared.kind.Lag.{Lag}
use Rattle.tfpg_graph.specs.Graph.{Tfpg, lag_or_zero, is_monitored, is_kind_at, is_failure, failure_at}
use Rattle.tfpg_log.specs.declared.event.Event.{Event}
use Rattle.tfpg_log.specs.declared.event.Event.TheVariants.{Alarm, Silent, Sweep}
use Rattle.tfpg_log.specs.Log.{Logbook, now_of, first_events, is_ignored, alarm_of}
use Rattle.tfpg_log.specs.Rules.{IsActive, KeepsRules, IsTraceOf}

-- the node became active at most the greatest lag before a time, and at least the least; what is before 0 counts as 0
abbrev pub IsActivatedBefore : List Activation → ℕ → Lag → ℕ → Type 0
IsActivatedBefore trace node lag time =
    (active : ℕ) × (time_of trace node ≡ Some active) × (time - lag.most ≤ active) × (active ≤ time - lag.least)

-- The node is monitored; its monitor is ignored, or the node became active so long before this time as its lag says.
abbrev pub ShowsAlarm : Tfpg → Logbook → List Activation → ℕ → ℕ → Type 0
ShowsAlarm graph log trace node time =
    IsTrue (is_monitored graph node)
    × (IsTrue (is_ignored log node) ⊎ IsActivatedBefore trace node (lag_or_zero graph node) time)

-- The node's monitor is ignored, or the node is not active its least lag before this time, if there is such an instant.
abbrev pub ShowsSilence : Tfpg → Logbook → List Activation → ℕ → ℕ → Type 0
ShowsSilence graph log trace node time =
    IsTrue (is_ignored log node) ⊎ ((x : ℕ) → x + (lag_or_zero graph node).least ≡ time → IsActive trace node x → ⊥)

-- The trace shows an event after this log. A sweep is a silence of each monitored node without an alarm so far.
abbrev pub Shows : Tfpg → Logbook → List Activation → Event → Type 0
Shows graph before trace (Alarm time node) = ShowsAlarm graph before trace node time
Shows graph before trace (Silent time node) = ShowsSilence graph before trace node time
Shows graph before trace (Sweep time) =
    (node : ℕ) → IsTrue (is_monitored graph node) → IsNone (alarm_of before node)
    → ShowsSilence graph before trace node time
Shows graph before trace _ = Unit {0}

-- The trace shows each event of the log, by its index.
abbrev pub ShowsAll : Tfpg → Logbook → List Activation → Type 0
ShowsAll graph log trace =
    (index : ℕ) (event : Event) → slice_get log.events index ≡ Some event
    → Shows graph (first_events log index) trace event

-- the failure mode is a member of the set, a list of positions
abbrev pub IsMember : Tfpg → List ℕ → ℕ → Type 0
IsMember graph set node = (index : ℕ) × Contains set index × (failure_at graph index ≡ Some node)

-- The trace explains the log from the set: nothing in it is later than now, each failure mode in it is a member of the
-- set, the propagation rules hold, and it shows each event.
pub record Explains (graph : Tfpg) (log : Logbook) (set : List ℕ) (trace : List Activation) : Type 0 where
  pub trace_of : IsTraceOf graph trace
  pub by_now : All (λ activation. activation.time ≤ now_of log) trace
  pub from_set : All
      (λ activation. IsTrue (is_kind_at is_failure graph activation.node) → IsMember graph set activation.node) trace
  pub rules : KeepsRules graph log trace
  pub shows : ShowsAll graph log trace

-- Some trace explains the log from the set.
abbrev pub Fits : Tfpg → Logbook → List ℕ → Type 0
Fits graph log set = (trace : List Activation) × Explains graph log set trace
