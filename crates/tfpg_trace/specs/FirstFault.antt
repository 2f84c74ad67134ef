-- The first fault of a trace: first of times after now, then of strangers, then of the rules, node by node, and then of
-- the events in their order.
use Rattle.std.specs.Prelude.{◌≡◌, ℕ, ◌<◌, List, length, IsTrue, Some, slice_get}
use Rattle.tfpg_base.specs.declared.activation.Activation.{Activation}
use Rattle.tfpg_base.specs.Trace.{time_of}
use Rattle.tfpg_graph.specs.Graph.{Tfpg, is_kind_at, is_failure}
use Rattle.tfpg_log.specs.declared.event.Event.{Event}
use Rattle.tfpg_log.specs.declared.event.Event.TheVariants.{Alarm}
use Rattle.tfpg_log.specs.Log.{Logbook, now_of, first_events, silence_time}
use Rattle.tfpg_log.specs.Rules.{KeepsRulesOf}
use Rattle.tfpg_log.specs.Explains.{IsMember, ShowsAlarm, ShowsSilence, ShowsAll, Explains}
use Rattle.tfpg_trace.specs.declared.verdict.Verdict.{Verdict}
use Rattle.tfpg_trace.specs.declared.verdict.Verdict.TheVariants as verdict
use Rattle.tfpg_trace.specs.Broken.{BreaksMay, FirstBreaksMust}

-- The trace gives the node this time, which is after now.
pub record IsLate (log : Logbook) (trace : List Activation) (node time : ℕ) : Type 0 where
  pub at : time_of trace node ≡ Some time
  pub late : now_of log < time

-- The trace gives this time to the node, which is a failure mode and no member of the set.
pub record IsStranger (graph : Tfpg) (set : List ℕ) (trace : List Activation) (node time : ℕ) : Type 0 where
  pub at : time_of trace node ≡ Some time
  pub failure : IsTrue (is_kind_at is_failure graph node)
  pub outside : IsMember graph set node → ⊥

-- no node before this one has this at any time
abbrev pub NoneBefore : (ℕ → ℕ → Type 0) → ℕ → Type 0
NoneBefore Has end = (node time : ℕ) → node < end → Has node time → ⊥

-- This node, among so many, is the first that has this, and has it at this time.
pub record IsFirstNode (Has : ℕ → ℕ → Type 0) (end node time : ℕ) : Type 0 where
  pub in_range : node < end
  pub has : Has node time
  pub first : NoneBefore Has node

-- No node of the graph is late, none is a stranger, and none before this one breaks a rule.
pub record IsFaultlessBefore (graph : Tfpg) (log : Logbook) (set : List ℕ) (trace : List Activation)
    (end : ℕ) : Type 0 where
  pub on_time : NoneBefore (IsLate log trace) (length graph.nodes)
  pub from_set : NoneBefore (IsStranger graph set trace) (length graph.nodes)
  pub rules : (node : ℕ) → node < end → KeepsRulesOf graph log trace node

-- No node of the graph is late or a stranger, and none breaks a rule. This is the event at the index, and the trace shows
-- those before it.
pub record IsFaultlessUpTo (graph : Tfpg) (log : Logbook) (set : List ℕ) (trace : List Activation)
    (index : ℕ) (event : Event) : Type 0 where
  pub nodes : IsFaultlessBefore graph log set trace (length graph.nodes)
  pub at : slice_get log.events index ≡ Some event
  pub before : ShowsAll graph (first_events log index) trace

-- The event, after this log, is a silence of the node at this time, and is not shown. No node before has such a silence.
pub record IsSilenceNotShown (graph : Tfpg) (before : Logbook) (trace : List Activation) (event : Event)
    (node time : ℕ) : Type 0 where
  pub silent : silence_time graph before event node ≡ Some time
  pub not_shown : ShowsSilence graph before trace node time → ⊥
  pub first : (earlier : ℕ) → earlier < node → silence_time graph before event earlier ≡ Some time
      → ShowsSilence graph before trace earlier time

-- What is said of a trace: that it explains the log from the set, or its first fault. That is the first node with a time
-- after now; or else the first stranger; or else the first node that breaks a rule, which is the may rule, or the must rule
-- alone, at the first such instant; or else the first event that is not shown, which is an alarm or a silence, of a sweep
-- that of the first such node.
abbrev pub IsVerdict : Tfpg → Logbook → List ℕ → List Activation → Verdict → Type 0
IsVerdict graph log set trace verdict.Yes = Explains graph log set trace
IsVerdict graph log set trace (verdict.Late node time) = IsFirstNode (IsLate log trace) (length graph.nodes) node time
IsVerdict graph log set trace (verdict.Stranger node time) =
    NoneBefore (IsLate log trace) (length graph.nodes)
    × IsFirstNode (IsStranger graph set trace) (length graph.nodes) node time
IsVerdict graph log set trace (verdict.May node time) =
    (node < length graph.nodes) × IsFaultlessBefore graph log set trace node × BreaksMay graph log trace node time
IsVerdict graph log set trace (verdict.Must node time) =
    (node < length graph.nodes) × IsFaultlessBefore graph log set trace node
    × ((instant : ℕ) → BreaksMay graph log trace node instant → ⊥) × FirstBreaksMust graph log trace node time
IsVerdict graph log set trace (verdict.Alarm node time) =
    (index : ℕ) × IsFaultlessUpTo graph log set trace index (Alarm time node)
    × (ShowsAlarm graph log trace node time → ⊥)
IsVerdict graph log set trace (verdict.Silence node time) =
    (index : ℕ) × (event : Event) × IsFaultlessUpTo graph log set trace index event
    × IsSilenceNotShown graph (first_events log index) trace event node time
