-- A probed log: an alarm of a probe says that a node became active up to a bound.
use Rattle.std.specs.Prelude.{◌≡◌, ◌↔◌, ℕ, ◌-◌, ◌<◌, ◌≤◌, List, [], ◌∷◌, ◌++◌, length, filter, not, ◌==◌, codes, decimal, Some, None}
use Rattle.tfpg_base.specs.declared.activation.Activation.{Activation}
use Rattle.tfpg_base.specs.declared.limits.TheConstants.{MAX_TIME}
use Rattle.tfpg_base.specs.Trace.{time_of}
use Rattle.tfpg_graph.specs.declared.kind.Lag.{Lag}
use Rattle.tfpg_graph.specs.declared.limits.TheConstants.{MAX_NODES, MAX_EDGES}
use Rattle.tfpg_graph.specs.Graph.{Tfpg, node_named}
use Rattle.tfpg_graph.specs.Probe.{with_probe}
use Rattle.tfpg_log.specs.declared.event.Event.TheVariants.{Alarm}
use Rattle.tfpg_log.specs.Log.{Logbook, IsLogOf, now_of}
use Rattle.tfpg_log.specs.Explains.{Explains}
use Rattle.tfpg_log.specs.Rules.{IsTraceOf}
use Rattle.tfpg_predict.specs.Kept.{kept_events}
use Rattle.tfpg_predict.specs.LeastTime.{Lookahead, ExplainsContinued}

-- the name of a probe, by its number
abbrev pub probe_word : ℕ → List ℕ
probe_word number = codes "probe." ++ decimal number

-- The number is the least one whose name no node has.
pub record IsProbeNumber (graph : Tfpg) (number : ℕ) : Type 0 where
  pub new : node_named graph (probe_word number) ≡ None
  pub taken : (lesser : ℕ) → lesser < number → node_named graph (probe_word lesser) ≡ None → ⊥

-- the lag with which an alarm at a time says that the probe became active up to a bound
abbrev pub probe_lag : ℕ → ℕ → Lag
probe_lag to bound = record { least = to - bound; most = to }

-- the log of the kept events, and then an alarm of the probe
abbrev pub probed_log : Tfpg → Logbook → ℕ → Logbook
probed_log graph log to =
    record { events = kept_events graph log ++ Alarm to (length graph.nodes) ∷ []; ignored = log.ignored }

-- A graph with a probe of a node, and a probed log of it. The name of the probe is `probe.` and the least number that makes it
-- new. The log keeps what matters of the log before, and its last event is the alarm of the probe.
pub record IsProbed (asked : Lookahead) (bound : ℕ) (graph : Tfpg) (log : Logbook) : Type 0 where
  pub number : ℕ
  pub named : IsProbeNumber asked.graph number
  pub graph_is : graph ≡ with_probe asked.graph (probe_word number) asked.node (probe_lag asked.to bound)
  pub log_is : log ≡ probed_log asked.graph asked.log asked.to

-- the trace without the probe, which is the node of this number
abbrev pub without_probe : ℕ → List Activation → List Activation
without_probe probe trace = filter (λ activation. not (activation.node == probe)) trace

-- Without the probe, the trace explains the continued log from the set; it gives the node a time of at most the bound; and it
-- gives the probe that same time.
pub record IsProbedTrace (asked : Lookahead) (bound : ℕ) (set : List ℕ) (trace : List Activation) : Type 0 where
  pub explains : ExplainsContinued asked set (without_probe (length asked.graph.nodes) trace)
  pub time : ℕ
  pub active : time_of trace asked.node ≡ Some time
  pub by_bound : time ≤ bound
  pub probe : time_of trace (length asked.graph.nodes) ≡ Some time

-- Exactly these traces explain the probed log.
abbrev pub ExplainsAsProbed : Lookahead → ℕ → Tfpg → Logbook → Type 0
ExplainsAsProbed asked bound graph log =
    (set : List ℕ) (trace : List Activation) → IsTraceOf graph trace
    → Explains graph log set trace ↔ IsProbedTrace asked bound set trace

-- The look ahead is for a node of the graph by a log of it, the time is not before now and not too late, and there is room in
-- the graph for a probe.
pub record IsProbeable (asked : Lookahead) : Type 0 where
  pub of : IsLogOf asked.graph asked.log
  pub node : asked.node < length asked.graph.nodes
  pub few_nodes : length asked.graph.nodes < MAX_NODES
  pub few_edges : length asked.graph.edges < MAX_EDGES
  pub not_back : now_of asked.log ≤ asked.to
  pub in_range : asked.to ≤ MAX_TIME
