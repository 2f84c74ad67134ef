-- The least time at which a node can become active.
use Rattle.std.specs.Prelude.{◌≡◌, ℕ, ◌≤◌, List, Some}
use Rattle.tfpg_base.specs.declared.activation.Activation.{Activation}
use Rattle.tfpg_base.specs.Trace.{time_of}
use Rattle.tfpg_graph.specs.Graph.{Tfpg}
use Rattle.tfpg_log.specs.declared.event.Event.TheVariants.{Tick}
use Rattle.tfpg_log.specs.Log.{Logbook, with_event}
use Rattle.tfpg_log.specs.Explains.{Explains}

-- the log, continued to a time by a tick
abbrev pub continued : Logbook → ℕ → Logbook
continued log to = with_event log (Tick to)

-- What is asked: when at the earliest a node becomes active, by the traces that explain a log, continued to a time.
pub record Lookahead : Type 0 where
  pub graph : Tfpg
  pub log : Logbook
  pub node : ℕ
  pub to : ℕ

-- the look ahead for a node by a graph and a log, up to a time
abbrev pub lookahead_of : Tfpg → Logbook → ℕ → ℕ → Lookahead
lookahead_of graph log node to = record { graph = graph; log = log; node = node; to = to }

-- the trace explains the continued log from the set
abbrev pub ExplainsContinued : Lookahead → List ℕ → List Activation → Type 0
ExplainsContinued asked set trace = Explains asked.graph (continued asked.log asked.to) set trace

-- The time is attained by the trace, and no trace gives the node an earlier one.
pub record IsLeastTime (asked : Lookahead) (set : List ℕ) (time : ℕ) (trace : List Activation) : Type 0 where
  pub explains : ExplainsContinued asked set trace
  pub attained : time_of trace asked.node ≡ Some time
  pub least : (other : List Activation) (at : ℕ) → ExplainsContinued asked set other → time_of other asked.node ≡ Some at → time ≤ at

-- No trace activates the node.
abbrev pub HasNoTime : Lookahead → List ℕ → Type 0
HasNoTime asked set = (trace : List Activation) (time : ℕ) → ExplainsContinued asked set trace → time_of trace asked.node ≡ Some time → ⊥
