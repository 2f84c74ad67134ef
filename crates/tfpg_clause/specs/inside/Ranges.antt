-- Alarms whose parts fit the numbers of a constraint.
use Rattle.std.specs.Prelude.{◌*◌, ◌<◌, ◌≤◌, length, IfSome}
use Rattle.tfpg_base.specs.declared.limits.TheConstants.{MAX_TIME}
use Rattle.tfpg_graph.specs.declared.edge.Edge.{Edge}
use Rattle.tfpg_graph.specs.declared.limits.TheConstants.{MAX_NODES}
use Rattle.tfpg_graph.specs.Graph.{Tfpg}
use Rattle.tfpg_clause.specs.declared.due.EdgeDue.{EdgeDue}
use Rattle.tfpg_log.specs.declared.span.Span.{Span}
use Rattle.tfpg_log.specs.declared.span.Window.{Window}
use Rattle.tfpg_log.specs.declared.event.Event.{Event}
use Rattle.tfpg_log.specs.declared.event.Event.TheVariants.{Alarm, Silent, Sweep, Tick, Mode}

-- an alarm is of a node of the graph, of which there are few, and its time is in range
abbrev pub IsSmallAlarm : Tfpg → Event → Type 0
IsSmallAlarm graph (Alarm time node) = (node < length graph.nodes) × (node < MAX_NODES) × (time ≤ MAX_TIME)
IsSmallAlarm graph (Silent time node) = Unit {0}
IsSmallAlarm graph (Sweep time) = Unit {0}
IsSmallAlarm graph (Tick time) = Unit {0}
IsSmallAlarm graph (Mode time mode) = Unit {0}

-- the nodes of an edge are few enough, and its delays in range
pub record IsSmallEdge (edge : Edge) : Type 0 where
  pub source : edge.source < MAX_NODES
  pub target : edge.target < MAX_NODES
  pub tmin : edge.tmin ≤ MAX_TIME
  pub tmax : IfSome edge.tmax (λ tmax. tmax ≤ MAX_TIME)

-- a span is in order, and up to the last time
pub record IsSmallSpan (span : Span) : Type 0 where
  pub in_order : span.lo ≤ span.hi
  pub in_range : span.hi ≤ MAX_TIME

-- a window is too
pub record IsSmallWindow (window : Window) : Type 0 where
  pub in_order : window.lo ≤ window.hi
  pub in_range : window.hi ≤ MAX_TIME

-- what is due over an edge names few nodes, and its times are in range
pub record IsSmallDue (due : EdgeDue) : Type 0 where
  pub source : due.source < MAX_NODES
  pub target : due.target < MAX_NODES
  pub tmax : due.tmax ≤ MAX_TIME
  pub by : due.by ≤ 2 * MAX_TIME
