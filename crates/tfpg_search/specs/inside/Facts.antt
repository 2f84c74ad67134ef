-- What alarms leave of the times of a node, and what the bounds of a node say of its facts.
use Rattle.std.specs.Prelude.{◌≡◌, ℕ, ◌≤◌, pos, Option, Some}
use Rattle.tfpg_base.specs.declared.constraint.Constraint.{Constraint}
use Rattle.tfpg_graph.specs.Graph.{Tfpg}
use Rattle.tfpg_log.specs.declared.event.Event.TheVariants.{Alarm}
use Rattle.tfpg_log.specs.declared.interval.Interval.{Interval}
use Rattle.tfpg_log.specs.Log.{Logbook, event_at, alarm_interval}
use Rattle.tfpg_evidence.specs.declared.reason.Reason.{Reason}
use Rattle.tfpg_base.specs.Bounds.{at_most, at_least}
use Rattle.tfpg_diff.specs.VariableBounds.{VariableBounds}
use Rattle.tfpg_diff.specs.Demands.{Demands, Bounded}

-- The event of this number is an alarm of the node, and leaves these instants for its activation.
pub record Leaves (graph : Tfpg) (log : Logbook) (node number : ℕ) (interval : Interval) : Type 0 where
  pub time : ℕ
  pub alarm : event_at log number ≡ Some (Alarm time node)
  pub left : alarm_interval graph log node time ≡ Some interval

-- The bounds of a node are at least as tight as each fact of it.
pub record AreFactsIn (fact : Reason → Option Constraint) (demands : Demands) (node : ℕ) : Type 0 where
  pub floors : (bounds : VariableBounds) → Bounded demands node bounds → (reason : Reason) (bound : ℕ) →
      fact reason ≡ Some (at_least node bound) → bound ≤ bounds.floor
  pub ceilings : (bounds : VariableBounds) → Bounded demands node bounds → (reason : Reason) (bound : ℕ) →
      fact reason ≡ Some (at_most node (pos bound)) → bounds.ceiling ≤ bound
