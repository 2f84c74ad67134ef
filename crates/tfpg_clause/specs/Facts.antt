-- Facts: constraints that every trace meets which explains the log from a set with this reach.
use Rattle.std.specs.Prelude.{◌≡◌, ℕ, ◌≤◌, ◌+◌, pos, length, not, ◌&&◌, nat_lt, nat_le, Option, Some, None, option_map, option_and_then}
use Rattle.std.specs.Bool.{then_some}
use Rattle.tfpg_base.specs.declared.limits.TheConstants.{NEVER}
use Rattle.tfpg_base.specs.declared.constraint.Constraint.{Constraint}
use Rattle.tfpg_graph.specs.Graph.{Tfpg}
use Rattle.tfpg_graph.specs.Reach.{is_among}
use Rattle.tfpg_log.specs.declared.event.Event.{Event}
use Rattle.tfpg_log.specs.declared.event.Event.TheVariants.{Alarm}
use Rattle.tfpg_log.specs.Log.{Logbook, now_of, event_at, alarm_interval, quiet_at}
use Rattle.tfpg_evidence.specs.declared.reason.Reason.{Reason}
use Rattle.tfpg_evidence.specs.declared.reason.Reason.TheVariants.{Zero, Top, Unreached, From, Upto, Quiet, Pick}
use Rattle.tfpg_base.specs.Bounds.{at_most, at_least}
use Rattle.tfpg_clause.specs.Case.{Case}

-- The node did not become active before the instants that its alarm leaves.
abbrev pub from_alarm : Tfpg → Logbook → Event → Option Constraint
from_alarm graph log (Alarm time node) =
    option_map (λ interval. at_least node interval.earliest) (alarm_interval graph log node time)
from_alarm graph log _ = None

-- The node did not become active after the instants that its alarm leaves.
abbrev pub upto_alarm : Tfpg → Logbook → Event → Option Constraint
upto_alarm graph log (Alarm time node) =
    option_map (λ interval. at_most node (pos interval.latest)) (alarm_interval graph log node time)
upto_alarm graph log _ = None

-- The constraint that a reason states, where it is a fact of the log and of a set that reaches these nodes.
abbrev pub fact : Case → Reason → Option Constraint
fact case (Zero node) = then_some (nat_lt node (length case.graph.nodes)) (at_least node 0)
fact case (Top node) = then_some (nat_lt node (length case.graph.nodes)) (at_most node (pos NEVER))
fact case (Unreached node horizon) =
    then_some
    (nat_lt node (length case.graph.nodes) && (nat_le horizon (now_of case.log) && not (is_among case.reach node)))
    (at_least node (horizon + 1))
fact case (From event) = option_and_then (from_alarm case.graph case.log) (event_at case.log event)
fact case (Upto event) = option_and_then (upto_alarm case.graph case.log) (event_at case.log event)
fact case (Quiet event node) =
    option_map (λ time. at_least node (time + 1)) (quiet_at case.graph case.log event node)
fact case (Pick split number) = None

-- This is the greatest lower bound that the facts give the node.
pub record IsLow (case : Case) (node low : ℕ) : Type 0 where
  pub reason : Reason
  pub stated : fact case reason ≡ Some (at_least node low)
  pub greatest : (other : Reason) (bound : ℕ) → fact case other ≡ Some (at_least node bound) → bound ≤ low

-- This is the least upper bound that the facts give the node.
pub record IsHigh (case : Case) (node high : ℕ) : Type 0 where
  pub reason : Reason
  pub stated : fact case reason ≡ Some (at_most node (pos high))
  pub least : (other : Reason) (bound : ℕ) → fact case other ≡ Some (at_most node (pos bound)) → high ≤ bound
