-- The budget that is always enough.
use Rattle.std.specs.Prelude.{◌≡◌, ◌≢◌, ◌↔◌, ℕ, ◌^◌, ◌≤◌, List, length, AllPairs, Contains, Some}
use Rattle.tfpg_base.specs.declared.constraint.Constraint.{Constraint}
use Rattle.tfpg_graph.specs.Graph.{Tfpg, edges_into}
use Rattle.tfpg_log.specs.declared.event.Event.{Event}
use Rattle.tfpg_log.specs.Log.{Logbook, time_of_event}
use Rattle.tfpg_evidence.specs.declared.clause_name.ClauseName.{ClauseName}
use Rattle.tfpg_clause.specs.Clauses.{alternatives, alternatives_limit}
use Rattle.tfpg_clause.specs.Order.{horizon_of}

-- some accepted event has this time
pub record IsEventTime (log : Logbook) (time : ℕ) : Type 0 where
  pub event : Event
  pub accepted : Contains log.events event
  pub at : time_of_event event ≡ time

-- The clause of the name is allowed at the log, and its horizon is the time of an accepted event.
pub record IsNameAt (graph : Tfpg) (log : Logbook) (name : ClauseName) : Type 0 where
  pub clause : List (List Constraint)
  pub allowed : alternatives graph log name ≡ Some clause
  pub horizon : IsEventTime log (horizon_of name)

-- all such names, each once
pub record AreNamesAt (graph : Tfpg) (log : Logbook) (names : List ClauseName) : Type 0 where
  pub once : AllPairs ◌≢◌ names
  pub exact : (name : ClauseName) → Contains names name ↔ IsNameAt graph log name

-- the greatest number of edges into a node
pub record IsMaximumIncoming (graph : Tfpg) (maximum : ℕ) : Type 0 where
  pub within : (node : ℕ) → length (edges_into graph node) ≤ maximum
  pub node : ℕ
  pub reached : length (edges_into graph node) ≡ maximum

-- The budget is at least the number that is always enough: where `maximum` edges enter a node at most, a clause has fewer than
-- `alternatives_limit maximum` alternatives, and this number to the power of how many names there are is enough.
pub record IsEnough (graph : Tfpg) (log : Logbook) (budget : ℕ) : Type 0 where
  pub maximum : ℕ
  pub incoming : IsMaximumIncoming graph maximum
  pub names : List ClauseName
  pub names_are : AreNamesAt graph log names
  pub enough : alternatives_limit maximum ^ length names ≤ budget
