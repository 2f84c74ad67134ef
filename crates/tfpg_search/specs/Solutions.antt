-- Solutions at a leaf, and the latest of them.
use Rattle.std.specs.Prelude.{◌≡◌, ℕ, ◌<◌, ◌≤◌, List, length, Some, slice_index}
use Rattle.tfpg_base.specs.declared.constraint.Constraint.{Constraint}
use Rattle.tfpg_base.specs.Constraint.{Meets}
use Rattle.tfpg_evidence.specs.declared.reason.Reason.{Reason}
use Rattle.tfpg_clause.specs.Case.{Case}
use Rattle.tfpg_clause.specs.Facts.{fact}
use Rattle.tfpg_clause.specs.Trees.{Chosen, picked}

-- The times solve what holds at the leaf of this path: there is one for each node, and they meet each fact of the log and each
-- constraint that is picked at some split.
pub record SolvesAt (case : Case) (path : List Chosen) (times : List ℕ) : Type 0 where
  pub one_each : length times ≡ length case.graph.nodes
  pub facts : (reason : Reason) (constraint : Constraint) → fact case reason ≡ Some constraint
      → Meets times constraint
  pub picks : (split number : ℕ) (constraint : Constraint)
      → picked case.graph case.log path split number ≡ Some constraint → Meets times constraint

-- The times are the latest that solve it: no other solution gives any node a later time.
pub record IsLatestAt (case : Case) (path : List Chosen) (times : List ℕ) : Type 0 where
  pub solves : SolvesAt case path times
  pub latest : (other : List ℕ) → SolvesAt case path other → (node : ℕ) → node < length case.graph.nodes
      → slice_index other node ≤ slice_index times node
