-- What makes a node of a trace a stranger.
use Rattle.std.specs.Prelude.{ℕ, List, IsTrue}
use Rattle.tfpg_graph.specs.Graph.{Tfpg, is_kind_at, is_failure}
use Rattle.tfpg_log.specs.Explains.{IsMember}

-- The node is a failure mode, and no member of the set.
pub record IsOutside (graph : Tfpg) (set : List ℕ) (node : ℕ) : Type 0 where
  pub failure : IsTrue (is_kind_at is_failure graph node)
  pub outside : IsMember graph set node → ⊥
