-- Cycles of edges that may take no time: which edges lie on one, and what shows that none does.
use Rattle.std.specs.Prelude.{◌≡◌, ℕ, ◌<◌, Some, All, slice_get}
use Rattle.tfpg_graph.specs.declared.edge.Edge.{Edge}
use Rattle.tfpg_graph.specs.Graph.{Tfpg}
use Rattle.tfpg_graph.specs.Valid.{WalksInNoTime}

-- The edge of this number may take no time, and one can go on from its target to its source in no time.
pub record LiesOnZeroCycle (graph : Tfpg) (number : ℕ) : Type 0 where
  pub edge : Edge
  pub numbered : slice_get graph.edges number ≡ Some edge
  pub no_time : edge.tmin ≡ 0
  pub steps : ℕ
  pub back : WalksInNoTime graph edge.target edge.source steps

-- Nodes have ranks by which each edge that may take no time goes upwards.
pub record HasZeroOrder (graph : Tfpg) : Type 0 where
  pub rank : ℕ → ℕ
  pub rises : All (λ edge. edge.tmin ≡ 0 → rank edge.source < rank edge.target) graph.edges
