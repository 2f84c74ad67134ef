-- Which nodes a set of failure modes can reach, whatever the times.
use Rattle.std.specs.Prelude.{ℕ, List, All, Contains, Bool, ◌==◌, IsTrue, IfSome, ◌↔◌}
use Rattle.std.specs.List.{list_any}
use Rattle.tfpg_base.specs.Set.{Rises}
use Rattle.tfpg_graph.specs.declared.edge.Edge.{Edge}
use Rattle.tfpg_graph.specs.Graph.{Tfpg, is_kind_at, is_or, is_and, failure_at, edges_into}

-- A test on nodes is closed where it passes the failure modes of the set, given by their positions, each OR
-- node with a source that it passes, and each AND node all of whose sources it passes.
pub record IsClosed (graph : Tfpg) (set : List ℕ) (test : ℕ → Bool) : Type 0 where
  pub members : All (λ position. IfSome (failure_at graph position) (λ node. IsTrue (test node))) set
  pub or_nodes : (node : ℕ) → IsTrue (is_kind_at is_or graph node) → (edge : Edge) → Contains (edges_into graph node) edge → IsTrue (test edge.source) → IsTrue (test node)
  pub and_nodes : (node : ℕ) → IsTrue (is_kind_at is_and graph node) → All (λ edge. IsTrue (test edge.source)) (edges_into graph node) → IsTrue (test node)

-- The set reaches the node: each closed test passes it. So what it reaches is the least closed set.
abbrev pub Reaches : Tfpg → List ℕ → ℕ → Type 0
Reaches graph set node = (test : ℕ → Bool) → IsClosed graph set test → IsTrue (test node)

-- These are the nodes that the set reaches, rising.
pub record IsReach (graph : Tfpg) (set nodes : List ℕ) : Type 0 where
  pub rising : Rises nodes
  pub exact : (node : ℕ) → Contains nodes node ↔ Reaches graph set node

-- the test of being one of these nodes
abbrev pub is_among : List ℕ → ℕ → Bool
is_among nodes node = list_any (λ other. node == other) nodes
