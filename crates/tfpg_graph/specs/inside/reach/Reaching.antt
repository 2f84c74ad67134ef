-- How the reach of a set is sought: what feeds a node, and what is known of the nodes that were found so far.
use Rattle.std.specs.Prelude.{◌≡◌, ◌≤◌, ◌<◌, ◌⊎◌, ℕ, List, length, All, Contains, Some}
use Rattle.std.specs.Option.{IsSomeAnd}
use Rattle.tfpg_graph.specs.declared.kind.Kind.{Kind}
use Rattle.tfpg_graph.specs.declared.kind.Kind.TheVariants.{Failure, Or, And}
use Rattle.tfpg_graph.specs.declared.edge.Edge.{Edge}
use Rattle.tfpg_graph.specs.Graph.{Tfpg, kind_at, failure_at, edges_into}
use Rattle.tfpg_base.specs.NodeSet.{IsNodeSet}
use Rattle.tfpg_graph.specs.Reach.{Reaches}
use Rattle.tfpg_graph.specs.inside.zero_cycle.ZeroSearch.{IsStep}

-- the source of some edge into the node is one of these
abbrev pub HasSourceIn : Tfpg → List ℕ → ℕ → Type 0
HasSourceIn graph nodes node = (edge : Edge) × Contains (edges_into graph node) edge × Contains nodes edge.source

-- the source of each edge into the node is one of these
abbrev pub HasAllSourcesIn : Tfpg → List ℕ → ℕ → Type 0
HasAllSourcesIn graph nodes node = All (λ edge. Contains nodes edge.source) (edges_into graph node)

-- what a node of such a kind needs so as to be reached from these
abbrev pub IsFedAs : Tfpg → List ℕ → ℕ → Kind → Type 0
IsFedAs graph nodes node (Failure rarity) = ⊥
IsFedAs graph nodes node (Or lag) = HasSourceIn graph nodes node
IsFedAs graph nodes node (And lag) = HasAllSourcesIn graph nodes node

-- The node is a discrepancy that is reached where these nodes are.
abbrev pub IsFed : Tfpg → List ℕ → ℕ → Type 0
IsFed graph nodes node = IsSomeAnd (kind_at graph node) (IsFedAs graph nodes node)

-- each node before this number that these feed is one of these
abbrev pub IsFullBefore : Tfpg → List ℕ → ℕ → Type 0
IsFullBefore graph nodes end = (node : ℕ) → node < end → IsFed graph nodes node → Contains nodes node

-- a step leads to the node from one of these
abbrev pub LeadFrom : List (List ℕ) → List ℕ → ℕ → Type 0
LeadFrom rows sources node = (source : ℕ) × Contains sources source × IsStep rows source node

-- Each node that these feed is in the rest of a row, or a step leads to it from one that is pending, or it is one of these.
abbrev pub IsFullBut : Tfpg → List (List ℕ) → List ℕ → List ℕ → List ℕ → Type 0
IsFullBut graph rows rest pending nodes =
    (node : ℕ) → IsFed graph nodes node → Contains rest node ⊎ (LeadFrom rows pending node ⊎ Contains nodes node)

-- These nodes are reached by the set, and the set's own failure modes are among them.
pub record AreReached (graph : Tfpg) (set nodes : List ℕ) : Type 0 where
  pub is_set : IsNodeSet nodes
  pub own : (position node : ℕ) → Contains set position → failure_at graph position ≡ Some node → Contains nodes node
  pub reached : All (Reaches graph set) nodes

-- Nodes were added to a set of nodes, each of which is reached by all that reaches the old ones.
pub record Widens (graph : Tfpg) (old new : List ℕ) : Type 0 where
  pub is_set : IsNodeSet old → IsNodeSet new
  pub keeps : (node : ℕ) → Contains old node → Contains new node
  pub reached : (set : List ℕ) → All (Reaches graph set) old → All (Reaches graph set) new
  pub longer : length old ≤ length new
