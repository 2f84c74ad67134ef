-- Which graphs are valid.
use Rattle.std.specs.Prelude.{◌≡◌, ◌≢◌, ℕ, zero, suc, ◌≤◌, ◌<◌, ◌^◌, [], length, All, AllPairs, Contains, IsTrue, IfSome}
use Rattle.tfpg_base.specs.declared.limits.TheConstants.{MAX_TIME}
use Rattle.tfpg_base.specs.Words.{is_name}
use Rattle.tfpg_graph.specs.declared.kind.Kind.{Kind}
use Rattle.tfpg_graph.specs.declared.kind.Lag.{Lag}
use Rattle.tfpg_graph.specs.declared.kind.Kind.TheVariants.{Failure, Or, And}
use Rattle.tfpg_graph.specs.declared.edge.Edge.{Edge}
use Rattle.tfpg_graph.specs.declared.limits.TheConstants.{MAX_NODES, MAX_FAILURES, MAX_EDGES, MAX_INCOMING, MAX_MODES, MAX_RARITY}
use Rattle.tfpg_graph.specs.Graph.{Tfpg, is_discrepancy, failures, incoming}

-- the least lag is not above the greatest, and that is within its limit
pub record IsValidLag (lag : Lag) : Type 0 where
  pub in_order : lag.least ≤ lag.most
  pub most : lag.most ≤ MAX_TIME

-- its numbers are in order and within their limits
abbrev pub HasValidNumber : Kind → Type 0
HasValidNumber (Failure rarity) = rarity ≤ MAX_RARITY
HasValidNumber (Or lag) = IfSome lag IsValidLag
HasValidNumber (And lag) = IfSome lag IsValidLag

-- The edge goes from a node to another one that is a discrepancy, its delays are in order and within the limit, and it
-- is active in some of the graph's modes and in no other.
pub record IsValidEdge (graph : Tfpg) (edge : Edge) : Type 0 where
  pub source : edge.source < length graph.nodes
  pub target : edge.target < length graph.nodes
  pub into_discrepancy : IsTrue (is_discrepancy graph edge.target)
  pub no_self_edge : edge.source ≢ edge.target
  pub least : edge.tmin ≤ MAX_TIME
  pub greatest : IfSome edge.tmax (λ tmax. (edge.tmin ≤ tmax) × (tmax ≤ MAX_TIME))
  pub some_mode : 0 < edge.modes
  pub own_modes : edge.modes < 2 ^ length graph.modes

-- two edges with the same source and target
abbrev pub IsSamePair : Edge → Edge → Type 0
IsSamePair a b = (a.source ≡ b.source) × (a.target ≡ b.target)

-- one can go from the one node to the other over this many edges, each of which may take no time
abbrev pub WalksInNoTime : Tfpg → ℕ → ℕ → ℕ → Type 0
WalksInNoTime graph from to zero = from ≡ to
WalksInNoTime graph from to (suc steps) =
    (edge : Edge) × Contains graph.edges edge × (edge.source ≡ from) × (edge.tmin ≡ 0) × WalksInNoTime graph edge.target to steps

-- Nothing is wrong with what there is of a graph: its nodes and modes have names of the right form, each its own in its
-- space; the numbers are within their limits; each edge is valid, and no two have the same source and the same target; and
-- there is not too much of anything.
pub record IsValidSoFar (graph : Tfpg) : Type 0 where
  pub node_names : All (λ node. IsTrue (is_name node.name)) graph.nodes
  pub nodes_differ : AllPairs (λ a b. a.name ≢ b.name) graph.nodes
  pub node_numbers : All (λ node. HasValidNumber node.kind) graph.nodes
  pub mode_names : All (λ mode. IsTrue (is_name mode)) graph.modes
  pub modes_differ : AllPairs (λ a b. a ≢ b) graph.modes
  pub edges : All (IsValidEdge graph) graph.edges
  pub edges_differ : AllPairs (λ a b. IsSamePair a b → ⊥) graph.edges
  pub few_nodes : length graph.nodes ≤ MAX_NODES
  pub few_failures : length (failures graph) ≤ MAX_FAILURES
  pub few_edges : length graph.edges ≤ MAX_EDGES
  pub few_modes : length graph.modes ≤ MAX_MODES
  pub few_incoming : (node : ℕ) → length (incoming graph node) ≤ MAX_INCOMING

-- each discrepancy before this number has an edge into it
abbrev pub HasIncomingBefore : Tfpg → ℕ → Type 0
HasIncomingBefore graph end = (node : ℕ) → node < end → IsTrue (is_discrepancy graph node) → incoming graph node ≢ []

-- no cycle of edges may take no time
abbrev pub HasNoZeroCycle : Tfpg → Type 0
HasNoZeroCycle graph = (node steps : ℕ) → WalksInNoTime graph node node (suc steps) → ⊥

-- A graph is valid where nothing is missing either: each discrepancy has an edge into it, no cycle may take no time,
-- and there is a mode.
pub record IsValid (graph : Tfpg) : Type 0 where
  pub so_far : IsValidSoFar graph
  pub has_incoming : HasIncomingBefore graph (length graph.nodes)
  pub no_zero_cycle : HasNoZeroCycle graph
  pub has_mode : 0 < length graph.modes
