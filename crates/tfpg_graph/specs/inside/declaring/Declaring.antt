-- What lets one thing more be declared beside what is declared.
use Rattle.std.specs.Prelude.{◌≡◌, ◌≢◌, ℕ, ◌<◌, ◌≤◌, List, [], length, None, Option, IfSome, IsTrue}
use Rattle.tfpg_base.specs.Words.{is_name}
use Rattle.tfpg_graph.specs.declared.kind.Kind.{Kind}
use Rattle.tfpg_graph.specs.declared.edge.Edge.{Edge}
use Rattle.tfpg_graph.specs.declared.limits.TheConstants.{MAX_NODES, MAX_FAILURES, MAX_EDGES, MAX_INCOMING, MAX_MODES}
use Rattle.tfpg_graph.specs.Graph.{Tfpg, is_failure, is_discrepancy, failures, incoming, node_named, mode_named, edge_from_to}
use Rattle.tfpg_base.specs.declared.limits.TheConstants.{MAX_TIME}
use Rattle.tfpg_graph.specs.Valid.{HasValidNumber, IsValidEdge}

-- There is no edge yet and room for a mode, and its name is one that no mode has.
pub record CanDeclareMode (graph : Tfpg) (name : List ℕ) : Type 0 where
  pub before_edges : graph.edges ≡ []
  pub named : IsTrue (is_name name)
  pub new : mode_named graph name ≡ None
  pub room : length graph.modes < MAX_MODES

-- There is no edge yet and room for a node of this kind, and its name is one that no node has.
pub record CanDeclareNode (graph : Tfpg) (name : List ℕ) (kind : Kind) : Type 0 where
  pub before_edges : graph.edges ≡ []
  pub named : IsTrue (is_name name)
  pub new : node_named graph name ≡ None
  pub number : HasValidNumber kind
  pub room : length graph.nodes < MAX_NODES
  pub failure_room : IsTrue (is_failure kind) → length (failures graph) < MAX_FAILURES

-- these delays are in order and within the limit
pub record AreDelays (tmin : ℕ) (tmax : Option ℕ) : Type 0 where
  pub least : tmin ≤ MAX_TIME
  pub greatest : IfSome tmax (λ time. (tmin ≤ time) × (time ≤ MAX_TIME))

-- An edge from the one node to the other is forbidden by none of the rules on its ends.
pub record CanJoin (graph : Tfpg) (source target : ℕ) : Type 0 where
  pub source_in : source < length graph.nodes
  pub target_in : target < length graph.nodes
  pub into_discrepancy : IsTrue (is_discrepancy graph target)
  pub no_self_edge : source ≢ target
  pub new : edge_from_to graph source target ≡ None

-- There is room for the edge.
pub record HasEdgeRoom (graph : Tfpg) (target : ℕ) : Type 0 where
  pub room : length graph.edges < MAX_EDGES
  pub incoming_room : length (incoming graph target) < MAX_INCOMING

-- The edge is valid and new, and there is room for it.
pub record CanDeclareEdge (graph : Tfpg) (edge : Edge) : Type 0 where
  pub valid : IsValidEdge graph edge
  pub new : edge_from_to graph edge.source edge.target ≡ None
  pub room : HasEdgeRoom graph edge.target
