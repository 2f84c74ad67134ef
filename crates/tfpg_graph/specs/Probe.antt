-- A graph with a probe: one more node, which becomes active at the same instant as another one, and whose alarm says when.
use Rattle.std.specs.Prelude.{◌≡◌, ℕ, ◌<◌, List, [], ◌∷◌, ◌++◌, length, IsTrue, Some, None}
use Rattle.tfpg_base.specs.Words.{is_name}
use Rattle.tfpg_graph.specs.declared.kind.Kind.TheVariants.{Or}
use Rattle.tfpg_graph.specs.declared.kind.Lag.{Lag}
use Rattle.tfpg_graph.specs.declared.edge.Edge.{Edge}
use Rattle.tfpg_graph.specs.declared.limits.TheConstants.{MAX_NODES, MAX_EDGES}
use Rattle.tfpg_graph.specs.Graph.{Tfpg, Node, node_named}
use Rattle.tfpg_graph.specs.Text.{all_modes}
use Rattle.tfpg_graph.specs.Valid.{IsValidLag}

-- a probe: an OR node with this name and this lag
abbrev pub probe_node : List ℕ → Lag → Node
probe_node name lag = record { name = name; kind = Or (Some lag) }

-- the edge from a node to the probe, which takes no time and is active in all modes
abbrev pub probe_edge : Tfpg → ℕ → Edge
probe_edge graph source = record { source = source; target = length graph.nodes; tmin = 0; tmax = Some 0; modes = all_modes graph }

-- the graph with a probe of this node after its other nodes, and with its edge after the other edges
abbrev pub with_probe : Tfpg → List ℕ → ℕ → Lag → Tfpg
with_probe graph name source lag = record {
  nodes = graph.nodes ++ probe_node name lag ∷ [];
  edges = graph.edges ++ probe_edge graph source ∷ [];
  modes = graph.modes;
}

-- The graph takes a probe of this node: the name is one that no node has, the lag is valid, and there is room for a node and an
-- edge.
pub record TakesProbe (graph : Tfpg) (name : List ℕ) (source : ℕ) (lag : Lag) : Type 0 where
  pub source_in : source < length graph.nodes
  pub named : IsTrue (is_name name)
  pub new : node_named graph name ≡ None
  pub lag_valid : IsValidLag lag
  pub node_room : length graph.nodes < MAX_NODES
  pub edge_room : length graph.edges < MAX_EDGES
