-- What is declared so far, seen as a graph, and the indexes by which it is looked up.
use Rattle.std.specs.Prelude.{◌≡◌, ℕ, ◌<◌, List, [], ◌∷◌, ◌++◌, length, map, Option, Some, slice_get}
use Rattle.tfpg_graph.specs.declared.kind.Kind.{Kind}
use Rattle.tfpg_graph.specs.declared.edge.Edge.{Edge}
use Rattle.tfpg_graph.specs.declared.declared.Declared.TheInside.{Inside}
use Rattle.tfpg_graph.specs.Graph.{Tfpg, failures, incoming, position_of_failure}
use Rattle.tfpg_graph.specs.Valid.{IsValidSoFar}

-- before anything is declared
abbrev pub nothing_declared : Tfpg
nothing_declared = record { nodes = []; edges = []; modes = [] }

-- the graph with one more node after the others
abbrev pub with_node : Tfpg → List ℕ → Kind → Tfpg
with_node graph name kind = record { nodes = graph.nodes ++ record { name = name; kind = kind } ∷ []; edges = graph.edges; modes = graph.modes }

-- the graph with one more edge after the others
abbrev pub with_edge : Tfpg → Edge → Tfpg
with_edge graph edge = record { nodes = graph.nodes; edges = graph.edges ++ edge ∷ []; modes = graph.modes }

-- the graph with one more mode after the others
abbrev pub with_mode : Tfpg → List ℕ → Tfpg
with_mode graph name = record { nodes = graph.nodes; edges = graph.edges; modes = graph.modes ++ name ∷ [] }

-- For each node the edges into it, the nodes that are failure modes, and for each node its position among these.
pub record HasIndexes (graph : Tfpg) (rows : List (List ℕ)) (failed : List ℕ) (positions : List (Option ℕ)) : Type 0 where
  pub row_count : length rows ≡ length graph.nodes
  pub row_is : (node : ℕ) → node < length graph.nodes → slice_get rows node ≡ Some (incoming graph node)
  pub failed_are : failed ≡ failures graph
  pub position_count : length positions ≡ length graph.nodes
  pub position_is : (node : ℕ) → node < length graph.nodes → slice_get positions node ≡ Some (position_of_failure graph node)

-- the graph that is declared
abbrev pub graph_of : Inside → Tfpg
graph_of d = record {
  nodes = map (λ entry. record { name = entry.0.items; kind = entry.1 }) d.nodes.entries;
  edges = d.edges.items;
  modes = map (λ name. name.items) d.modes.keys;
}

-- what holds of all that is declared
pub record IsDeclared (d : Inside) : Type 0 where
  pub indexed : HasIndexes (graph_of d) (map (λ row. row.items) d.incoming.items) d.failures.items d.positions.items
  pub so_far : IsValidSoFar (graph_of d)
