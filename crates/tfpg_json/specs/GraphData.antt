-- What is written for a graph as JSON. The keys of each object rise.
use Rattle.std.specs.Prelude.{ℕ, List, length, map, filter, filter_map, slice_get, ◌==◌, if◌then◌else◌, Option, Some, None, codes}
use Rattle.std.specs.List.{range_with_len}
use Rattle.std.specs.Option.{option_map_or}
use Rattle.serde_json.specs.Data.{Data, null, number, string, array, object, unsigned, Members, no_members, member}
use Rattle.serde_json.specs.View.{items_of}
use Rattle.serde_json.specs.Written.{compact_text}
use Rattle.tfpg_base.specs.Lines.{with_line_end}
use Rattle.tfpg_graph.specs.declared.kind.Kind.{Kind}
use Rattle.tfpg_graph.specs.declared.kind.Kind.TheVariants.{Failure, Or, And}
use Rattle.tfpg_graph.specs.declared.kind.Lag.{Lag}
use Rattle.tfpg_graph.specs.declared.edge.Edge.{Edge}
use Rattle.tfpg_graph.specs.Graph.{Tfpg, Node, name_word, has_mode_bit}

-- a whole number
abbrev pub whole : ℕ → Data
whole n = number (unsigned n)

-- a list of texts
abbrev pub texts : List (List ℕ) → Data
texts words = array (items_of (map string words))

-- the names of the modes whose bits these are, in the order of the modes
abbrev pub mode_names : Tfpg → ℕ → List (List ℕ)
mode_names graph bits = filter_map (slice_get graph.modes) (filter (has_mode_bit bits) (range_with_len 0 (length graph.modes)))

-- an edge, with its two nodes and each of its modes by name: the greatest delay is null where it is infinite
abbrev pub edge_data : Tfpg → Edge → Data
edge_data graph edge =
    object (member (codes "from") (string (name_word graph edge.source))
    (member (codes "max") (option_map_or whole edge.tmax null)
    (member (codes "min") (whole edge.tmin)
    (member (codes "modes") (texts (mode_names graph edge.modes))
    (member (codes "to") (string (name_word graph edge.target)) no_members)))))

-- members after the least lag, which stands only where it is not 0
abbrev pub after_least : ℕ → Members → Members
after_least least others = if least == 0 then others else member (codes "least") (whole least) others

-- a discrepancy of this kind: a monitored one has its greatest lag
abbrev pub discrepancy_data : List ℕ → List ℕ → Option Lag → Data
discrepancy_data kind name None =
    object (member (codes "kind") (string kind) (member (codes "name") (string name) no_members))
discrepancy_data kind name (Some lag) =
    object (member (codes "kind") (string kind)
    (member (codes "lag") (whole lag.most)
    (after_least lag.least (member (codes "name") (string name) no_members))))

-- a node of this name and kind
abbrev pub kind_data : List ℕ → Kind → Data
kind_data name (Failure rarity) =
    object (member (codes "kind") (string (codes "failure"))
    (member (codes "name") (string name)
    (member (codes "rarity") (whole rarity) no_members)))
kind_data name (Or lag) = discrepancy_data (codes "or") name lag
kind_data name (And lag) = discrepancy_data (codes "and") name lag

-- a graph: its edges, modes and nodes, each in their order
abbrev pub graph_data : Tfpg → Data
graph_data graph =
    object (member (codes "edges") (array (items_of (map (edge_data graph) graph.edges)))
    (member (codes "modes") (texts graph.modes)
    (member (codes "nodes") (array (items_of (map (λ node. kind_data node.name node.kind) graph.nodes))) no_members)))

-- The line that is written for a graph.
abbrev pub graph_json : Tfpg → List ℕ
graph_json graph = with_line_end (compact_text (graph_data graph))
