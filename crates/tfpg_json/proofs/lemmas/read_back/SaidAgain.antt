-- The data of a graph says the graph: its modes and nodes, and its edges by names.
use Rattle.std.proofs.Common.{◌≡◌, ℕ, ◌==◌, if◌then◌else◌, Bool, true, false, List, [], ◌∷◌, map, Option, Some, None, codes, refl, sym, ap, ◌∙◌}
use Rattle.std.specs.List.{list_all}
use Rattle.std.specs.Option.{option_map, option_map_or, option_and_then}
use Rattle.std.proofs.lemmas.Bool.{eqb-true, and_from}
use Rattle.std.proofs.lemmas.List.{map-id}
use Rattle.std.proofs.lemmas.List.Elements.{All-map, All-weaker}
use Rattle.std.proofs.lemmas.List.Sums.{list_all-from_AllPass}
use Rattle.serde_json.specs.Data.{Data, null, string, array, no_members, member, object}
use Rattle.serde_json.specs.Find.{as_str}
use Rattle.serde_json.specs.View.{items_of}
use Rattle.tfpg_base.specs.Choice.{each_of}
use Rattle.tfpg_base.specs.Words.{is_name}
use Rattle.tfpg_graph.specs.declared.kind.Kind.{Kind}
use Rattle.tfpg_graph.specs.declared.kind.Kind.TheVariants.{Failure, Or, And}
use Rattle.tfpg_graph.specs.declared.kind.Lag.{Lag}
use Rattle.tfpg_graph.specs.declared.edge.Edge.{Edge}
use Rattle.tfpg_graph.specs.Graph.{Tfpg, Node, name_word}
use Rattle.tfpg_graph.specs.Valid.{IsValid, IsValidEdge}
use Rattle.tfpg_graph.proofs.lemmas.reading.spelling.SpelledEdges.{is_name-name_word}
use Rattle.tfpg_json.specs.GraphData.{whole, texts, mode_names, edge_data, kind_data, graph_data}
use Rattle.tfpg_json.specs.GraphSaid.{EdgeSaid, GraphSaid, list_of, each_in, number_from, unless_null, node_in, edge_from, graph_in, has_edge_names, has_names}
use Rattle.tfpg_json.proofs.lemmas.read_back.WrittenGraphs.{modes_named}

-- what is said of an edge
abbrev pub edge_said : Tfpg → Edge → EdgeSaid
edge_said graph edge = record {
  source = name_word graph edge.source;
  target = name_word graph edge.target;
  tmin = edge.tmin;
  tmax = edge.tmax;
  modes = Some (mode_names graph edge.modes);
}

-- what is said of a graph
abbrev pub said_of : Tfpg → GraphSaid
said_of graph = record { modes = graph.modes; nodes = graph.nodes; edges = map (edge_said graph) graph.edges }

-- a list of what is read, item by item
each_in-made : {X Y : Type 0} (read : Data → Option X) (make : Y → Data) (value : Y → X) → ((y : Y) → read (make y) ≡ Some (value y)) → (ys : List Y)
    → each_in read (array (items_of (map make ys))) ≡ Some (map value ys)
each_in-made read make value same [] = refl
each_in-made read make value same (y ∷ ys) =
    ap (λ found. each_of (found ∷ map read (list_of (items_of (map make ys))))) (same y)
    ∙ ap (option_map (λ xs. value y ∷ xs)) (each_in-made read make value same ys)

-- the texts of a list
texts_in : (names : List (List ℕ)) → each_in as_str (texts names) ≡ Some names
texts_in names = each_in-made as_str string (λ name. name) (λ name. refl) names ∙ ap Some (map-id names)

-- ---- nodes

-- a monitored discrepancy, by whether its least lag is 0
abbrev monitored : List ℕ → List ℕ → Lag → Bool → Data
monitored kind name lag none =
    object (member (codes "kind") (string kind) (member (codes "lag") (whole lag.most)
    (if none then member (codes "name") (string name) no_members else member (codes "least") (whole lag.least) (member (codes "name") (string name) no_members))))

or_monitored : (name : List ℕ) (lag : Lag) (none : Bool) → (lag.least == 0) ≡ none → node_in (monitored (codes "or") name lag none) ≡ Some (record { name = name; kind = Or (Some lag) })
or_monitored name lag true is = λ i. Some (record { name = name; kind = Or (Some (record { least = sym (eqb-true lag.least 0 is) i; most = lag.most })) })
or_monitored name lag false is = refl

and_monitored : (name : List ℕ) (lag : Lag) (none : Bool) → (lag.least == 0) ≡ none → node_in (monitored (codes "and") name lag none) ≡ Some (record { name = name; kind = And (Some lag) })
and_monitored name lag true is = λ i. Some (record { name = name; kind = And (Some (record { least = sym (eqb-true lag.least 0 is) i; most = lag.most })) })
and_monitored name lag false is = refl

kind_again : (name : List ℕ) (kind : Kind) → node_in (kind_data name kind) ≡ Some (record { name = name; kind = kind })
kind_again name (Failure rarity) = refl
kind_again name (Or None) = refl
kind_again name (Or (Some lag)) = or_monitored name lag (lag.least == 0) refl
kind_again name (And None) = refl
kind_again name (And (Some lag)) = and_monitored name lag (lag.least == 0) refl

node_again : (node : Node) → node_in (kind_data node.name node.kind) ≡ Some node
node_again node = kind_again node.name node.kind

-- ---- edges

greatest_again : (tmax : Option ℕ) → unless_null number_from (option_map_or whole tmax null) ≡ Some tmax
greatest_again None = refl
greatest_again (Some tmax) = refl

edge_again : (graph : Tfpg) (edge : Edge) → edge_from (edge_data graph edge) ≡ Some (edge_said graph edge)
edge_again graph edge =
    λ i. option_and_then (λ (tmax : Option ℕ). option_and_then (λ (modes : Option (List (List ℕ))). Some (record {
      source = name_word graph edge.source;
      target = name_word graph edge.target;
      tmin = edge.tmin;
      tmax = tmax;
      modes = modes;
    })) (option_map Some (texts_in (mode_names graph edge.modes) i))) (greatest_again edge.tmax i)

-- ---- graphs

-- The data of a graph says it.
pub graph_again : (graph : Tfpg) → graph_in (graph_data graph) ≡ Some (said_of graph)
graph_again graph =
    λ i. option_and_then (λ (modes : List (List ℕ)). option_and_then (λ (nodes : List Node). option_and_then (λ (edges : List EdgeSaid). Some (record {
      modes = modes;
      nodes = nodes;
      edges = edges;
    })) (each_in-made edge_from (edge_data graph) (edge_said graph) (edge_again graph) graph.edges i))
    ((each_in-made node_in (λ (node : Node). kind_data node.name node.kind) (λ node. node) node_again graph.nodes ∙ ap Some (map-id graph.nodes)) i))
    (texts_in graph.modes i)

edge_named : (graph : Tfpg) (edge : Edge) → IsValid graph → IsValidEdge graph edge → has_edge_names (edge_said graph edge) ≡ true
edge_named graph edge valid own =
    and_from (is_name (name_word graph edge.source)) _ (is_name-name_word graph edge.source own.source valid.so_far.node_names)
    (and_from (is_name (name_word graph edge.target)) _ (is_name-name_word graph edge.target own.target valid.so_far.node_names)
    (list_all-from_AllPass is_name (mode_names graph edge.modes) (modes_named graph edge.modes valid.so_far.mode_names)))

-- And each name in it has the form of one.
pub said_named : (graph : Tfpg) → IsValid graph → has_names (said_of graph) ≡ true
said_named graph valid =
    and_from (list_all is_name graph.modes) _ (list_all-from_AllPass is_name graph.modes valid.so_far.mode_names)
    (and_from (list_all (λ node. is_name node.name) graph.nodes) _ (list_all-from_AllPass (λ node. is_name node.name) graph.nodes valid.so_far.node_names)
    (list_all-from_AllPass has_edge_names (map (edge_said graph) graph.edges)
    (All-map (λ said. has_edge_names said ≡ true) (edge_said graph) graph.edges
    (All-weaker (IsValidEdge graph) (λ edge. has_edge_names (edge_said graph edge) ≡ true) (λ edge own. edge_named graph edge valid own) graph.edges valid.so_far.edges))))
