-- The data of a valid graph is written so that it is read back.
use Rattle.std.proofs.Common.{ℕ, ◌<◌, ◌≤◌, ◌^◌, ◌==◌, if◌then◌else◌, Bool, true, false, List, [], ◌∷◌, map, All, IsTrue, Option, Some, None, IfSome, codes, refl, arith}
use Rattle.std.proofs.lemmas.List.Elements.{All-head, All-tail, All-weaker}
use Rattle.std.specs.Option.{option_map_or}
use Rattle.serde_json.specs.Data.{Data, null, string, no_members, member, object}
use Rattle.serde_json.specs.View.{items_of}
use Rattle.tfpg_base.specs.declared.limits.TheConstants.{MAX_TIME}
use Rattle.tfpg_base.specs.Words.{is_name}
use Rattle.tfpg_base.proofs.lemmas.lists.Passing.{All-filter_map-slice_get}
use Rattle.tfpg_graph.specs.declared.kind.Kind.{Kind}
use Rattle.tfpg_graph.specs.declared.kind.Kind.TheVariants.{Failure, Or, And}
use Rattle.tfpg_graph.specs.declared.kind.Lag.{Lag}
use Rattle.tfpg_graph.specs.declared.edge.Edge.{Edge}
use Rattle.tfpg_graph.specs.Graph.{Tfpg, Node, name_word}
use Rattle.tfpg_graph.specs.Valid.{IsValid, IsValidEdge, IsValidLag, HasValidNumber}
use Rattle.tfpg_graph.proofs.lemmas.reading.spelling.SpelledEdges.{is_name-name_word}
use Rattle.tfpg_json.specs.GraphData.{whole, texts, mode_names, edge_data, discrepancy_data, kind_data, graph_data}
use Rattle.tfpg_json.proofs.lemmas.NameTexts.{each_name_byte}
use Rattle.tfpg_json.proofs.lemmas.read_back.WrittenData.{IsWritten, AreWritten, AreNameBytes}

-- a name has bytes of names
named : (name : List ℕ) → IsTrue (is_name name) → AreNameBytes name
named name is = each_name_byte name is

-- lists of what is written
each_written : {X : Type 0} (f : X → Data) (deep : ℕ) (xs : List X) → All (λ x. IsWritten (f x) deep) xs → AreWritten (items_of (map f xs)) deep
each_written f deep [] all = tt
each_written f deep (x ∷ xs) all = (All-head (λ y. IsWritten (f y) deep) x xs all, each_written f deep xs (All-tail (λ y. IsWritten (f y) deep) x xs all))

names_written : (names : List (List ℕ)) → All (λ name. IsTrue (is_name name)) names → IsWritten (texts names) 1
names_written names all = each_written string 0 names (All-weaker (λ name. IsTrue (is_name name)) (λ name. IsWritten (string name) 0) named names all)

greatest_written : (tmax : Option ℕ) (tmin : ℕ) → IfSome tmax (λ time. (tmin ≤ time) × (time ≤ MAX_TIME)) → IsWritten (option_map_or whole tmax null) 1
greatest_written None tmin small = tt
greatest_written (Some tmax) tmin small = omega (arith, small.1)

-- the names of an edge's modes are names
pub modes_named : (graph : Tfpg) (bits : ℕ) → All (λ mode. IsTrue (is_name mode)) graph.modes → All (λ mode. IsTrue (is_name mode)) (mode_names graph bits)
modes_named graph bits all = All-filter_map-slice_get (λ mode. IsTrue (is_name mode)) graph.modes all _

edge_written : (graph : Tfpg) (edge : Edge) → All (λ node. IsTrue (is_name node.name)) graph.nodes → All (λ mode. IsTrue (is_name mode)) graph.modes → IsValidEdge graph edge
    → IsWritten (edge_data graph edge) 2
edge_written graph edge nodes modes valid = (
  (refl, (refl, (refl, (refl, (refl, tt))))),
  (
    refl,
    named (name_word graph edge.source) (is_name-name_word graph edge.source valid.source nodes),
    (
      refl,
      greatest_written edge.tmax edge.tmin valid.greatest,
      (
        refl,
        omega (arith, valid.least),
        (
          refl,
          names_written (mode_names graph edge.modes) (modes_named graph edge.modes modes),
          (refl, named (name_word graph edge.target) (is_name-name_word graph edge.target valid.target nodes), tt),
        ),
      ),
    ),
  ),
)

lag_written : (kind name : List ℕ) (lag : Lag) → AreNameBytes kind → IsTrue (is_name name) → IsValidLag lag → IsWritten (discrepancy_data kind name (Some lag)) 2
lag_written kind name lag of_kind is small = by (lag.least == 0)
  where
    most : lag.most < 2 ^ 64
    most = omega (arith, small.most)

    least : lag.least < 2 ^ 64
    least = omega (arith, small.most, small.in_order)

    by : (none : Bool) → IsWritten (object (member (codes "kind") (string kind) (member (codes "lag") (whole lag.most)
        (if none then member (codes "name") (string name) no_members else member (codes "least") (whole lag.least) (member (codes "name") (string name) no_members))))) 2
    by true = ((refl, (refl, (refl, tt))), (refl, of_kind, (refl, most, (refl, named name is, tt))))
    by false = ((refl, (refl, (refl, (refl, tt)))), (refl, of_kind, (refl, most, (refl, least, (refl, named name is, tt)))))

discrepancy_written : (kind name : List ℕ) (lag : Option Lag) → AreNameBytes kind → IsTrue (is_name name) → IfSome lag IsValidLag → IsWritten (discrepancy_data kind name lag) 2
discrepancy_written kind name None of_kind is small = ((refl, (refl, tt)), (refl, of_kind, (refl, named name is, tt)))
discrepancy_written kind name (Some lag) of_kind is small = lag_written kind name lag of_kind is small

kind_written : (name : List ℕ) (kind : Kind) → IsTrue (is_name name) → HasValidNumber kind → IsWritten (kind_data name kind) 2
kind_written name (Failure rarity) is small = ((refl, (refl, (refl, tt))), (refl, refl, (refl, named name is, (refl, omega arith, tt))))
kind_written name (Or lag) is small = discrepancy_written (codes "or") name lag refl is small
kind_written name (And lag) is small = discrepancy_written (codes "and") name lag refl is small

-- The data of a valid graph is so.
pub graph_written : (graph : Tfpg) → IsValid graph → IsWritten (graph_data graph) 4
graph_written graph valid =
    let so_far = valid.so_far in (
      (refl, (refl, (refl, tt))),
      (
        refl,
        each_written (edge_data graph) 2 graph.edges
            (All-weaker (IsValidEdge graph) (λ edge. IsWritten (edge_data graph edge) 2) (λ edge own. edge_written graph edge so_far.node_names so_far.mode_names own) graph.edges so_far.edges),
        (
          refl,
          each_written string 2 graph.modes (All-weaker (λ name. IsTrue (is_name name)) (λ name. IsWritten (string name) 2) named graph.modes so_far.mode_names),
          (refl, each_written (λ (node : Node). kind_data node.name node.kind) 2 graph.nodes (λ k d within. kind_written _ _ (so_far.node_names k d within) (so_far.node_numbers k d within)), tt),
        ),
      ),
    )
