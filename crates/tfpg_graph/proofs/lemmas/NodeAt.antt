-- What stands at a node.
use Rattle.std.proofs.Common.{◌≡◌, ℕ, ◌<◌, Bool, true, false, not, List, length, Option, Some, None, is_some, IsTrue, slice_get, refl, sym, ap, ◌∙◌}
use Rattle.std.specs.Option.{option_map, option_map_or, option_and_then}
use Rattle.std.proofs.lemmas.Bool.{false≢true}
use Rattle.std.proofs.lemmas.Option.{slice_get_within}
use Rattle.tfpg_graph.specs.declared.kind.Kind.{Kind}
use Rattle.tfpg_graph.specs.declared.kind.Kind.TheVariants.{Failure, Or, And}
use Rattle.tfpg_graph.specs.Graph.{Tfpg, Node, is_failure, is_or, is_and, name_at, kind_at, is_kind_at, is_monitored, lag_of}

-- a node is its name and its kind
pub node_at : (graph : Tfpg) (node : ℕ) (name : List ℕ) (kind : Kind) → name_at graph node ≡ Some name → kind_at graph node ≡ Some kind
    → slice_get graph.nodes node ≡ Some (record { name = name; kind = kind })
node_at graph node name kind = by (slice_get graph.nodes node)
  where
    by : (o : Option Node) → option_map (λ n. n.name) o ≡ Some name → option_map (λ n. n.kind) o ≡ Some kind → o ≡ Some (record { name = name; kind = kind })
    by None named of_kind = cc
    by (Some node) named of_kind =
        let a : node.name ≡ name = cc in
        let b : node.kind ≡ kind = cc in
        λ i. Some (record { name = a i; kind = b i })

-- a node of some kind is a node of the graph
pub kind_within : (graph : Tfpg) (test : Kind → Bool) (node : ℕ) → is_kind_at test graph node ≡ true → node < length graph.nodes
kind_within graph test node is = by (slice_get graph.nodes node) refl is
  where
    by : (found : Option Node) → slice_get graph.nodes node ≡ found → option_map_or test (option_map (λ (n : Node). n.kind) found) false ≡ true
        → node < length graph.nodes
    by None none passes = absurd (false≢true passes)
    by (Some n) at passes = slice_get_within graph.nodes node n at

-- a monitored node is a node of the graph
pub monitored_within : (graph : Tfpg) (node : ℕ) → IsTrue (is_monitored graph node) → node < length graph.nodes
monitored_within graph node monitored = by (slice_get graph.nodes node) refl monitored
  where
    by : (found : Option Node) → slice_get graph.nodes node ≡ found
        → is_some (option_and_then lag_of (option_map (λ (n : Node). n.kind) found)) ≡ true → node < length graph.nodes
    by None none passes = absurd (false≢true passes)
    by (Some n) at passes = slice_get_within graph.nodes node n at

-- what a test says of the node of a kind
pub kind_test : (graph : Tfpg) (node : ℕ) (test : Kind → Bool) (kind : Kind) → kind_at graph node ≡ Some kind → is_kind_at test graph node ≡ test kind
kind_test graph node test kind is = ap (λ (there : Option Kind). option_map_or test there false) is

-- and that it is not so, where it fails
pub not_so : (graph : Tfpg) (node : ℕ) (test : Kind → Bool) (kind : Kind) → kind_at graph node ≡ Some kind → test kind ≡ false
    → IsTrue (is_kind_at test graph node) → ⊥
not_so graph node test kind is fails passes = false≢true (sym fails ∙ sym (kind_test graph node test kind is) ∙ passes)

-- what a test says of the node that stands there
pub is_kind_at-item : (graph : Tfpg) (node : ℕ) (test : Kind → Bool) (item : Node) → slice_get graph.nodes node ≡ Some item → is_kind_at test graph node ≡ test item.kind
is_kind_at-item graph node test item at = kind_test graph node test item.kind (ap (option_map (λ (n : Node). n.kind)) at)

-- an OR node is no failure mode and no AND node
pub or_alone : (o : Option Kind) → IsTrue (option_map_or is_or o false) → IsTrue (not (option_map_or is_failure o false)) × (IsTrue (option_map_or is_and o false) → ⊥)
or_alone None is = absurd (false≢true is)
or_alone (Some (Failure rarity)) is = absurd (false≢true is)
or_alone (Some (Or lag)) is = (refl, false≢true)
or_alone (Some (And lag)) is = absurd (false≢true is)

-- an AND node is no failure mode and no OR node
pub and_alone : (o : Option Kind) → IsTrue (option_map_or is_and o false) → IsTrue (not (option_map_or is_failure o false)) × (IsTrue (option_map_or is_or o false) → ⊥)
and_alone None is = absurd (false≢true is)
and_alone (Some (Failure rarity)) is = absurd (false≢true is)
and_alone (Some (Or lag)) is = absurd (false≢true is)
and_alone (Some (And lag)) is = (refl, false≢true)
