-- In a valid graph an AND node has an edge into it.
use Rattle.std.proofs.Common.{◌≡◌, ◌≢◌, ℕ, ◌+◌, Bool, true, false, eqb, List, [], ◌∷◌, refl}
use Rattle.std.specs.Prelude.{IsTrue, filter}
use Rattle.tfpg_graph.specs.declared.edge.Edge.{Edge}
use Rattle.tfpg_graph.specs.Graph.{Tfpg, is_kind_at, is_and, kind_at}
use Rattle.tfpg_graph.proofs.lemmas.NodeAt.{kind_within, and_alone}
use Rattle.tfpg_base.specs.Choice.{numbers_from}
use Rattle.tfpg_graph.specs.Valid.{IsValid}

-- where some edge enters a node, there is an edge into it
abbrev pub HasFirst : ℕ → List Edge → Type 0
HasFirst node edges = (edge : Edge) × (others : List Edge) × (filter (λ e. eqb e.target node) edges ≡ edge ∷ others)

first_by : (node : ℕ) (edge : Edge) (edges : List Edge) (b : Bool) → eqb edge.target node ≡ b → (b ≡ false → HasFirst node edges)
    → HasFirst node (edge ∷ edges)
first_by node edge edges true h others = (edge, filter (λ x. eqb x.target node) edges, rw h refl)
first_by node edge edges false h others = let more = others refl in (more.0, more.1, rw h more.2)

first_edge : (number node : ℕ) (edges : List Edge) → numbers_from number (λ edge. eqb edge.target node) edges ≢ [] → HasFirst node edges
first_edge number node [] some = absurd (some refl)
first_edge number node (edge ∷ edges) some =
    first_by node edge edges _ refl (λ h. first_edge (number + 1) node edges (λ none. some (rw h none)))

-- an AND node of a valid graph has an edge into it
pub and_node_has_edge : (graph : Tfpg) (node : ℕ) → IsValid graph → IsTrue (is_kind_at is_and graph node) → HasFirst node graph.edges
and_node_has_edge graph node valid h =
    first_edge 0 node graph.edges (valid.has_incoming node (kind_within graph is_and node h) (and_alone (kind_at graph node) h).0)
