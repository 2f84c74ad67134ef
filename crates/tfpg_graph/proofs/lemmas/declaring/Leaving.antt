-- The edge from one node to another, sought among the edges into the other.
use Rattle.std.proofs.Common.{◌≡◌, ℕ, ◌==◌, Bool, false, find, Some, slice_get, ap, ◌∙◌, zero-add}
use Rattle.std.specs.Option.{option_map, option_map_or}
use Rattle.std.proofs.lemmas.Iterator.Adapters.{option_map_id}
use Rattle.tfpg_graph.specs.declared.edge.Edge.{Edge}
use Rattle.tfpg_graph.specs.Graph.{Tfpg, incoming, edge_from_to}
use Rattle.tfpg_base.proofs.lemmas.lists.Numbered.{find-numbers_from}

-- whether the edge of this number leaves this node
abbrev pub is_leaving : Tfpg → ℕ → ℕ → Bool
is_leaving graph source number = option_map_or (λ edge. edge.source == source) (slice_get graph.edges number) false

pub is_leaving-edge : (graph : Tfpg) (source number : ℕ) (edge : Edge) → slice_get graph.edges number ≡ Some edge → is_leaving graph source number ≡ (edge.source == source)
is_leaving-edge graph source number edge at = ap (λ o. option_map_or (λ e. e.source == source) o false) at

-- the first edge into the one node that leaves the other is the first edge between the two
pub find-leaving : (graph : Tfpg) (source target : ℕ) → find (is_leaving graph source) (incoming graph target) ≡ edge_from_to graph source target
find-leaving graph source target =
    find-numbers_from (λ edge. edge.target == target) (λ edge. edge.source == source) (is_leaving graph source) 0 graph.edges
    (λ i edge at. ap (is_leaving graph source) (zero-add i) ∙ is_leaving-edge graph source i edge at)
    ∙ (λ i. option_map (λ n. zero-add n i) (edge_from_to graph source target)) ∙ option_map_id (edge_from_to graph source target)
