-- The modes in which all edges into a node are active at once.
use Rattle.std.proofs.Common.{◌≡◌, ℕ, ◌+◌, ◌<◌, Bool, false, eqb, List, length, take, get_or, Option, Some, None, slice_get, ◌&&◌, sym, ap, ◌∙◌, arith}
use Rattle.std.specs.List.{list_all}
use Rattle.std.proofs.lemmas.List.Folds.{list_all_more}
use Rattle.tfpg_graph.specs.declared.edge.Edge.{Edge}
use Rattle.tfpg_graph.specs.Graph.{Tfpg, incoming, edges_into, is_active_in}
use Rattle.tfpg_base.proofs.lemmas.lists.Numbered.{list_all-numbers_from}
use Rattle.tfpg_log.specs.declared.active_modes.ActiveModes.{ActiveModes}
use Rattle.tfpg_log.specs.inside.ActiveModes.{has_mode}

-- the edge is there and active in the mode
abbrev pub is_there_active : Option Edge → ℕ → Bool
is_there_active None mode = false
is_there_active (Some edge) mode = is_active_in edge mode

-- the edges of these numbers are active in the mode
abbrev pub are_active_in : List Edge → List ℕ → ℕ → Bool
are_active_in edges numbers mode = list_all (λ number. is_there_active (slice_get edges number) mode) numbers

-- one edge more
pub active_more : (edges : List Edge) (numbers : List ℕ) (index : ℕ) (edge : Edge) (modes more : ActiveModes) → index < length numbers
    → slice_get edges (get_or numbers index 0) ≡ Some edge
    → ((mode : ℕ) → has_mode modes mode ≡ are_active_in edges (take index numbers) mode)
    → ((mode : ℕ) → has_mode more mode ≡ (has_mode modes mode && is_active_in edge mode))
    → (mode : ℕ) → has_mode more mode ≡ are_active_in edges (take (index + 1) numbers) mode
active_more edges numbers index edge modes more within at so_far with_it mode =
    with_it mode
    ∙ (λ i. so_far mode i && is_there_active (sym at i) mode)
    ∙ sym (list_all_more (λ number. is_there_active (slice_get edges number) mode) numbers index 0 within)

-- The edges of the numbers of those into a node are the edges into it.
pub all_into : (graph : Tfpg) (node mode : ℕ)
    → are_active_in graph.edges (incoming graph node) mode ≡ list_all (λ edge. is_active_in edge mode) (edges_into graph node)
all_into graph node mode =
    list_all-numbers_from (λ edge. eqb edge.target node) (λ edge. is_active_in edge mode)
    (λ number. is_there_active (slice_get graph.edges number) mode) 0 graph.edges
    (λ i edge at. ap (λ number. is_there_active (slice_get graph.edges number) mode) (omega arith)
    ∙ ap (λ there. is_there_active there mode) at)
