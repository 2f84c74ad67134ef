-- Some node has the greatest number of edges into it.
use Rattle.std.proofs.Common.{◌≡◌, ◌⊎◌, ℕ, ◌<◌, ◌≤◌, List, [], ◌∷◌, length, refl, subst, inl, inr, arith}
use Rattle.std.specs.Prelude.{All, ◌==◌}
use Rattle.std.proofs.lemmas.Bool.{cases_lt, eqb-true}
use Rattle.std.proofs.lemmas.List.Elements.{All-nil, All-cons, All-weaker}
use Rattle.tfpg_graph.specs.declared.edge.Edge.{Edge}
use Rattle.tfpg_graph.specs.Graph.{Tfpg, edges_into}
use Rattle.tfpg_search.specs.Enough.{IsMaximumIncoming}
use Rattle.tfpg_base.proofs.lemmas.lists.Elements.{All-at, Contains-at, slice_get-there}
use Rattle.tfpg_base.proofs.lemmas.lists.Passing.{Contains-filter_only}

module _ (graph : Tfpg) where
  abbrev count : ℕ → ℕ
  count node = length (edges_into graph node)

  -- the greatest number among the targets of some edges, or of node 0
  record Greatest (edges : List Edge) : Type 0 where
    maximum : ℕ
    node : ℕ
    reached : count node ≡ maximum
    within : All (λ (edge : Edge). count edge.target ≤ maximum) edges

  greatest : (edges : List Edge) → Greatest edges
  greatest [] = record { maximum = count 0; node = 0; reached = refl; within = All-nil (λ (edge : Edge). count edge.target ≤ count 0) }
  greatest (edge ∷ edges) = by (greatest edges) (cases_lt (greatest edges).maximum (count edge.target))
    where
      by : (others : Greatest edges) → (others.maximum < count edge.target) ⊎ (count edge.target ≤ others.maximum) → Greatest (edge ∷ edges)
      by others (inl greater) = record {
        maximum = count edge.target;
        node = edge.target;
        reached = refl;
        within =
            All-cons (λ (e : Edge). count e.target ≤ count edge.target) edge edges (omega arith)
            (All-weaker (λ (e : Edge). count e.target ≤ others.maximum) (λ (e : Edge). count e.target ≤ count edge.target) (λ e is. omega (arith, is, greater)) edges others.within);
      }
      by others (inr not_greater) = record {
        maximum = others.maximum;
        node = others.node;
        reached = others.reached;
        within = All-cons (λ (e : Edge). count e.target ≤ others.maximum) edge edges not_greater others.within;
      }

  no_more : (node : ℕ) → (0 < count node) ⊎ (count node ≤ 0) → count node ≤ (greatest graph.edges).maximum
  no_more node (inl some) =
      let edge = slice_get-there (edges_into graph node) 0 some in
      let at = Contains-filter_only (λ (e : Edge). e.target == node) graph.edges edge.0 (Contains-at (edges_into graph node) 0 edge.0 edge.1) in
      subst (λ k. count k ≤ (greatest graph.edges).maximum) (eqb-true edge.0.target node at.2)
      (All-at (λ (e : Edge). count e.target ≤ (greatest graph.edges).maximum) graph.edges at.0 edge.0 (greatest graph.edges).within at.1)
  no_more node (inr none) = omega (arith, none)

  pub maximum_incoming : (maximum : ℕ) × IsMaximumIncoming graph maximum
  maximum_incoming = (
    (greatest graph.edges).maximum,
    record { within = λ node. no_more node (cases_lt 0 (count node)); node = (greatest graph.edges).node; reached = (greatest graph.edges).reached },
  )
