-- Ranks of the nodes of a valid graph, by which each edge that may take no time goes upwards. The rank of a node is the
-- number of nodes from which one can walk to it over some such edges.
use Rattle.std.proofs.Common.{◌≡◌, ℕ, zero, suc, ◌+◌, ◌<◌, ◌≤◌, ◌&&◌, ◌||◌, Bool, true, ◌⊎◌, ⊎_elim, inl, inr, length, nat_eq, Contains, refl, sym, ap, ◌∙◌, subst, arith}
use Rattle.std.specs.List.{list_any}
use Rattle.std.proofs.lemmas.Bool.{and_parts, and_from, or_left, or_right, or_cases, eqb-true, eq-eqb, false_from_ne_true, cases_lt}
use Rattle.std.proofs.lemmas.List.Elements.{All-contains}
use Rattle.std.proofs.lemmas.List.Folds.{list_any_at}
use Rattle.tfpg_base.proofs.lemmas.lists.Elements.{All-from_members, list_any-found}
use Rattle.tfpg_base.proofs.lemmas.lists.Sequences.{count_below, count_below-lt}
use Rattle.tfpg_graph.specs.declared.edge.Edge.{Edge}
use Rattle.tfpg_graph.specs.Graph.{Tfpg}
use Rattle.tfpg_graph.specs.Valid.{IsValid, IsValidEdge, WalksInNoTime}
use Rattle.tfpg_graph.specs.ZeroCycle.{HasZeroOrder}

-- the edge goes from the one node to the other and may take no time
abbrev is_zero_edge : ℕ → ℕ → Edge → Bool
is_zero_edge from to edge = nat_eq edge.source from && (nat_eq edge.target to && nat_eq edge.tmin 0)

-- One can walk from the one node to the other over at least one edge, each of which may take no time. The nodes between
-- them are below this number.
abbrev pub walks : Tfpg → ℕ → ℕ → ℕ → Bool
walks graph zero from to = list_any (is_zero_edge from to) graph.edges
walks graph (suc below) from to = walks graph below from to || (walks graph below from below && walks graph below below to)

module _ (graph : Tfpg) where
  -- a walk of as many steps
  same_steps : (count other from to : ℕ) → count ≡ other → WalksInNoTime graph from to count → WalksInNoTime graph from to other
  same_steps count other from to same walk = subst (λ (n : ℕ). WalksInNoTime graph from to n) same walk

  -- a walk, and another one from where it ends
  append_walks : (steps more from between to : ℕ) → WalksInNoTime graph from between steps → WalksInNoTime graph between to more
      → WalksInNoTime graph from to (steps + more)
  append_walks zero more from between to walk next =
      same_steps more (0 + more) from to (omega arith) (subst (λ (node : ℕ). WalksInNoTime graph node to more) (sym walk) next)
  append_walks (suc steps) more from between to walk next =
      same_steps (suc (steps + more)) (suc steps + more) from to (omega arith)
      (walk.0, walk.1, walk.2, walk.3, append_walks steps more walk.0.target between to walk.4 next)

  -- Some steps lead from the one node to the other in no time.
  abbrev pub WalksSome : ℕ → ℕ → Type 0
  WalksSome from to = (steps : ℕ) × WalksInNoTime graph from to (suc steps)

  -- What the test says is so.
  pub walks-true : (below from to : ℕ) → walks graph below from to ≡ true → WalksSome from to
  walks-true zero from to is =
      let found = list_any-found (is_zero_edge from to) graph.edges is in
      let source = and_parts (nat_eq found.0.source from) (nat_eq found.0.target to && nat_eq found.0.tmin 0) found.2 in
      let target = and_parts (nat_eq found.0.target to) (nat_eq found.0.tmin 0) source.1 in
      (0, (found.0, found.1, eqb-true found.0.source from source.0, eqb-true found.0.tmin 0 target.1, eqb-true found.0.target to target.0))
  walks-true (suc below) from to is =
      by (or_cases (walks graph below from to) (walks graph below from below && walks graph below below to) is)
      (walks-true below from to) (walks-true below from below) (walks-true below below to)
    where
      by : (walks graph below from to ≡ true) ⊎ ((walks graph below from below && walks graph below below to) ≡ true)
          → (walks graph below from to ≡ true → WalksSome from to) → (walks graph below from below ≡ true → WalksSome from below)
          → (walks graph below below to ≡ true → WalksSome below to) → WalksSome from to
      by (inl there) whole up down = whole there
      by (inr round) whole up down =
          let parts = and_parts (walks graph below from below) (walks graph below below to) round in
          let one = up parts.0 in
          let other = down parts.1 in (
            one.0 + suc other.0,
            same_steps (suc one.0 + suc other.0) (suc (one.0 + suc other.0)) from to (omega arith)
                (append_walks (suc one.0) (suc other.0) from below to one.1 other.1),
          )

  -- more nodes may stand between
  walks-suc : (below from to : ℕ) → walks graph below from to ≡ true → walks graph (suc below) from to ≡ true
  walks-suc below from to is = or_left _ _ is

  -- Along an edge that may take no time one can walk.
  pub walks-edge : (below : ℕ) (edge : Edge) → Contains graph.edges edge → edge.tmin ≡ 0
      → walks graph below edge.source edge.target ≡ true
  walks-edge zero edge among no_time =
      let test = is_zero_edge edge.source edge.target in
      let here : test edge ≡ true =
      and_from _ _ (eq-eqb edge.source edge.source refl)
      (and_from _ _ (eq-eqb edge.target edge.target refl) (eq-eqb edge.tmin 0 no_time)) in
      list_any_at test graph.edges among.0 edge among.1 (ap test among.2 ∙ here)
  walks-edge (suc below) edge among no_time = walks-suc below edge.source edge.target (walks-edge below edge among no_time)

  -- to and from the last node that may stand between, it may not stand between
  walks-to_last : (below from : ℕ) → walks graph (suc below) from below ≡ true → walks graph below from below ≡ true
  walks-to_last below from is =
      ⊎_elim (λ there. there) (λ round. (and_parts (walks graph below from below) (walks graph below below below) round).0)
      (or_cases (walks graph below from below) (walks graph below from below && walks graph below below below) is)

  walks-from_last : (below to : ℕ) → walks graph (suc below) below to ≡ true → walks graph below below to ≡ true
  walks-from_last below to is =
      ⊎_elim (λ there. there) (λ round. (and_parts (walks graph below below below) (walks graph below below to) round).1)
      (or_cases (walks graph below below to) (walks graph below below below && walks graph below below to) is)

  -- Walks join at a node that may stand between.
  pub walks-joined : (below from between to : ℕ) → between < below → walks graph below from between ≡ true
      → walks graph below between to ≡ true → walks graph below from to ≡ true
  walks-joined zero from between to within one other = absurd (omega arith)
  walks-joined (suc below) from between to within one other =
      at (cases_lt between below) (λ node other_node less up down. walks-joined below node between other_node less up down)
    where
      through : walks graph below from below ≡ true → walks graph below below to ≡ true
          → walks graph (suc below) from to ≡ true
      through up down = or_right _ _ (and_from _ _ up down)

      last : (node : ℕ) → node ≡ below → walks graph (suc below) from node ≡ true → walks graph (suc below) node to ≡ true
          → walks graph (suc below) from to ≡ true
      last node is up down =
          through (walks-to_last below from (ap (walks graph (suc below) from) (sym is) ∙ up))
          (walks-from_last below to (ap (λ n. walks graph (suc below) n to) (sym is) ∙ down))

      by : between < below
          → ((node other_node : ℕ) → between < below → walks graph below node between ≡ true
          → walks graph below between other_node ≡ true → walks graph below node other_node ≡ true)
          → (walks graph below from between ≡ true) ⊎ ((walks graph below from below && walks graph below below between) ≡ true)
          → (walks graph below between to ≡ true) ⊎ ((walks graph below between below && walks graph below below to) ≡ true)
          → walks graph (suc below) from to ≡ true
      by less join (inl up) (inl down) = walks-suc below from to (join from to less up down)
      by less join (inl up) (inr down) =
          let parts = and_parts (walks graph below between below) (walks graph below below to) down in
          through (join from below less up parts.0) parts.1
      by less join (inr up) (inl down) =
          let parts = and_parts (walks graph below from below) (walks graph below below between) up in
          through parts.0 (join below to less parts.1 down)
      by less join (inr up) (inr down) =
          let parts = and_parts (walks graph below from below) (walks graph below below between) up in
          let more = and_parts (walks graph below between below) (walks graph below below to) down in
          through parts.0 more.1

      at : (between < below) ⊎ (below ≤ between)
          → ((node other_node : ℕ) → between < below → walks graph below node between ≡ true
          → walks graph below between other_node ≡ true → walks graph below node other_node ≡ true)
          → walks graph (suc below) from to ≡ true
      at (inl less) join =
          by less join (or_cases (walks graph below from between) (walks graph below from below && walks graph below below between) one)
          (or_cases (walks graph below between to) (walks graph below between below && walks graph below below to) other)
      at (inr least) join = last between (omega arith) one other

-- Each valid graph has ranks by which each edge that may take no time goes upwards.
pub HasZeroOrder-valid : (graph : Tfpg) → IsValid graph → HasZeroOrder graph
HasZeroOrder-valid graph valid = record {
  rank = λ node. count_below (λ before. walks graph count before node) count;
  rises = All-from_members (λ edge. edge.tmin ≡ 0 → rank edge.source < rank edge.target) graph.edges (λ edge among. up edge among);
}
  where
    count : ℕ
    count = length graph.nodes

    rank : ℕ → ℕ
    rank node = count_below (λ before. walks graph count before node) count

    up : (edge : Edge) → Contains graph.edges edge → edge.tmin ≡ 0 → rank edge.source < rank edge.target
    up edge among no_time =
        let is : IsValidEdge graph edge = All-contains (IsValidEdge graph) graph.edges edge valid.so_far.edges among in
        let along = walks-edge graph count edge among no_time in
        count_below-lt (λ before. walks graph count before edge.source) (λ before. walks graph count before edge.target) count edge.source
        (λ before there. walks-joined graph count before edge.source edge.target is.source there along)
        is.source
        (false_from_ne_true (walks graph count edge.source edge.source)
        (λ round. let walk = walks-true graph count edge.source edge.source round in valid.no_zero_cycle edge.source walk.0 walk.1))
        along
