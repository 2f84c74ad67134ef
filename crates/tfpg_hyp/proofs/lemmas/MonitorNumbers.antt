-- The monitored nodes of a graph, and their numbers as members.
use Rattle.std.proofs.Common.{◌≡◌, ◌↔◌, ℕ, ◌+◌, ◌<◌, ◌≤◌, ltb, Bool, true, false, cond, List, [], ◌∷◌, ◌++◌, length, map, Some, inl, inr, ⊎_elim, arith, sym, ◌∙◌, ap, subst}
use Rattle.std.specs.Prelude.{All, Contains, count_by, is_some, slice_get, option_map, option_and_then, IsTrue}
use Rattle.std.proofs.lemmas.Bool.{lt-ltb, le-ltb, ltb-true, cond_both, cond-true, false≢true}
use Rattle.std.proofs.lemmas.List.{length-append}
use Rattle.std.proofs.lemmas.List.Elements.{All-head, All-tail}
use Rattle.std.proofs.lemmas.List.Sums.{sum_by-cons}
use Rattle.tfpg_base.proofs.lemmas.lists.Elements.{All-from_members, AllPairs-cons, Contains-at, Contains-cons_cases, Contains-nil, slice_get-there, slice_get-contains}
use Rattle.tfpg_base.proofs.lemmas.lists.Below.{below, below-zero, below-member, below-absent, below-all}
use Rattle.tfpg_base.proofs.lemmas.lists.Numbered.{item_of, number_of}
use Rattle.tfpg_base.proofs.lemmas.lists.Ordered.{Rises, AllPairs-nil}
use Rattle.tfpg_base.specs.Choice.{numbers_from}
use Rattle.tfpg_base.specs.NodeSet.{IsNodeSet}
use Rattle.tfpg_base.specs.declared.limits.TheConstants.{MAX_NODE_NUMBERS}
use Rattle.tfpg_base.proofs.lemmas.NodeSets.{IsNodeSet-few}
use Rattle.tfpg_graph.specs.Graph.{Tfpg, Node, is_monitored, lag_of}
use Rattle.tfpg_graph.proofs.lemmas.NodeAt.{monitored_within}
use Rattle.tfpg_hyp.specs.Table.{monitors, monitor_number, ComesFirst}

-- ---- which they are

-- the numbers of the items that pass rise
numbers_rise : {X : Type 0} (p : X → Bool) (n : ℕ) (xs : List X) → Rises (numbers_from n p xs)
numbers_rise p n [] = AllPairs-nil ◌<◌
numbers_rise p n (x ∷ xs) =
    cond_both (p x) (n ∷ numbers_from (n + 1) p xs) (numbers_from (n + 1) p xs) Rises
    (λ passes. AllPairs-cons ◌<◌ n (numbers_from (n + 1) p xs)
    (All-from_members (λ later. n < later) (numbers_from (n + 1) p xs)
    (λ later has. omega (arith, (item_of p (n + 1) xs has.0 later (slice_get-contains (numbers_from (n + 1) p xs) later has)).counted)))
    (numbers_rise p (n + 1) xs))
    (λ fails. numbers_rise p (n + 1) xs)

module _ (graph : Tfpg) where
  -- whether the item of a node is monitored
  abbrev has_monitor : Node → Bool
  has_monitor node = is_some (lag_of node.kind)

  -- the monitored nodes rise
  pub Rises-monitors : Rises (monitors graph)
  Rises-monitors = numbers_rise has_monitor 0 graph.nodes

  -- a node is one of them exactly where it is monitored
  pub Contains-monitors : (node : ℕ) → Contains (monitors graph) node ↔ IsTrue (is_monitored graph node)
  Contains-monitors node = (to, from)
    where
      to : Contains (monitors graph) node → IsTrue (is_monitored graph node)
      to has =
          let of = item_of has_monitor 0 graph.nodes has.0 node (slice_get-contains (monitors graph) node has) in
          let here : of.index ≡ node = omega (arith, of.counted) in
          let at : slice_get graph.nodes node ≡ Some of.item = ap (slice_get graph.nodes) (sym here) ∙ of.at in
          ap (λ found. is_some (option_and_then lag_of (option_map (λ (n : Node). n.kind) found))) at ∙ of.passes

      from : IsTrue (is_monitored graph node) → Contains (monitors graph) node
      from is =
          let there = slice_get-there graph.nodes node (monitored_within graph node is) in
          let passes : has_monitor there.0 ≡ true = sym (ap (λ found. is_some (option_and_then lag_of (option_map (λ (n : Node). n.kind) found))) there.1) ∙ is in
          let found = number_of has_monitor 0 graph.nodes node there.0 there.1 passes in
          Contains-at (monitors graph) found.0 node (found.1 ∙ ap Some (omega arith))

  -- they are a set of nodes
  pub IsNodeSet-monitors : length graph.nodes ≤ MAX_NODE_NUMBERS → IsNodeSet (monitors graph)
  IsNodeSet-monitors few = record {
    rising = Rises-monitors;
    small = All-from_members (λ node. node < MAX_NODE_NUMBERS) (monitors graph) (λ node has. omega (arith, few, monitored_within graph node ((Contains-monitors node).0 has)));
  }

  -- there are no more than nodes
  pub few_monitors : (count : ℕ) → count ≡ length (monitors graph) → length graph.nodes ≤ MAX_NODE_NUMBERS → count ≤ MAX_NODE_NUMBERS
  few_monitors count counted few = omega (arith, counted, IsNodeSet-few (monitors graph) (IsNodeSet-monitors few))

-- ---- their numbers

-- how many of these are below a number
abbrev rank : ℕ → List ℕ → ℕ
rank node xs = count_by (λ other. ltb other node) xs

module _ (low high : ℕ) (less : low < high) where
  -- what is below the lesser number is below the greater one
  bit_rises : (x : ℕ) → cond (ltb x low) 1 0 ≤ cond (ltb x high) 1 0
  bit_rises x =
      cond_both (ltb x low) 1 0 (λ n. n ≤ cond (ltb x high) 1 0)
      (λ below. subst (λ (n : ℕ). 1 ≤ n) (sym (cond-true (ltb x high) 1 0 (lt-ltb x high (omega (arith, less, ltb-true x low below))))) (omega arith))
      (λ above. omega arith)

  rank_rises : (xs : List ℕ) → rank low xs ≤ rank high xs
  rank_rises [] = omega arith
  rank_rises (x ∷ xs) = omega (arith, bit_rises x, rank_rises xs, sum_by-cons (λ y. cond (ltb y low) 1 0) x xs, sum_by-cons (λ y. cond (ltb y high) 1 0) x xs)

  -- the lesser number itself is below the greater one
  rank_rises_past : (xs : List ℕ) → Contains xs low → rank low xs < rank high xs
  rank_rises_past [] has = absurd (Contains-nil low has)
  rank_rises_past (x ∷ xs) has =
      let of_low = sum_by-cons (λ y. cond (ltb y low) 1 0) x xs in
      let of_high = sum_by-cons (λ y. cond (ltb y high) 1 0) x xs in
      ⊎_elim
      (λ same.
      let none : cond (ltb x low) 1 0 ≡ 0 = ap {B = ℕ} (λ t. cond t 1 0) (le-ltb x low (omega (arith, same))) in
      let one : cond (ltb x high) 1 0 ≡ 1 = ap {B = ℕ} (λ t. cond t 1 0) (lt-ltb x high (omega (arith, same, less))) in
      omega (arith, none, one, rank_rises xs, of_low, of_high))
      (λ later. omega (arith, bit_rises x, rank_rises_past xs later, of_low, of_high))
      (Contains-cons_cases x xs low has)

-- what maps each item of a list below another one keeps the order of lists
ComesFirst-map : (f : ℕ → ℕ) (P : ℕ → Type 0) → ((low high : ℕ) → P low → low < high → f low < f high)
    → (a b : List ℕ) → All P a → ComesFirst a b → ComesFirst (map f a) (map f b)
ComesFirst-map f P rises [] [] all first = absurd first
ComesFirst-map f P rises [] (y ∷ ys) all first = tt
ComesFirst-map f P rises (x ∷ xs) [] all first = absurd first
ComesFirst-map f P rises (x ∷ xs) (y ∷ ys) all first =
    ⊎_elim (λ less. inl (rises x y (All-head P x xs all) less)) (λ same. inr (ap f same.0, ComesFirst-map f P rises xs ys (All-tail P x xs all) same.1)) first

module _ (graph : Tfpg) where
  -- sets of monitors stand in the same order by their numbers
  pub ComesFirst-numbers : (a b : List ℕ) → All (Contains (monitors graph)) a → ComesFirst a b → ComesFirst (map (monitor_number graph) a) (map (monitor_number graph) b)
  ComesFirst-numbers = ComesFirst-map (monitor_number graph) (Contains (monitors graph)) (λ low high has less. omega (arith, rank_rises_past low high less (monitors graph) has))

-- ---- the monitored nodes so far

module _ (graph : Tfpg) where
  -- there is none before the first node
  pub monitors-none : below 0 (monitors graph) ≡ []
  monitors-none = below-zero (monitors graph)

  -- a monitored node is added
  pub monitors-with : (node : ℕ) → is_monitored graph node ≡ true → below (node + 1) (monitors graph) ≡ below node (monitors graph) ++ node ∷ []
  monitors-with node is = below-member node (monitors graph) (Rises-monitors graph) ((Contains-monitors graph node).1 is)

  -- another node adds nothing
  pub monitors-without : (node : ℕ) → is_monitored graph node ≡ false → below (node + 1) (monitors graph) ≡ below node (monitors graph)
  monitors-without node is_not = below-absent node (monitors graph) (λ has. false≢true (sym is_not ∙ (Contains-monitors graph node).0 has))

  -- up to the last node there are all
  pub monitors-all : (end : ℕ) → end ≡ length graph.nodes → below end (monitors graph) ≡ monitors graph
  monitors-all end last = below-all end (monitors graph) (λ node has. omega (arith, last, monitored_within graph node ((Contains-monitors graph node).0 has)))

  -- one more is counted
  pub counted-with : (node count : ℕ) → is_monitored graph node ≡ true → count ≡ length (below node (monitors graph)) → count + 1 ≡ length (below (node + 1) (monitors graph))
  counted-with node count is so_far = omega (arith, so_far, ap length (monitors-with node is), length-append (below node (monitors graph)) (node ∷ []))
