-- A generated graph is valid.
use Rattle.std.proofs.Common.{◌≡◌, ◌≢◌, ℕ, zero, suc, ◌+◌, ◌-◌, ◌*◌, ◌<◌, ◌≤◌, ◌⊎◌, inl, inr, ⊎_elim, true, false, not, cond, eqb, ltb, List, [], ◌∷◌, ◌++◌, length, get_or, All, IsTrue, Option, Some, None, IfSome, refl, sym, ap, ◌∙◌, subst, arith, length-append, append_assoc}
use Rattle.std.specs.Prelude.{◌&&◌, ◌==◌, bytes_eq, AllPairs, count_by, decimal, codes, option_map}
use Rattle.std.specs.Option.{option_map_or}
use Rattle.std.specs.List.{list_all}
use Rattle.std.specs.Char.{is_ascii_digit}
use Rattle.std.proofs.lemmas.Bool.{cond_both, cond-true, cond-false, lt-ltb, le-ltb, eqb-false, eq-eqb, ne_eqb, and_from, and_parts, or_left, or_right, not-true, cases_lt, cases_eq, false≢true}
use Rattle.std.proofs.lemmas.Fmt.{length-decimal-le, decimal_injective}
use Rattle.std.proofs.lemmas.List.{get_or-append_right, get_or_append_left, get_or_push, length_push}
use Rattle.std.proofs.lemmas.List.Elements.{All-nil, All-cons, All-push, All-append, All-head, All-tail, All-weaker, All-contains}
use Rattle.std.proofs.lemmas.List.Quantifiers.{all_pairs_push}
use Rattle.std.proofs.lemmas.List.Sums.{sum_by-append, sum_by-cons, sum_by_push, count_by-le-length}
use Rattle.std.proofs.lemmas.Option.{slice_get-get_or}
use Rattle.tfpg_base.proofs.lemmas.Numbers.{AllDigits-from_number, is_number-decimal}
use Rattle.tfpg_base.proofs.lemmas.lists.Digits.{list_all-from_AllDigits}
use Rattle.tfpg_base.proofs.lemmas.lists.Numbered.{length-numbers_from}
use Rattle.tfpg_base.specs.declared.limits.TheConstants.{MAX_CASE_SIZE, MAX_TIME}
use Rattle.tfpg_base.specs.Words.{is_name, is_letter, is_name_byte}
use Rattle.tfpg_graph.specs.declared.edge.Edge.{Edge}
use Rattle.tfpg_graph.specs.declared.kind.Kind.{Kind}
use Rattle.tfpg_graph.specs.declared.kind.Kind.TheVariants.{Failure, Or, And}
use Rattle.tfpg_graph.specs.Graph.{Tfpg, Node, lag_up_to, is_failure, is_kind_at, failures, incoming}
use Rattle.tfpg_graph.specs.Valid.{HasValidNumber, IsValidLag, IsValidEdge, IsSamePair, WalksInNoTime, IsValidSoFar, IsValid, HasIncomingBefore}
use Rattle.rand_pcg.specs.Lcg.{Lcg}
use Rattle.tfpg_sim.specs.Draws.{generator}
use Rattle.tfpg_sim.specs.inside.GraphText.{HasDrawnModes}
use Rattle.tfpg_sim.specs.Generated.{after_words, draw, drawn_name, failure_kinds, has_two, lag_drawn, kind_drawn, edge_drawn, edges_drawn, draft_after, named_nodes, drawn_graph, draft_of, generated_graph}
use Rattle.tfpg_sim.specs.declared.limits.TheConstants.{FAILURE_COUNT, GENERATED_DELAYS, GRAPH_STREAM}

-- ---- names

abbrev lettered : ℕ → ℕ → List ℕ
lettered letter number = letter ∷ decimal number

failure_name : (node : ℕ) → node < FAILURE_COUNT → drawn_name node ≡ lettered 70 node
failure_name node low = cond-true (ltb node FAILURE_COUNT) (codes "F" ++ decimal node) (codes "D" ++ decimal (node - FAILURE_COUNT)) (lt-ltb node FAILURE_COUNT low)

discrepancy_name : (node : ℕ) → FAILURE_COUNT ≤ node → drawn_name node ≡ lettered 68 (node - FAILURE_COUNT)
discrepancy_name node high = cond-false (ltb node FAILURE_COUNT) (codes "F" ++ decimal node) (codes "D" ++ decimal (node - FAILURE_COUNT)) (le-ltb node FAILURE_COUNT high)

digits_in_name : (word : List ℕ) → list_all is_ascii_digit word ≡ true → list_all is_name_byte word ≡ true
digits_in_name [] all = refl
digits_in_name (byte ∷ word) all =
    let parts = and_parts (is_ascii_digit byte) (list_all is_ascii_digit word) all in
    and_from (is_name_byte byte) (list_all is_name_byte word) (or_right (is_letter byte) _ (or_left (is_ascii_digit byte) _ parts.0)) (digits_in_name word parts.1)

lettered_name : (letter number : ℕ) → is_letter letter ≡ true → number < 1000 → is_name (lettered letter number) ≡ true
lettered_name letter number is small =
    and_from (is_letter letter) _ is
    (and_from (list_all is_name_byte (decimal number)) _
    (digits_in_name (decimal number) (list_all-from_AllDigits (decimal number) (AllDigits-from_number (decimal number) (is_number-decimal number (omega arith)))))
    (lt-ltb (length (decimal number)) 32 (let short : length (decimal number) ≤ 13 = length-decimal-le 13 number (omega arith) (omega arith) (omega arith) in omega arith)))

-- each node has a name
pub is_name-drawn_name : (node : ℕ) → node < 1000 → IsTrue (is_name (drawn_name node))
is_name-drawn_name node small = ⊎_elim
    (λ low. ap is_name (failure_name node low) ∙ lettered_name 70 node refl small)
    (λ high. ap is_name (discrepancy_name node high) ∙ lettered_name 68 (node - FAILURE_COUNT) refl (omega arith)) (cases_lt node FAILURE_COUNT)

-- no two nodes have one name
name_once : (one other : ℕ) → one < 1000 → other < 1000 → drawn_name one ≡ drawn_name other → one ≡ other
name_once one other small too same = ⊎_elim
    (λ low. ⊎_elim
    (λ also. decimal_injective one other (omega arith) (omega arith)
    (let names : lettered 70 one ≡ lettered 70 other = sym (failure_name one low) ∙ same ∙ failure_name other also in cc))
    (λ high. absurd
    (let names : lettered 70 one ≡ lettered 68 (other - FAILURE_COUNT) = sym (failure_name one low) ∙ same ∙ discrepancy_name other high in
    let both : ◌≡◌ {A = ℕ} 70 68 = cc in omega arith))
    (cases_lt other FAILURE_COUNT))
    (λ high. ⊎_elim
    (λ low. absurd
    (let names : lettered 68 (one - FAILURE_COUNT) ≡ lettered 70 other = sym (discrepancy_name one high) ∙ same ∙ failure_name other low in
    let both : ◌≡◌ {A = ℕ} 68 70 = cc in omega arith))
    (λ also. let one_number : one - FAILURE_COUNT ≡ other - FAILURE_COUNT = decimal_injective (one - FAILURE_COUNT) (other - FAILURE_COUNT) (omega arith) (omega arith)
    (let names : lettered 68 (one - FAILURE_COUNT) ≡ lettered 68 (other - FAILURE_COUNT) = sym (discrepancy_name one high) ∙ same ∙ discrepancy_name other also in cc) in omega arith)
    (cases_lt other FAILURE_COUNT))
    (cases_lt one FAILURE_COUNT)

-- ---- kinds and nodes

-- the kind is that of a discrepancy, and its lag is not too large
abbrev IsDiscrepancy : Kind → Type 0
IsDiscrepancy (Failure rarity) = ⊥
IsDiscrepancy (Or lag) = IfSome lag IsValidLag
IsDiscrepancy (And lag) = IfSome lag IsValidLag

discrepancy_number : (kind : Kind) → IsDiscrepancy kind → HasValidNumber kind
discrepancy_number (Failure rarity) is = absurd is
discrepancy_number (Or lag) is = is
discrepancy_number (And lag) is = is

no_failure : (kind : Kind) → IsDiscrepancy kind → is_failure kind ≡ false
no_failure (Failure rarity) is = absurd is
no_failure (Or lag) is = refl
no_failure (And lag) is = refl

pub length-failure_kinds : (n : ℕ) → length (failure_kinds n) ≡ n
length-failure_kinds zero = refl
length-failure_kinds (suc n) = omega (arith, length_push (failure_kinds n) (Failure (n + 1)), length-failure_kinds n)

pub failure_kind : (n k : ℕ) (d : Kind) → k < n → get_or (failure_kinds n) k d ≡ Failure (k + 1)
failure_kind zero k d within = absurd (omega arith)
failure_kind (suc n) k d within = ⊎_elim
    (λ less. get_or_append_left (failure_kinds n) (Failure (n + 1) ∷ []) d k (omega (arith, length-failure_kinds n)) ∙ failure_kind n k d less)
    (λ last. let same : n ≡ k = omega arith in
    get_or_push (failure_kinds n) (Failure (n + 1)) d k (length-failure_kinds n ∙ same) ∙ ap (λ m. Failure (m + 1)) same)
    (cases_lt k n)

failure_numbers : (n : ℕ) → n ≤ FAILURE_COUNT → All HasValidNumber (failure_kinds n)
failure_numbers zero upto = All-nil HasValidNumber
failure_numbers (suc n) upto = All-push HasValidNumber (failure_kinds n) (Failure (n + 1)) (failure_numbers n (omega arith)) (omega arith)

pub length-named_nodes : (number : ℕ) (kinds : List Kind) → length (named_nodes number kinds) ≡ length kinds
length-named_nodes number [] = refl
length-named_nodes number (kind ∷ kinds) = ap suc (length-named_nodes (number + 1) kinds)

-- a node by its number and kind
abbrev pub drawn_node : ℕ → Kind → Node
drawn_node number kind = record { name = drawn_name number; kind = kind }

pub get_or-named_nodes : (number : ℕ) (kinds : List Kind) (k : ℕ) (d : Node) (e : Kind) → k < length kinds → get_or (named_nodes number kinds) k d ≡ drawn_node (number + k) (get_or kinds k e)
get_or-named_nodes number [] k d e within = absurd (omega arith)
get_or-named_nodes number (kind ∷ kinds) zero d e within = ap (λ n. drawn_node n kind) (let same : number ≡ number + 0 = omega arith in same)
get_or-named_nodes number (kind ∷ kinds) (suc k) d e within =
    get_or-named_nodes (number + 1) kinds k d e (omega arith) ∙ ap (λ n. drawn_node n (get_or kinds k e)) (let same : number + 1 + k ≡ number + suc k = omega arith in same)

-- ---- counts

count-named_nodes : (number : ℕ) (kinds : List Kind) → count_by (λ node. is_failure node.kind) (named_nodes number kinds) ≡ count_by is_failure kinds
count-named_nodes number [] = refl
count-named_nodes number (kind ∷ kinds) =
    sum_by-cons (λ (node : Node). cond (is_failure node.kind) 1 0) (drawn_node number kind) (named_nodes (number + 1) kinds)
    ∙ ap (λ n. cond (is_failure kind) 1 0 + n) (count-named_nodes (number + 1) kinds)
    ∙ sym (sum_by-cons (λ k. cond (is_failure k) 1 0) kind kinds)

count-none : (kinds : List Kind) → All IsDiscrepancy kinds → count_by is_failure kinds ≡ 0
count-none [] all = refl
count-none (kind ∷ kinds) all =
    omega (
      arith,
      sum_by-cons (λ k. cond (is_failure k) 1 0) kind kinds,
      count-none kinds (All-tail IsDiscrepancy kind kinds all),
      ap {B = ℕ} (λ b. cond b 1 0) (no_failure kind (All-head IsDiscrepancy kind kinds all)),
    )

-- ---- edges

-- an edge that is drawn into one of the discrepancies before an end
record IsDrawnEdge (end : ℕ) (edge : Edge) : Type 0 where
  low : FAILURE_COUNT ≤ edge.target
  high : edge.target < end
  earlier : edge.source < edge.target
  least : edge.tmin ≤ MAX_TIME
  greatest : IfSome edge.tmax (λ tmax. (edge.tmin ≤ tmax) × (tmax ≤ MAX_TIME))
  modes : (edge.modes ≡ 1) ⊎ (edge.modes ≡ 3)

is_drawn : (end source node : ℕ) (state : Lcg) → FAILURE_COUNT ≤ node → node < end → source < node → IsDrawnEdge end (edge_drawn source node state)
is_drawn end source node state low high earlier = record {
  low = low;
  high = high;
  earlier = earlier;
  least = let below : draw GENERATED_DELAYS 0 state < GENERATED_DELAYS = omega arith in omega arith;
  greatest =
      let below : draw GENERATED_DELAYS 0 state < GENERATED_DELAYS = omega arith in
      let more : draw GENERATED_DELAYS 1 state < GENERATED_DELAYS = omega arith in
      cond_both (eqb (draw 16 2 state) 0) None (Some (draw GENERATED_DELAYS 0 state + draw GENERATED_DELAYS 1 state)) (λ o. IfSome o (λ tmax. (draw GENERATED_DELAYS 0 state ≤ tmax) × (tmax ≤ MAX_TIME)))
      (λ _. tt) (λ _. (omega arith, omega arith));
  modes = cond_both (eqb (draw 8 3 state) 0) 1 3 (λ m. (m ≡ 1) ⊎ (m ≡ 3)) (λ _. inl refl) (λ _. inr refl);
}

drawn_before : (end later : ℕ) → end ≤ later → (edge : Edge) → IsDrawnEdge end edge → IsDrawnEdge later edge
drawn_before end later upto edge is = record {
  low = is.low;
  high = let high = is.high in omega arith;
  earlier = is.earlier;
  least = is.least;
  greatest = is.greatest;
  modes = is.modes;
}

-- how many edges go into a node
abbrev count_into : List Edge → ℕ → ℕ
count_into edges node = count_by (λ edge. eqb edge.target node) edges

-- edges into the discrepancies before an end, of which each has one or two
record AreDrawnEdges (end : ℕ) (edges : List Edge) : Type 0 where
  each : All (IsDrawnEdge end) edges
  differ : AllPairs (λ a b. IsSamePair a b → ⊥) edges
  few_into : (node : ℕ) → count_into edges node ≤ 2
  none_into : (node : ℕ) → end ≤ node → count_into edges node ≡ 0

-- one more edge into a node counts for that node alone
one_more_into : (edges : List Edge) (edge : Edge) (node : ℕ) → edge.target ≡ node → count_into (edges ++ edge ∷ []) node ≡ count_into edges node + 1
one_more_into edges edge node same =
    sum_by_push (λ (e : Edge). cond (eqb e.target node) 1 0) edges edge
    ∙ ap (λ b. count_into edges node + cond b 1 0) (eq-eqb edge.target node same)

no_more_into : (edges : List Edge) (edge : Edge) (node : ℕ) → (edge.target ≡ node → ⊥) → count_into (edges ++ edge ∷ []) node ≡ count_into edges node
no_more_into edges edge node other =
    sum_by_push (λ (e : Edge). cond (eqb e.target node) 1 0) edges edge
    ∙ ap (λ b. count_into edges node + cond b 1 0) (ne_eqb edge.target node other)
    ∙ (let same : count_into edges node + 0 ≡ count_into edges node = omega arith in same)

-- what holds of drafts
record IsDraft (index : ℕ) (kinds : List Kind) (edges : List Edge) : Type 0 where
  count : length kinds ≡ index
  discrepancies : All IsDiscrepancy kinds
  drawn : AreDrawnEdges (FAILURE_COUNT + index) edges
  few : length edges ≤ 2 * index
  some_into : (node : ℕ) → FAILURE_COUNT ≤ node → node < FAILURE_COUNT + index → 0 < count_into edges node

IsDiscrepancy-kind_drawn : (node : ℕ) (state : Lcg) → IsDiscrepancy (kind_drawn node state)
IsDiscrepancy-kind_drawn node state =
    cond_both (has_two node state && draw 8 2 state == 0) (And (lag_drawn state)) (Or (lag_drawn state)) IsDiscrepancy (λ _. small) (λ _. small)
  where
    small : IfSome (lag_drawn state) IsValidLag
    small = cond_both (eqb (draw 4 3 state) 0) None (Some (lag_up_to (draw 20 4 state))) (λ o. IfSome o IsValidLag) (λ _. tt)
        (λ _. let below : draw 20 4 state < 20 = omega arith in search arith)

module _ (index : ℕ) (edges : List Edge) (drawn : AreDrawnEdges (FAILURE_COUNT + index) edges) where
  -- an edge into the next discrepancy is none of those so far
  new_edge : (edge : Edge) → edge.target ≡ FAILURE_COUNT + index → All (λ a. IsSamePair a edge → ⊥) edges
  new_edge edge target k d within same = let high = (drawn.each k d within).high in omega (arith, same.1)

  -- with one edge into the next discrepancy
  module _ (one : Edge) (target : one.target ≡ FAILURE_COUNT + index) (is : IsDrawnEdge (FAILURE_COUNT + suc index) one) where
    with_one : AreDrawnEdges (FAILURE_COUNT + suc index) (edges ++ one ∷ [])
    with_one = record {
      each = All-push (IsDrawnEdge (FAILURE_COUNT + suc index)) edges one (All-weaker (IsDrawnEdge (FAILURE_COUNT + index)) (IsDrawnEdge (FAILURE_COUNT + suc index)) (drawn_before (FAILURE_COUNT + index) (FAILURE_COUNT + suc index) (omega arith)) edges drawn.each) is;
      differ = all_pairs_push (λ a b. IsSamePair a b → ⊥) edges one drawn.differ (new_edge one target);
      few_into = λ node. ⊎_elim
          (λ same. omega (arith, one_more_into edges one node same, drawn.none_into node (omega (arith, target, same))))
          (λ other. let few = drawn.few_into node in omega (arith, no_more_into edges one node other)) (cases_eq one.target node);
      none_into = λ node past. no_more_into edges one node (λ same. omega (arith, target, same)) ∙ drawn.none_into node (omega arith);
    }

    one_into : count_into (edges ++ one ∷ []) (FAILURE_COUNT + index) ≡ 1
    one_into = omega (arith, one_more_into edges one (FAILURE_COUNT + index) target, drawn.none_into (FAILURE_COUNT + index) (omega arith))

    -- with a second one, from another source
    module _ (two : Edge) (too : two.target ≡ FAILURE_COUNT + index) (also : IsDrawnEdge (FAILURE_COUNT + suc index) two) (apart : one.source ≡ two.source → ⊥) where
      with_both : AreDrawnEdges (FAILURE_COUNT + suc index) ((edges ++ one ∷ []) ++ two ∷ [])
      with_both = record {
        each = All-push (IsDrawnEdge (FAILURE_COUNT + suc index)) (edges ++ one ∷ []) two with_one.each also;
        differ = all_pairs_push (λ a b. IsSamePair a b → ⊥) (edges ++ one ∷ []) two with_one.differ
            (All-push (λ a. IsSamePair a two → ⊥) edges one (new_edge two too) (λ same. apart same.0));
        few_into = λ node. ⊎_elim
            (λ same. let here : FAILURE_COUNT + index ≡ node = sym too ∙ same in
            omega (arith, one_more_into (edges ++ one ∷ []) two node same, ap (count_into (edges ++ one ∷ [])) here, one_into))
            (λ other. let few = with_one.few_into node in omega (arith, no_more_into (edges ++ one ∷ []) two node other)) (cases_eq two.target node);
        none_into = λ node past. no_more_into (edges ++ one ∷ []) two node (λ same. omega (arith, too, same)) ∙ with_one.none_into node past;
      }

module _ (index : ℕ) (kinds : List Kind) (edges : List Edge) (state : Lcg) (is : IsDraft index kinds edges) where
  abbrev node : ℕ
  node = FAILURE_COUNT + index

  abbrev one : Edge
  one = edge_drawn (draw node 0 state) node (after_words 5 state)

  abbrev two : Edge
  two = edge_drawn (draw node 1 state) node (after_words 9 state)

  first_drawn : IsDrawnEdge (FAILURE_COUNT + suc index) one
  first_drawn = is_drawn (FAILURE_COUNT + suc index) (draw node 0 state) node (after_words 5 state) (omega arith) (omega arith) (omega arith)

  second_drawn : IsDrawnEdge (FAILURE_COUNT + suc index) two
  second_drawn = is_drawn (FAILURE_COUNT + suc index) (draw node 1 state) node (after_words 9 state) (omega arith) (omega arith) (omega arith)

  -- one of the new edges goes into the new node
  into_it : (other : ℕ) → node ≡ other → 0 < count_into (edges_drawn node state) other
  into_it other same =
      omega (
        arith,
        sum_by-cons (λ (e : Edge). cond (eqb e.target other) 1 0) one (cond (has_two node state) (two ∷ []) []),
        ap {B = ℕ} (λ b. cond b 1 0) (eq-eqb node other same),
      )

  some_into_each : (other : ℕ) → FAILURE_COUNT ≤ other → other < FAILURE_COUNT + suc index → 0 < count_into (edges ++ edges_drawn node state) other
  some_into_each other low high = ⊎_elim
      (λ less. let before = is.some_into other low less in
      omega (arith, sum_by-append (λ (e : Edge). cond (eqb e.target other) 1 0) edges (edges_drawn node state)))
      (λ last. let own = into_it other (omega arith) in
      omega (arith, sum_by-append (λ (e : Edge). cond (eqb e.target other) 1 0) edges (edges_drawn node state))) (cases_lt other node)

  -- the next draft
  next_draft : IsDraft (suc index) (kinds ++ kind_drawn node state ∷ []) (edges ++ edges_drawn node state)
  next_draft = record {
    count = omega (arith, length_push kinds (kind_drawn node state), is.count);
    discrepancies = All-push IsDiscrepancy kinds (kind_drawn node state) is.discrepancies (IsDiscrepancy-kind_drawn node state);
    drawn = cond_both (has_two node state) (two ∷ []) [] (λ more. AreDrawnEdges (FAILURE_COUNT + suc index) (edges ++ one ∷ more))
        (λ apart. subst (AreDrawnEdges (FAILURE_COUNT + suc index)) (append_assoc edges (one ∷ []) (two ∷ []))
        (with_both index edges is.drawn one refl first_drawn two refl second_drawn
        (λ same. eqb-false (draw node 0 state) (draw node 1 state) (not-true (eqb (draw node 0 state) (draw node 1 state)) apart) same)))
        (λ _. with_one index edges is.drawn one refl first_drawn);
    few = cond_both (has_two node state) (two ∷ []) [] (λ more. length (edges ++ one ∷ more) ≤ 2 * suc index)
        (λ _. let few = is.few in omega (arith, length-append edges (one ∷ two ∷ [])))
        (λ _. let few = is.few in omega (arith, length-append edges (one ∷ [])));
    some_into = some_into_each;
  }

-- each draft is so
drafts : (state : Lcg) (index : ℕ) → IsDraft index (draft_after state index).kinds (draft_after state index).edges
drafts state zero = record {
  count = refl;
  discrepancies = All-nil IsDiscrepancy;
  drawn = record {
    each = All-nil (IsDrawnEdge FAILURE_COUNT);
    differ = λ i j d before within. absurd (omega arith);
    few_into = λ node. omega arith;
    none_into = λ node past. refl;
  };
  few = omega arith;
  some_into = λ node low high. absurd (omega arith);
}
drafts state (suc index) =
    next_draft index (draft_after state index).kinds (draft_after state index).edges (draft_after state index).state (drafts state index)

-- ---- the graph

module _ (index : ℕ) (some : 1 ≤ index) (few : index ≤ 4 * MAX_CASE_SIZE) (kinds : List Kind) (edges : List Edge) (is : IsDraft index kinds edges) where
  abbrev graph : Tfpg
  graph = drawn_graph kinds edges

  abbrev all_kinds : List Kind
  all_kinds = failure_kinds FAILURE_COUNT ++ kinds

  node_count : length (named_nodes 0 all_kinds) ≡ FAILURE_COUNT + index
  node_count = omega (arith, length-named_nodes 0 all_kinds, length-append (failure_kinds FAILURE_COUNT) kinds, is.count)

  kind_count : length all_kinds ≡ FAILURE_COUNT + index
  kind_count = omega (arith, length-append (failure_kinds FAILURE_COUNT) kinds, is.count)

  -- the node of a number
  node_is : (k : ℕ) (d : Node) → k < FAILURE_COUNT + index → get_or (named_nodes 0 all_kinds) k d ≡ drawn_node k (get_or all_kinds k (Failure 0))
  node_is k d within =
      get_or-named_nodes 0 all_kinds k d (Failure 0) (omega (arith, kind_count))
      ∙ ap (λ n. drawn_node n (get_or all_kinds k (Failure 0))) (let same : 0 + k ≡ k = omega arith in same)

  -- whether it is a failure mode
  kind_is : (k : ℕ) → k < FAILURE_COUNT + index → is_kind_at is_failure graph k ≡ is_failure (get_or all_kinds k (Failure 0))
  kind_is k within =
      let nobody : Node = drawn_node 0 (Failure 0) in
      ap (λ (o : Option Node). option_map_or is_failure (option_map (λ n. n.kind) o) false)
      (slice_get-get_or (named_nodes 0 all_kinds) k nobody (omega (arith, node_count)) ∙ ap Some (node_is k nobody within))

  discrepancy_at : (k : ℕ) → FAILURE_COUNT ≤ k → k < FAILURE_COUNT + index → is_kind_at is_failure graph k ≡ false
  discrepancy_at k low high =
      kind_is k high ∙ ap is_failure (get_or-append_right (failure_kinds FAILURE_COUNT) kinds FAILURE_COUNT k (Failure 0) (length-failure_kinds FAILURE_COUNT) low)
      ∙ no_failure (get_or kinds (k - FAILURE_COUNT) (Failure 0)) (is.discrepancies (k - FAILURE_COUNT) (Failure 0) (omega (arith, is.count)))

  failure_at : (k : ℕ) → k < FAILURE_COUNT → is_kind_at is_failure graph k ≡ true
  failure_at k low =
      kind_is k (omega arith) ∙ ap is_failure (get_or_append_left (failure_kinds FAILURE_COUNT) kinds (Failure 0) k (omega (arith, length-failure_kinds FAILURE_COUNT)))
      ∙ ap is_failure (failure_kind FAILURE_COUNT k (Failure 0) low)

  valid_edge : (edge : Edge) → IsDrawnEdge (FAILURE_COUNT + index) edge → IsValidEdge graph edge
  valid_edge edge drawn = record {
    source = let early = drawn.earlier in let high = drawn.high in omega (arith, node_count);
    target = let high = drawn.high in omega (arith, node_count);
    into_discrepancy = ap not (discrepancy_at edge.target drawn.low drawn.high);
    no_self_edge = λ same. let early = drawn.earlier in omega arith;
    least = drawn.least;
    greatest = drawn.greatest;
    some_mode = ⊎_elim (λ one. omega arith) (λ both. omega arith) drawn.modes;
    own_modes = ⊎_elim (λ one. omega arith) (λ both. omega arith) drawn.modes;
  }

  -- a walk goes to later nodes
  walk_rises : (from to steps : ℕ) → WalksInNoTime graph from to (suc steps) → from < to
  walk_rises from to zero walk =
      let early = (All-contains (IsDrawnEdge (FAILURE_COUNT + index)) edges walk.0 is.drawn.each walk.1).earlier in omega (arith, walk.2, walk.4)
  walk_rises from to (suc steps) walk =
      let early = (All-contains (IsDrawnEdge (FAILURE_COUNT + index)) edges walk.0 is.drawn.each walk.1).earlier in
      let rest = walk_rises walk.0.target to steps walk.4 in omega (arith, walk.2)

  failure_count_is : length (failures graph) ≤ FAILURE_COUNT
  failure_count_is =
      omega (
        arith,
        length-numbers_from (λ (node : Node). is_failure node.kind) 0 (named_nodes 0 all_kinds),
        count-named_nodes 0 all_kinds,
        sum_by-append (λ kind. cond (is_failure kind) 1 0) (failure_kinds FAILURE_COUNT) kinds,
        count-none kinds is.discrepancies,
        count_by-le-length is_failure (failure_kinds FAILURE_COUNT),
        length-failure_kinds FAILURE_COUNT,
      )

  incoming_is : (node : ℕ) → length (incoming graph node) ≡ count_into edges node
  incoming_is node = length-numbers_from (λ (edge : Edge). eqb edge.target node) 0 edges

  has_edge : HasIncomingBefore graph (FAILURE_COUNT + index)
  has_edge node within discrepancy none = ⊎_elim
      (λ low. false≢true (sym (ap not (failure_at node low)) ∙ discrepancy))
      (λ high. let into = is.drawn in let own = is.some_into node high within in omega (arith, incoming_is node, ap length none)) (cases_lt node FAILURE_COUNT)

  valid_so_far : IsValidSoFar graph
  valid_so_far = record {
    node_names = λ k d within.
        let inside : k < FAILURE_COUNT + index = omega (arith, node_count) in
        subst (λ (node : Node). IsTrue (is_name node.name)) (sym (node_is k d inside)) (is_name-drawn_name k (omega arith));
    nodes_differ = λ i j d before within same.
        let inside : j < FAILURE_COUNT + index = omega (arith, node_count) in
        let one : i ≡ j = name_once i j (omega arith) (omega arith)
        (sym (ap (λ (node : Node). node.name) (node_is i d (omega arith))) ∙ same ∙ ap (λ (node : Node). node.name) (node_is j d inside)) in
        omega arith;
    node_numbers = λ k d within.
        let inside : k < FAILURE_COUNT + index = omega (arith, node_count) in
        subst (λ (node : Node). HasValidNumber node.kind) (sym (node_is k d inside))
        (All-append HasValidNumber (failure_kinds FAILURE_COUNT) kinds (failure_numbers FAILURE_COUNT (omega arith)) (All-weaker IsDiscrepancy HasValidNumber discrepancy_number kinds is.discrepancies)
        k (Failure 0) (omega (arith, kind_count)));
    mode_names = All-cons (λ mode. IsTrue (is_name mode)) (codes "M0") (codes "M1" ∷ []) refl (All-cons (λ mode. IsTrue (is_name mode)) (codes "M1") [] refl (All-nil (λ mode. IsTrue (is_name mode))));
    modes_differ = all_pairs_push (λ a b. a ≢ b) (codes "M0" ∷ []) (codes "M1") (λ i j d before within. absurd (omega arith))
        (All-cons (λ a. a ≢ codes "M1") (codes "M0") [] (λ same. false≢true (ap (λ mode. bytes_eq mode (codes "M1")) same)) (All-nil (λ a. a ≢ codes "M1")));
    edges = All-weaker (IsDrawnEdge (FAILURE_COUNT + index)) (IsValidEdge graph) valid_edge edges is.drawn.each;
    edges_differ = is.drawn.differ;
    few_nodes = omega (arith, node_count);
    few_failures = omega (arith, failure_count_is);
    few_edges = let greatest = is.few in omega arith;
    few_modes = omega arith;
    few_incoming = λ node. let greatest = is.drawn.few_into node in omega (arith, incoming_is node);
  }

  -- A graph of a draft is valid.
  valid : IsValid graph
  valid = record {
    so_far = valid_so_far;
    has_incoming = λ node within discrepancy. has_edge node (omega (arith, node_count)) discrepancy;
    no_zero_cycle = λ node steps walk. let less = walk_rises node node steps walk in omega arith;
    has_mode = omega arith;
  }

-- A generated graph is valid.
pub generated_valid : (number size : ℕ) → 1 ≤ size → size ≤ MAX_CASE_SIZE → IsValid (generated_graph number size)
generated_valid number size some few =
    valid (4 * size) (omega arith) (omega arith) (draft_of number size).kinds (draft_of number size).edges (drafts (generator number GRAPH_STREAM) (4 * size))

-- It has as many discrepancies as its size says.
pub generated_kinds : (number size : ℕ) → length (draft_of number size).kinds ≡ 4 * size
generated_kinds number size = (drafts (generator number GRAPH_STREAM) (4 * size)).count

-- It has 16 failure modes.
pub generated_failures : (number size : ℕ) → length (failures (generated_graph number size)) ≡ FAILURE_COUNT
generated_failures number size =
    let kinds : List Kind = (draft_of number size).kinds in
    let is = drafts (generator number GRAPH_STREAM) (4 * size) in
    let own : count_by is_failure (failure_kinds FAILURE_COUNT) ≡ FAILURE_COUNT = refl in
    omega (
      arith,
      length-numbers_from (λ (node : Node). is_failure node.kind) 0 (named_nodes 0 (failure_kinds FAILURE_COUNT ++ kinds)),
      count-named_nodes 0 (failure_kinds FAILURE_COUNT ++ kinds),
      sum_by-append (λ kind. cond (is_failure kind) 1 0) (failure_kinds FAILURE_COUNT) kinds,
      count-none kinds is.discrepancies,
      own,
    )

-- Each of its edges is active in the first mode alone, or in both.
pub generated_modes : (number size : ℕ) → All HasDrawnModes (draft_of number size).edges
generated_modes number size = λ k d within. ((drafts (generator number GRAPH_STREAM) (4 * size)).drawn.each k d within).modes
