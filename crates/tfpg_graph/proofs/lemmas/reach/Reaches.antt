-- What a set of failure modes reaches, and how it is found.
use Rattle.std.proofs.Common.{◌≡◌, ℕ, ◌+◌, ◌<◌, ◌≤◌, Bool, false, List, [], map, length, Option, Some, None, IfSome, IsTrue, ⊎_elim, refl, ap, sym, ◌∙◌, subst, arith}
use Rattle.std.specs.List.{All, Contains}
use Rattle.std.specs.Option.{IsSomeAnd, option_map_or}
use Rattle.std.specs.Cmp.{nat_eq_equiv}
use Rattle.std.proofs.lemmas.Bool.{false≢true, eqb-true, cases_lt}
use Rattle.std.proofs.lemmas.List.{length-map}
use Rattle.std.proofs.lemmas.List.Elements.{All-nil, All-get_or, All-contains, All-weaker}
use Rattle.std.proofs.lemmas.Map.Views.{list_any-from_Contains, Contains-from_any}
use Rattle.std.proofs.lemmas.Option.{slice_get-map, slice_get_within, get_or_from_slice_get, same_Some}
use Rattle.tfpg_base.specs.Set.{with_member}
use Rattle.tfpg_base.proofs.lemmas.lists.Elements.{All-from_members}
use Rattle.tfpg_base.proofs.lemmas.Sets.{same_from_members, Contains-with_member, with_member-keeps, length-with_new_member, All-with_member}
use Rattle.tfpg_graph.specs.declared.kind.Kind.{Kind}
use Rattle.tfpg_graph.specs.declared.kind.Lag.{Lag}
use Rattle.tfpg_graph.specs.declared.kind.Kind.TheVariants.{Failure, Or, And}
use Rattle.tfpg_graph.specs.declared.limits.TheConstants.{MAX_NODES}
use Rattle.tfpg_graph.specs.Graph.{Tfpg, is_failure, is_or, is_and, is_kind_at, kind_at, failures, failure_at, edges_into}
use Rattle.tfpg_base.specs.NodeSet.{IsNodeSet}
use Rattle.tfpg_graph.specs.Reach.{IsClosed, Reaches, IsReach, is_among}
use Rattle.tfpg_graph.specs.Valid.{IsValid}
use Rattle.tfpg_graph.specs.inside.reach.Reaching.{IsFedAs, IsFed, IsFullBefore, AreReached, Widens}
use Rattle.tfpg_base.proofs.lemmas.lists.Numbered.{All-below-numbers_from}
use Rattle.tfpg_graph.proofs.lemmas.NodeAt.{kind_test}
use Rattle.tfpg_base.proofs.lemmas.NodeSets.{IsNodeSet-nil, IsNodeSet-with}

-- ---- the kind of a node

module _ (graph : Tfpg) (node : ℕ) where
  -- what the tests on a node's kind say it by
  kind_from_is_or : IsTrue (is_kind_at is_or graph node) → (lag : Option Lag) × (kind_at graph node ≡ Some (Or lag))
  kind_from_is_or passes = by (kind_at graph node) refl passes
    where
      by : (kind : Option Kind) → kind_at graph node ≡ kind
          → IsTrue (option_map_or is_or kind false)
          → (lag : Option Lag) × (kind_at graph node ≡ Some (Or lag))
      by None is passes = absurd (false≢true passes)
      by (Some (Failure rarity)) is passes = absurd (false≢true passes)
      by (Some (Or lag)) is passes = (lag, is)
      by (Some (And lag)) is passes = absurd (false≢true passes)

  kind_from_is_and : IsTrue (is_kind_at is_and graph node) → (lag : Option Lag) × (kind_at graph node ≡ Some (And lag))
  kind_from_is_and passes = by (kind_at graph node) refl passes
    where
      by : (kind : Option Kind) → kind_at graph node ≡ kind
          → IsTrue (option_map_or is_and kind false)
          → (lag : Option Lag) × (kind_at graph node ≡ Some (And lag))
      by None is passes = absurd (false≢true passes)
      by (Some (Failure rarity)) is passes = absurd (false≢true passes)
      by (Some (Or lag)) is passes = absurd (false≢true passes)
      by (Some (And lag)) is passes = (lag, is)

  -- what has a kind is a node
  kind_at-within : (kind : Kind) → kind_at graph node ≡ Some kind → node < length graph.nodes
  kind_at-within kind is =
      let within = slice_get_within (map (λ n. n.kind) graph.nodes) node kind
      (slice_get-map (λ n. n.kind) graph.nodes node ∙ is) in
      omega (arith, within, length-map graph.nodes (λ n. n.kind))

-- ---- the test of being one of some nodes

-- such a node passes
pub among-from_Contains : (nodes : List ℕ) (node : ℕ) → Contains nodes node → IsTrue (is_among nodes node)
among-from_Contains nodes node member = list_any-from_Contains nat_eq_equiv node nodes member

-- what passes is such a node
pub Contains-from_among : (nodes : List ℕ) (node : ℕ) → IsTrue (is_among nodes node) → Contains nodes node
Contains-from_among nodes node among = Contains-from_any eqb-true node nodes among

-- ---- what feeds a node

module _ (graph : Tfpg) (set nodes : List ℕ) (reached : All (Reaches graph set) nodes) (node : ℕ) where
  -- a closed test passes what is fed by nodes that are reached
  fed_passes : (kind : Kind) → kind_at graph node ≡ Some kind → IsFedAs graph nodes node kind → (test : ℕ → Bool)
      → IsClosed graph set test → IsTrue (test node)
  fed_passes (Failure rarity) is fed test closed = absurd fed
  fed_passes (Or lag) is fed test closed =
      closed.or_nodes node (kind_test graph node is_or (Or lag) is) fed.0 fed.1
      (All-contains (Reaches graph set) nodes fed.0.source reached fed.2 test closed)
  fed_passes (And lag) is fed test closed =
      closed.and_nodes node (kind_test graph node is_and (And lag) is)
      (All-weaker (λ edge. Contains nodes edge.source) (λ edge. IsTrue (test edge.source))
      (λ edge member. All-contains (Reaches graph set) nodes edge.source reached member test closed)
      (edges_into graph node) fed)

  -- what is fed by nodes that are reached is reached
  pub fed_is_reached : IsFed graph nodes node → Reaches graph set node
  fed_is_reached fed = by (kind_at graph node) refl fed
    where
      by : (kind : Option Kind) → kind_at graph node ≡ kind → IsSomeAnd kind (IsFedAs graph nodes node)
          → Reaches graph set node
      by None is fed = absurd fed
      by (Some kind) is fed = fed_passes kind is fed

  -- with one node more that is reached, all are reached
  reached-with : Reaches graph set node → All (Reaches graph set) (with_member node nodes)
  reached-with reaches = All-with_member (Reaches graph set) node nodes reaches reached

-- ---- sets that grow

-- one after the other
pub Widens-along : (graph : Tfpg) (a b c : List ℕ) → Widens graph a b → Widens graph b c → Widens graph a c
Widens-along graph a b c first then = record {
  is_set = λ set. then.is_set (first.is_set set);
  keeps = λ node member. then.keeps node (first.keeps node member);
  reached = λ set reached. then.reached set (first.reached set reached);
  longer = omega (arith, first.longer, then.longer);
}

-- a set with one node more that it feeds
pub Widens-with : (graph : Tfpg) (nodes : List ℕ) (node : ℕ) → node < MAX_NODES → (Contains nodes node → ⊥)
    → IsFed graph nodes node → Widens graph nodes (with_member node nodes)
Widens-with graph nodes node small new fed = record {
  is_set = IsNodeSet-with node nodes small;
  keeps = with_member-keeps node nodes;
  reached = λ set reached. reached-with graph set nodes reached node (fed_is_reached graph set nodes reached node fed);
  longer = omega (arith, length-with_new_member node nodes new);
}

-- what grows stays reached
pub AreReached-widened : (graph : Tfpg) (set old new : List ℕ) → Widens graph old new → AreReached graph set old
    → AreReached graph set new
AreReached-widened graph set old new widens are = record {
  is_set = widens.is_set are.is_set;
  own = λ position node member at. widens.keeps node (are.own position node member at);
  reached = widens.reached set are.reached;
}

-- what a set becomes by a node that is new in it and that it feeds
pub Widens-to : (graph : Tfpg) (old new : List ℕ) (node : ℕ) → new ≡ with_member node old → node < MAX_NODES
    → (Contains old node → ⊥) → IsFed graph old node → Widens graph old new × (length old < length new)
Widens-to graph old new node is small lacks fed =
    subst (λ (nodes : List ℕ). Widens graph old nodes × (length old < length nodes)) (sym is)
    (Widens-with graph old node small lacks fed, omega (arith, length-with_new_member node old lacks))

-- one node further up: where nothing is added, all before the next node that are fed are there
pub IsFullBefore-more : (graph : Tfpg) (old new : List ℕ) (node : ℕ) → new ≡ old
    → (IsFed graph new node → Contains new node) → IsFullBefore graph old node → IsFullBefore graph new (node + 1)
IsFullBefore-more graph old new node same here before other within fed =
    ⊎_elim
    (λ earlier. subst (λ (nodes : List ℕ). IsFed graph nodes other → Contains nodes other) (sym same)
    (before other earlier) fed)
    (λ last. let is : node ≡ other = omega (arith, within, last) in
    subst (λ (n : ℕ). IsFed graph new n → Contains new n) is here fed)
    (cases_lt other node)

-- ---- the nodes of the set's own failure modes

-- among these are the nodes of the set's failure modes before a position, and all are reached
pub record AreReachedBefore (graph : Tfpg) (set : List ℕ) (end : ℕ) (nodes : List ℕ) : Type 0 where
  pub is_set : IsNodeSet nodes
  pub own : (position node : ℕ) → position < end → Contains set position → failure_at graph position ≡ Some node → Contains nodes node
  pub reached : All (Reaches graph set) nodes

module _ (graph : Tfpg) (set : List ℕ) where
  -- before the first position
  pub AreReachedBefore-none : AreReachedBefore graph set 0 []
  AreReachedBefore-none = record {
    is_set = IsNodeSet-nil;
    own = λ position node before. absurd (omega arith);
    reached = All-nil (Reaches graph set);
  }

  -- the node of a failure mode in the set is reached
  pub own_is_reached : (position node : ℕ) → Contains set position → failure_at graph position ≡ Some node → Reaches graph set node
  own_is_reached position node member at test closed =
      subst (λ (own : Option ℕ). IfSome own (λ n. IsTrue (test n))) at
      (All-contains (λ p. IfSome (failure_at graph p) (λ n. IsTrue (test n))) set position closed.members member)

  -- the number of such a node is small
  pub own_small : IsValid graph → (position node : ℕ) → failure_at graph position ≡ Some node → node < MAX_NODES
  own_small valid position node at =
      let within = slice_get_within (failures graph) position node at in
      let below : node < length graph.nodes = subst (λ (n : ℕ). n < length graph.nodes)
      (get_or_from_slice_get (failures graph) position node 0 at)
      (All-get_or (λ number. number < length graph.nodes) (failures graph) position 0 within
      (All-below-numbers_from (λ n. is_failure n.kind) graph.nodes)) in
      omega (arith, below, valid.so_far.few_nodes)

  module _ (end : ℕ) (nodes : List ℕ) (are : AreReachedBefore graph set end nodes) where
    -- one position on, with its node
    pub AreReachedBefore-with : (node : ℕ) → node < MAX_NODES → Contains set end → failure_at graph end ≡ Some node
        → AreReachedBefore graph set (end + 1) (with_member node nodes)
    AreReachedBefore-with node small member at = record {
      is_set = IsNodeSet-with node nodes small are.is_set;
      own = λ position other before within there. ⊎_elim
          (λ earlier. with_member-keeps node nodes other (are.own position other earlier within there))
          (λ last. let same : position ≡ end = omega (arith, before, last) in
          subst (λ (n : ℕ). Contains (with_member node nodes) n)
          (same_Some node other (sym at ∙ ap (failure_at graph) (sym same) ∙ there))
          (Contains-with_member node nodes))
          (cases_lt position end);
      reached = reached-with graph set nodes are.reached node (own_is_reached end node member at);
    }

    -- one position on, that is not in the set
    pub AreReachedBefore-without : (Contains set end → ⊥) → AreReachedBefore graph set (end + 1) nodes
    AreReachedBefore-without lacks = record {
      is_set = are.is_set;
      own = λ position other before within there. ⊎_elim
          (λ earlier. are.own position other earlier within there)
          (λ last. let same : position ≡ end = omega (arith, before, last) in
          absurd (lacks (subst (Contains set) same within)))
          (cases_lt position end);
      reached = are.reached;
    }

    -- one position on, where what is added is what the node of the position adds
    pub AreReachedBefore-to : (more : List ℕ) (node : ℕ) → IsValid graph → more ≡ with_member node nodes
        → Contains set end → failure_at graph end ≡ Some node → AreReachedBefore graph set (end + 1) more
    AreReachedBefore-to more node valid is member at =
        subst (λ (all : List ℕ). AreReachedBefore graph set (end + 1) all) (sym is)
        (AreReachedBefore-with node (own_small valid end node at) member at)

    -- after the last position
    pub AreReachedBefore-all : length (failures graph) ≤ end → AreReached graph set nodes
    AreReachedBefore-all all = record {
      is_set = are.is_set;
      own = λ position node within there. are.own position node (omega (arith, all, slice_get_within (failures graph) position node there)) within there;
      reached = are.reached;
    }

-- ---- the whole reach

-- nodes that have those of a set's failure modes pass them
own_passes : (graph : Tfpg) (set nodes : List ℕ)
    → ((position node : ℕ) → Contains set position → failure_at graph position ≡ Some node → Contains nodes node)
    → (position : ℕ) → Contains set position → (own : Option ℕ) → failure_at graph position ≡ own
    → IfSome own (λ node. IsTrue (is_among nodes node))
own_passes graph set nodes has position member None at = tt
own_passes graph set nodes has position member (Some node) at = among-from_Contains nodes node (has position node member at)

module _ (graph : Tfpg) (set nodes : List ℕ) (are : AreReached graph set nodes)
    (full : IsFullBefore graph nodes (length graph.nodes)) where
  -- the test of being one of the nodes passes what they feed
  fed_passes_too : (node : ℕ) (kind : Kind) → kind_at graph node ≡ Some kind → IsFedAs graph nodes node kind
      → IsTrue (is_among nodes node)
  fed_passes_too node kind is fed =
      among-from_Contains nodes node (full node (kind_at-within graph node kind is)
      (subst (λ (kind : Option Kind). IsSomeAnd kind (IsFedAs graph nodes node)) (sym is) fed))

  -- where nothing more is fed, the test of being one of the nodes is closed
  is_among-closed : IsClosed graph set (is_among nodes)
  is_among-closed = record {
    members = All-from_members (λ position. IfSome (failure_at graph position) (λ node. IsTrue (is_among nodes node))) set
        (λ position member. own_passes graph set nodes are.own position member (failure_at graph position) refl);
    or_nodes = λ node is edge into passes. let kind = kind_from_is_or graph node is in
        fed_passes_too node (Or kind.0) kind.1 (edge, into, Contains-from_among nodes edge.source passes);
    and_nodes = λ node is all. let kind = kind_from_is_and graph node is in
        fed_passes_too node (And kind.0) kind.1
        (All-weaker (λ edge. IsTrue (is_among nodes edge.source)) (λ edge. Contains nodes edge.source)
        (λ edge passes. Contains-from_among nodes edge.source passes) (edges_into graph node) all);
  }

  -- and these are the nodes that the set reaches
  pub IsReach-full : IsReach graph set nodes
  IsReach-full = record {
    rising = are.is_set.rising;
    exact = λ node. (
      λ member. All-contains (Reaches graph set) nodes node are.reached member,
      λ reaches.
          Contains-from_among nodes node (reaches (is_among nodes) is_among-closed),
    );
  }

-- ---- laws of the reach

module _ (graph : Tfpg) (set nodes : List ℕ) (is : IsReach graph set nodes) where
  -- The reach is closed.
  pub reach_is_closed : IsClosed graph set (is_among nodes)
  reach_is_closed = record {
    members = All-from_members (λ position. IfSome (failure_at graph position) (λ node. IsTrue (is_among nodes node))) set
        (λ position member. own_passes graph set nodes
        (λ position node member at. (is.exact node).1 (own_is_reached graph set position node member at))
        position member (failure_at graph position) refl);
    or_nodes = λ node kind edge into passes. among-from_Contains nodes node
        ((is.exact node).1 (λ test closed. closed.or_nodes node kind edge into
        ((is.exact edge.source).0 (Contains-from_among nodes edge.source passes) test closed)));
    and_nodes = λ node kind all. among-from_Contains nodes node
        ((is.exact node).1 (λ test closed. closed.and_nodes node kind
        (All-weaker (λ edge. IsTrue (is_among nodes edge.source)) (λ edge. IsTrue (test edge.source))
        (λ edge passes. (is.exact edge.source).0 (Contains-from_among nodes edge.source passes) test closed)
        (edges_into graph node) all)));
  }

  -- Each closed test passes all of it.
  pub reach_is_least : (test : ℕ → Bool) → IsClosed graph set test → All (λ node. IsTrue (test node)) nodes
  reach_is_least test closed = All-from_members (λ node. IsTrue (test node)) nodes
      (λ node member. (is.exact node).0 member test closed)

  -- There is one.
  pub reach_is_one : (others : List ℕ) → IsReach graph set others → nodes ≡ others
  reach_is_one others are =
      same_from_members nodes others is.rising
      are.rising
      (λ node member. (are.exact node).1 ((is.exact node).0 member))
      (λ node member. (is.exact node).1 ((are.exact node).0 member))
