-- What a set reaches with one failure mode more, as it is found.
use Rattle.std.proofs.Common.{◌≡◌, ℕ, ◌+◌, ◌<◌, ◌≤◌, ◌==◌, ◌⊎◌, inl, inr, ⊎_elim, List, [], ◌∷◌, ◌++◌, length, get_or, drop, Option, Some, None, IfSome, IsTrue, ap, sym, ◌∙◌, subst, subst₂}
use Rattle.std.specs.List.{All, Contains}
use Rattle.std.specs.Option.{IsSomeAnd}
use Rattle.std.proofs.lemmas.Bool.{eqb-true}
use Rattle.std.proofs.lemmas.List.{drop_more, drop_all}
use Rattle.std.proofs.lemmas.List.Elements.{All-nil, All-cons, All-contains, Contains-append_left, Contains-append_right}
use Rattle.std.proofs.lemmas.Option.{same_Some}
use Rattle.tfpg_base.specs.NodeSet.{IsNodeSet}
use Rattle.tfpg_base.specs.Set.{IsSubset, with_member}
use Rattle.tfpg_base.proofs.lemmas.Sets.{Contains-with_member, with_member-keeps, with_member-only, All-with_member}
use Rattle.tfpg_base.proofs.lemmas.lists.Elements.{All-from_members, Contains-nil, Contains-head, Contains-tail, Contains-cons_cases, Contains-at}
use Rattle.tfpg_base.proofs.lemmas.lists.Passing.{Contains-filter_only}
use Rattle.tfpg_graph.specs.declared.edge.Edge.{Edge}
use Rattle.tfpg_graph.specs.declared.kind.Kind.{Kind}
use Rattle.tfpg_graph.specs.declared.kind.Kind.TheVariants.{Failure, Or, And}
use Rattle.tfpg_graph.specs.Graph.{Tfpg, kind_at, failure_at, edges_into}
use Rattle.tfpg_graph.specs.Onward.{LeadsTo, AreOnward}
use Rattle.tfpg_graph.specs.Reach.{Reaches, IsReach}
use Rattle.tfpg_graph.specs.inside.reach.Reaching.{IsFedAs, IsFed, IsFullBut, AreReached, Widens}
use Rattle.tfpg_graph.specs.inside.zero_cycle.ZeroSearch.{row}
use Rattle.tfpg_graph.proofs.lemmas.reach.Reaches.{fed_is_reached, own_is_reached, AreReached-widened, IsReach-full}

-- where each item has the one or the other, some item has the one, or all have the other
some_or_all : {X : Type 0} (P Q : X → Type 0) (xs : List X) → ((x : X) → Contains xs x → P x ⊎ Q x) → ((x : X) × Contains xs x × P x) ⊎ All Q xs
some_or_all P Q [] each = inr (All-nil Q)
some_or_all P Q (x ∷ xs) each =
    ⊎_elim (λ here. inl (x, Contains-head x xs, here))
    (λ holds. ⊎_elim (λ found. inl (found.0, Contains-tail x xs found.0 found.1, found.2)) (λ all. inr (All-cons Q x xs holds all)) (some_or_all P Q xs (λ y member. each y (Contains-tail x xs y member))))
    (each x (Contains-head x xs))

-- ---- one node more

module _ (graph : Tfpg) (old new : List ℕ) (more : ℕ) (only : (other : ℕ) → Contains new other → (more ≡ other) ⊎ Contains old other) (node : ℕ) where
  -- an edge into a node is one of the graph
  leads_by : (edge : Edge) → Contains (edges_into graph node) edge → more ≡ edge.source → LeadsTo graph.edges more node
  leads_by edge into same =
      let found = Contains-filter_only (λ (e : Edge). e.target == node) graph.edges edge into in
      (edge, Contains-at graph.edges found.0 edge found.1, sym same, eqb-true edge.target node found.2)

  fed_as : (kind : Kind) → IsFedAs graph new node kind → LeadsTo graph.edges more node ⊎ IsFedAs graph old node kind
  fed_as (Failure rarity) fed = absurd fed
  fed_as (Or lag) fed = ⊎_elim (λ same. inl (leads_by fed.0 fed.1 same)) (λ before. inr (fed.0, fed.1, before)) (only fed.0.source fed.2)
  fed_as (And lag) fed =
      ⊎_elim (λ some. inl (leads_by some.0 some.1 some.2)) (λ all. inr all)
      (some_or_all (λ (edge : Edge). more ≡ edge.source) (λ (edge : Edge). Contains old edge.source) (edges_into graph node)
      (λ edge into. only edge.source (All-contains (λ (e : Edge). Contains new e.source) (edges_into graph node) edge fed into)))

  -- What nodes feed with one more, an edge leads to from that one, or they feed it without.
  fed_before : IsFed graph new node → LeadsTo graph.edges more node ⊎ IsFed graph old node
  fed_before fed = by (kind_at graph node) fed
    where
      by : (kind : Option Kind) → IsSomeAnd kind (IsFedAs graph new node) → LeadsTo graph.edges more node ⊎ IsSomeAnd kind (IsFedAs graph old node)
      by None fed = absurd fed
      by (Some kind) fed = fed_as kind fed

-- ---- what is pending

module _ (graph : Tfpg) (rows : List (List ℕ)) (old pending : List ℕ) where
  -- where the first of a rest is passed, the rest is left
  IsFullBut-passed : (first : ℕ) (others : List ℕ) → IsFullBut graph rows (first ∷ others) pending old → (IsFed graph old first → Contains old first) → IsFullBut graph rows others pending old
  IsFullBut-passed first others full here node fed =
      ⊎_elim
      (λ rest. ⊎_elim (λ same. inr (inr (subst (Contains old) same (here (subst (IsFed graph old) (sym same) fed))))) inl (Contains-cons_cases first others node rest))
      inr
      (full node fed)

  -- where the first of a rest is added, it is pending
  IsFullBut-added : (first : ℕ) (others new : List ℕ) → IsFullBut graph rows (first ∷ others) pending old → AreOnward (length graph.nodes) graph.edges rows
      → ((other : ℕ) → Contains new other → (first ≡ other) ⊎ Contains old other) → Contains new first → ((other : ℕ) → Contains old other → Contains new other)
      → IsFullBut graph rows others (with_member first pending) new
  IsFullBut-added first others new full onward only here keeps node fed =
      ⊎_elim
      (λ leads. inr (inl (first, Contains-with_member first pending, (onward.exact first node).1 leads)))
      (λ before.
      ⊎_elim
      (λ rest. ⊎_elim (λ same. inr (inr (subst (Contains new) same here))) inl (Contains-cons_cases first others node rest))
      (λ either. ⊎_elim (λ lead. inr (inl (lead.0, with_member-keeps first pending lead.0 lead.1, lead.2))) (λ there. inr (inr (keeps node there))) either)
      (full node before))
      (fed_before graph old new first only node fed)

  -- what is gone on from is no longer pending, and its row is left
  pub IsFullBut-opened : (from : ℕ) → IsFullBut graph rows [] (from ∷ pending) old → IsFullBut graph rows (row rows from) pending old
  IsFullBut-opened from full node fed =
      ⊎_elim
      (λ none. absurd (Contains-nil node none))
      (λ either. ⊎_elim
      (λ lead. ⊎_elim (λ same. inl (subst (λ (source : ℕ). Contains (row rows source) node) (sym same) lead.2)) (λ later. inr (inl (lead.0, later, lead.2))) (Contains-cons_cases from pending lead.0 lead.1))
      (λ there. inr (inr there))
      either)
      (full node fed)

-- ---- along the edges from a node

module _ (graph : Tfpg) (rows : List (List ℕ)) (nodes : List ℕ) (index : ℕ) (within : index < length nodes) (old pending : List ℕ) (full : IsFullBut graph rows (drop index nodes) pending old) where
  abbrev next : ℕ
  next = get_or nodes index 0

  first_left : IsFullBut graph rows (next ∷ drop (index + 1) nodes) pending old
  first_left = subst (λ (rest : List ℕ). IsFullBut graph rows rest pending old) (drop_more nodes index 0 within) full

  -- the next node is passed
  pub left_passed : (new : List ℕ) → new ≡ old → (IsFed graph new next → Contains new next) → IsFullBut graph rows (drop (index + 1) nodes) pending new
  left_passed new same here =
      subst (IsFullBut graph rows (drop (index + 1) nodes) pending) (sym same)
      (IsFullBut-passed graph rows old pending next (drop (index + 1) nodes) first_left (subst (λ (ns : List ℕ). IsFed graph ns next → Contains ns next) same here))

  -- the next node is added
  pub left_added : (new more : List ℕ) → AreOnward (length graph.nodes) graph.edges rows → ((other : ℕ) → Contains new other → (next ≡ other) ⊎ Contains old other)
      → Contains new next → Widens graph old new → more ≡ with_member next pending → IsFullBut graph rows (drop (index + 1) nodes) more new
  left_added new more onward only here widens is =
      subst (λ (them : List ℕ). IsFullBut graph rows (drop (index + 1) nodes) them new) (sym is)
      (IsFullBut-added graph rows old pending next (drop (index + 1) nodes) new first_left onward only here widens.keeps)

-- at the end of a row nothing of it is left
pub left_none : (graph : Tfpg) (rows : List (List ℕ)) (nodes : List ℕ) (index : ℕ) (pending reached : List ℕ) → length nodes ≤ index → IsFullBut graph rows (drop index nodes) pending reached
    → IsFullBut graph rows [] pending reached
left_none graph rows nodes index pending reached end full = subst (λ (rest : List ℕ). IsFullBut graph rows rest pending reached) (drop_all index nodes end) full

-- ---- one failure mode more

-- what a set reaches, each larger one reaches
pub Reaches-larger : (graph : Tfpg) (set larger : List ℕ) → IsSubset set larger → (node : ℕ) → Reaches graph set node → Reaches graph larger node
Reaches-larger graph set larger within node reaches test closed =
    reaches test (record {
      members = All-from_members (λ position. IfSome (failure_at graph position) (λ own. IsTrue (test own))) set
          (λ position member. All-contains (λ p. IfSome (failure_at graph p) (λ own. IsTrue (test own))) larger position closed.members (All-contains (Contains larger) set position within member));
      or_nodes = closed.or_nodes;
      and_nodes = closed.and_nodes;
    })

module _ (graph : Tfpg) (set known : List ℕ) (is_reach : IsReach graph set known) (position node : ℕ) (at : failure_at graph position ≡ Some node) where
  known_reached : All (Reaches graph set) known
  known_reached = All-from_members (Reaches graph set) known (λ other member. (is_reach.exact other).0 member)

  -- the node of the failure mode and the reach are reached
  reached_at_first : (start : List ℕ) → IsNodeSet start → start ≡ with_member node known → AreReached graph (with_member position set) start
  reached_at_first start is_set begins = record {
    is_set = is_set;
    own = λ place own member at_place. subst (λ (nodes : List ℕ). Contains nodes own) (sym begins)
        (⊎_elim
        (λ same. subst (Contains (with_member node known)) (same_Some node own (sym at ∙ ap (failure_at graph) same ∙ at_place)) (Contains-with_member node known))
        (λ before. with_member-keeps node known own ((is_reach.exact own).1 (own_is_reached graph set place own before at_place)))
        (with_member-only position set place member));
    reached = subst (All (Reaches graph (with_member position set))) (sym begins)
        (All-with_member (Reaches graph (with_member position set)) node known (own_is_reached graph (with_member position set) position node (Contains-with_member position set) at)
        (All-from_members (Reaches graph (with_member position set)) known (λ other member. Reaches-larger graph set (with_member position set) (All-from_members (Contains (with_member position set)) set (with_member-keeps position set)) other ((is_reach.exact other).0 member))));
  }

  -- at first the node of the failure mode alone is pending
  pub pending_at_first : (rows : List (List ℕ)) (start pending : List ℕ) → AreOnward (length graph.nodes) graph.edges rows → start ≡ with_member node known → pending ≡ with_member node []
      → IsFullBut graph rows [] pending start
  pending_at_first rows start pending onward begins is =
      subst₂ (IsFullBut graph rows []) (sym is) (sym begins)
      (IsFullBut-added graph rows known [] node [] (with_member node known)
      (λ other fed. inr (inr ((is_reach.exact other).1 (fed_is_reached graph set known known_reached other fed)))) onward (with_member-only node known) (Contains-with_member node known) (with_member-keeps node known))

  -- Where nothing is pending any more, all is found that the set reaches with the failure mode.
  pub IsReach-grown : (rows : List (List ℕ)) (start reached : List ℕ) → IsNodeSet start → start ≡ with_member node known → Widens graph start reached → IsFullBut graph rows [] [] reached
      → IsReach graph (with_member position set) reached
  IsReach-grown rows start reached is_set begins widens full =
      IsReach-full graph (with_member position set) reached
      (AreReached-widened graph (with_member position set) start reached widens (reached_at_first start is_set begins))
      (λ other within fed. ⊎_elim (λ none. absurd (Contains-nil other none)) (λ either. ⊎_elim (λ lead. absurd (Contains-nil lead.0 lead.1)) (λ there. there) either) (full other fed))
