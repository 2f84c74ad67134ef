-- What a search in depth leaves after, step by step.
use Rattle.std.proofs.Common.{◌≡◌, ◌≢◌, ℕ, zero, ◌+◌, ◌-◌, ◌<◌, ◌≤◌, inl, inr, ⊎_elim, List, [], ◌∷◌, ◌++◌, length, get_or, set, Option, Some, None, Contains, refl, sym, ap, ◌∙◌, subst, arith, get_or-set_same, get_or-set_other, append_assoc, length-append}
use Rattle.std.proofs.lemmas.Bool.{cases_lt, cases_eq}
use Rattle.std.proofs.lemmas.List.{append-nil, length-set, length_push, get_or_append_left, get_or-append_right, get_or_push}
use Rattle.std.proofs.lemmas.List.Elements.{Contains-get_or, Contains-append_left, Contains-append_right, Contains-append_cases, Contains-push, Contains-push_cases}
use Rattle.tfpg_graph.specs.inside.zero_cycle.ZeroSearch.{IsStep, mark_of, IsMarked, unmarked_count, ReachesUnmarked, ClosesGroup, IsVisited, HasGrown, search_of, HasVisited}
use Rattle.tfpg_graph.proofs.lemmas.zero_cycle.ZeroWalks.{unmarked_before, ReachesUnmarked-weaker, ReachesUnmarked-any, ReachesUnmarked-step}
use Rattle.tfpg_base.proofs.lemmas.lists.Choices.{option_cases, some-not_none}

-- a group that is closed stays so when the order goes on
pub ClosesGroup-append : (rows : List (List ℕ)) (order more : List ℕ) (index : ℕ) → index < length order
    → ClosesGroup rows order index → ClosesGroup rows (order ++ more) index
ClosesGroup-append rows order more index within is = record {
  start = is.start;
  begins = is.begins;
  reached = λ other from upto.
      let there : get_or (order ++ more) index 0 ≡ get_or order index 0 =
      get_or_append_left order more 0 index within in
      let here : get_or (order ++ more) other 0 ≡ get_or order other 0 =
      get_or_append_left order more 0 other (omega arith) in
      subst (λ (node : ℕ). ReachesUnmarked rows [] node (get_or (order ++ more) other 0)) (sym there)
      (subst (λ (node : ℕ). ReachesUnmarked rows [] (get_or order index 0) node) (sym here) (is.reached other from upto));
  apart = λ before other early from upto leads.
      let begins = is.begins in
      let there : get_or (order ++ more) before 0 ≡ get_or order before 0 =
      get_or_append_left order more 0 before (omega arith) in
      let here : get_or (order ++ more) other 0 ≡ get_or order other 0 =
      get_or_append_left order more 0 other (omega arith) in
      is.apart before other early from upto
      (subst (λ (node : ℕ). IsStep rows node (get_or order other 0)) there
      (subst (λ (node : ℕ). IsStep rows (get_or (order ++ more) before 0) node) here leads));
}

-- marks that are kept keep what is searched
pub IsVisited-kept : (rows : List (List ℕ)) (old new : List (Option ℕ)) (order : List ℕ)
    → ((other given : ℕ) → mark_of old other ≡ Some given → mark_of new other ≡ Some given)
    → IsVisited rows old order → IsVisited rows new order
IsVisited-kept rows old new order kept is = record {
  marked = λ node has. let was = is.marked node has in (was.0, kept node was.0 was.1);
  followed = λ from to has leads. let was = is.followed from to has leads in (was.0, kept to was.0 was.1);
  closed = is.closed;
}

-- a search from a node that has a mark does nothing
pub HasVisited-already : (rows : List (List ℕ)) (node mark : ℕ) (marks : List (Option ℕ)) (order : List ℕ)
    → IsVisited rows marks order → IsMarked marks node
    → HasVisited rows node mark (search_of marks order) (search_of marks order)
HasVisited-already rows node mark marks order is marked = record {
  grown = record {
    count = refl;
    kept = λ other given e. e;
    fresh = λ other given e. inl e;
    done = λ other has none. absurd (some-not_none (mark_of marks other) has.0 has.1 none);
    more = [];
    order_is = sym (append-nil order);
    more_new = λ other has. absurd (omega (arith, has.1));
    searched = is;
  };
  marked = marked;
  finished = λ none. absurd (some-not_none (mark_of marks node) marked.0 marked.1 none);
  fewer = omega arith;
}

module _ (rows : List (List ℕ)) (node mark : ℕ) (marks : List (Option ℕ)) (order : List ℕ)
    (within : node < length marks) (none : mark_of marks node ≡ None) where
  here_now : (other : ℕ) → other ≡ node → mark_of (set marks node (Some mark)) other ≡ Some mark
  here_now other same = ap (mark_of (set marks node (Some mark))) same
      ∙ get_or-set_same marks node (Some mark) None within

  elsewhere : (other : ℕ) → other ≢ node → mark_of (set marks node (Some mark)) other ≡ mark_of marks other
  elsewhere other differs = get_or-set_other marks node other (Some mark) None differs

  begin_kept : (other given : ℕ) → mark_of marks other ≡ Some given
      → mark_of (set marks node (Some mark)) other ≡ Some given
  begin_kept other given e = ⊎_elim
      (λ same. absurd (some-not_none (mark_of marks other) given e (ap (mark_of marks) same ∙ none)))
      (λ differs. elsewhere other differs ∙ e)
      (cases_eq other node)

  -- the node has got its mark
  pub HasGrown-begin : IsVisited rows marks order
      → HasGrown rows node mark (search_of marks order) (search_of (set marks node (Some mark)) order)
  HasGrown-begin is = record {
    count = length-set marks node (Some mark);
    kept = begin_kept;
    fresh = λ other given e. ⊎_elim
        (λ same. inr (let is_mark : Some given ≡ Some mark = sym e ∙ here_now other same in
        record { same = cc; unmarked = none; walk = (zero, sym same) }))
        (λ differs. inl (sym (elsewhere other differs) ∙ e))
        (cases_eq other node);
    done = λ other has was. ⊎_elim inl
        (λ differs. absurd (some-not_none (mark_of marks other) has.0 (sym (elsewhere other differs) ∙ has.1) was))
        (cases_eq other node);
    more = [];
    order_is = sym (append-nil order);
    more_new = λ other has. absurd (omega (arith, has.1));
    searched = IsVisited-kept rows marks (set marks node (Some mark)) order begin_kept is;
  }

  pub begin_marked : IsMarked (set marks node (Some mark)) node
  begin_marked = (mark, here_now node refl)

module _ (rows : List (List ℕ)) (node mark next : ℕ) (m₀ : List (Option ℕ)) (o₀ : List ℕ) (m₁ : List (Option ℕ))
    (o₁ : List ℕ) (m₂ : List (Option ℕ)) (o₂ : List ℕ)
    (was : HasGrown rows node mark (search_of m₀ o₀) (search_of m₁ o₁)) (visited : HasVisited rows next mark (search_of m₁ o₁) (search_of m₂ o₂))
    (none : mark_of m₀ node ≡ None) (leads : IsStep rows node next) where
  before : (other : ℕ) → mark_of m₁ other ≡ None → mark_of m₀ other ≡ None
  before other = unmarked_before m₀ m₁ was.kept other

  further : (other : ℕ) → Contains o₁ other → Contains o₂ other
  further other has = subst (λ (o : List ℕ). Contains o other) (sym visited.grown.order_is)
      (Contains-append_left o₁ visited.grown.more other has)

  next_done : (other : ℕ) → other ≡ next → mark_of m₁ other ≡ None → Contains o₂ other
  next_done other same unmarked =
      subst (λ (x : ℕ). Contains o₂ x) (sym same) (visited.finished (ap (mark_of m₁) (sym same) ∙ unmarked))

  -- one node is searched to which a step leads
  pub HasGrown-next : HasGrown rows node mark (search_of m₀ o₀) (search_of m₂ o₂)
  HasGrown-next = record {
    count = visited.grown.count ∙ was.count;
    kept = λ other given e. visited.grown.kept other given (was.kept other given e);
    fresh = λ other given e. ⊎_elim
        (was.fresh other given)
        (λ new. inr (record {
          same = new.same;
          unmarked = none;
          walk =
              ReachesUnmarked-step rows m₀ node next other leads (before next new.unmarked)
              (ReachesUnmarked-weaker rows m₀ m₁ before next other new.walk);
        }))
        (visited.grown.fresh other given e);
    done = λ other has was_none. ⊎_elim
        (λ unmarked. ⊎_elim (λ same. inr (next_done other same unmarked)) inr (visited.grown.done other has unmarked))
        (λ given. ⊎_elim inl (λ in_order. inr (further other in_order)) (was.done other given was_none))
        (option_cases (mark_of m₁ other));
    more = was.more ++ visited.grown.more;
    order_is = visited.grown.order_is ∙ ap (λ o. o ++ visited.grown.more) was.order_is
        ∙ append_assoc o₀ was.more visited.grown.more;
    more_new = λ other has. ⊎_elim
        (was.more_new other)
        (λ later. before other (visited.grown.more_new other later))
        (Contains-append_cases was.more visited.grown.more other has);
    searched = visited.grown.searched;
  }

  pub next_kept : (other : ℕ) → IsMarked m₁ other → IsMarked m₂ other
  next_kept other has = (has.0, visited.grown.kept other has.0 has.1)

module _ (rows : List (List ℕ)) (node mark : ℕ) (m₀ : List (Option ℕ)) (o₀ : List ℕ) (m₁ : List (Option ℕ))
    (o₁ : List ℕ)
    (was : IsVisited rows m₀ o₀) (grown : HasGrown rows node mark (search_of m₀ o₀) (search_of m₁ o₁)) (none : mark_of m₀ node ≡ None)
    (marked : IsMarked m₁ node)
    (followed : (to : ℕ) → IsStep rows node to → IsMarked m₁ to) where
  abbrev whole : List ℕ
  whole = o₁ ++ node ∷ []

  longer : length o₁ ≡ length o₀ + length grown.more
  longer = ap length grown.order_is ∙ length-append o₀ grown.more

  -- the node stands last
  last_is : (index : ℕ) → index ≡ length o₁ → get_or whole index 0 ≡ node
  last_is index last = get_or_push o₁ node 0 index (sym last)

  -- before it stand those that are new
  new_at : (index : ℕ) → length o₀ ≤ index → index < length o₁ → Contains grown.more (get_or whole index 0)
  new_at index from within =
      let same : get_or whole index 0 ≡ get_or grown.more (index - length o₀) 0 =
      get_or_append_left o₁ (node ∷ []) 0 index within ∙ ap (λ o. get_or o index 0) grown.order_is
      ∙ get_or-append_right o₀ grown.more (length o₀) index 0 refl from in
      subst (λ (x : ℕ). Contains grown.more x) (sym same)
      (Contains-get_or grown.more (index - length o₀) 0 (omega (arith, longer)))

  -- and before these the old ones
  old_at : (index : ℕ) → index < length o₀ → Contains o₀ (get_or whole index 0)
  old_at index within =
      let same : get_or whole index 0 ≡ get_or o₀ index 0 =
      get_or_append_left o₁ (node ∷ []) 0 index (omega (arith, longer)) ∙ ap (λ o. get_or o index 0) grown.order_is
      ∙ get_or_append_left o₀ grown.more 0 index within in
      subst (λ (x : ℕ). Contains o₀ x) (sym same) (Contains-get_or o₀ index 0 within)

  unmarked_at : (index : ℕ) → length o₀ ≤ index → index ≤ length o₁ → mark_of m₀ (get_or whole index 0) ≡ None
  unmarked_at index from upto = ⊎_elim
      (λ within. grown.more_new (get_or whole index 0) (new_at index from within))
      (λ past. ap (mark_of m₀) (last_is index (omega arith)) ∙ none)
      (cases_lt index (length o₁))

  in_order : (other : ℕ) → Contains grown.more other → Contains o₁ other
  in_order other has = subst (λ (o : List ℕ). Contains o other) (sym grown.order_is)
      (Contains-append_right o₀ grown.more other has)

  new_reached : (other : ℕ) → Contains grown.more other → ReachesUnmarked rows [] node other
  new_reached other has =
      let given = grown.searched.marked other (in_order other has) in
      ⊎_elim
      (λ old. absurd (some-not_none (mark_of m₀ other) given.0 old (grown.more_new other has)))
      (λ new. ReachesUnmarked-any rows m₀ node other new.walk)
      (grown.fresh other given.0 given.1)

  reached_at : (index : ℕ) → length o₀ ≤ index → index ≤ length o₁ → ReachesUnmarked rows [] node (get_or whole index 0)
  reached_at index from upto = ⊎_elim
      (λ within. new_reached (get_or whole index 0) (new_at index from within))
      (λ past. (zero, sym (last_is index (omega arith))))
      (cases_lt index (length o₁))

  closed_last : (index : ℕ) → index ≡ length o₁ → ClosesGroup rows whole index
  closed_last index last = record {
    start = length o₀;
    begins = omega (arith, longer);
    reached = λ other from upto. subst (λ (x : ℕ). ReachesUnmarked rows [] x (get_or whole other 0))
        (sym (last_is index last)) (reached_at other from (omega arith));
    apart = λ before other early from upto leads.
        let given = was.followed (get_or whole before 0) (get_or whole other 0) (old_at before early) leads in
        some-not_none (mark_of m₀ (get_or whole other 0)) given.0 given.1 (unmarked_at other from (omega arith));
  }

  searched_whole : IsVisited rows m₁ whole
  searched_whole = record {
    marked = λ other has. ⊎_elim (grown.searched.marked other) (λ same. subst (λ (x : ℕ). IsMarked m₁ x) same marked)
        (Contains-push_cases o₁ node other has);
    followed = λ from to has leads. ⊎_elim
        (λ early. grown.searched.followed from to early leads)
        (λ same. followed to (subst (λ (x : ℕ). IsStep rows x to) (sym same) leads))
        (Contains-push_cases o₁ node from has);
    closed = λ index within. ⊎_elim
        (λ early. ClosesGroup-append rows o₁ (node ∷ []) index early (grown.searched.closed index early))
        (λ late. closed_last index (omega (arith, length_push o₁ node)))
        (cases_lt index (length o₁));
  }

  -- the search is done with the node
  pub HasVisited-done : unmarked_count m₁ ≤ unmarked_count m₀ → HasVisited rows node mark (search_of m₀ o₀) (search_of m₁ (o₁ ++ node ∷ []))
  HasVisited-done fewer = record {
    grown = record {
      count = grown.count;
      kept = grown.kept;
      fresh = grown.fresh;
      done = λ other has unmarked. inr (⊎_elim
          (λ same. subst (λ (x : ℕ). Contains whole x) (sym same) (Contains-push o₁ node))
          (λ early. Contains-append_left o₁ (node ∷ []) other early)
          (grown.done other has unmarked));
      more = grown.more ++ node ∷ [];
      order_is = ap (λ o. o ++ node ∷ []) grown.order_is ∙ append_assoc o₀ grown.more (node ∷ []);
      more_new = λ other has. ⊎_elim (grown.more_new other) (λ same. ap (mark_of m₀) (sym same) ∙ none)
          (Contains-push_cases grown.more node other has);
      searched = searched_whole;
    };
    marked = marked;
    finished = λ unmarked. Contains-push o₁ node;
    fewer = fewer;
  }
