-- The two searches that find groups, search by search.
use Rattle.std.proofs.Common.{◌≡◌, ℕ, zero, suc, ◌+◌, ◌-◌, ◌<◌, ◌≤◌, ⊎_elim, List, [], length, get_or, replicate, Option, Some, None, Contains, refl, sym, ap, ◌∙◌, subst, arith, below_more}
use Rattle.std.proofs.lemmas.Bool.{cases_lt}
use Rattle.std.proofs.lemmas.List.{get_or-replicate, length-replicate, get_or_past, get_or_default, get_or_read}
use Rattle.std.proofs.lemmas.List.Elements.{Contains-append_left}
use Rattle.tfpg_graph.specs.inside.zero_cycle.ZeroSearch.{IsStep, mark_of, IsMarked, AreReversed, WalksUnmarked, ReachesUnmarked, ClosesGroup, IsVisited, search_of, HasVisited, HasSwept, IsFinishingOrder, IsGroupedFrom, AreGroups}
use Rattle.tfpg_graph.proofs.lemmas.zero_cycle.StepRows.{IsStep-begin}
use Rattle.tfpg_graph.proofs.lemmas.zero_cycle.ZeroWalks.{ReachesUnmarked-any, ReachesUnmarked-trans, ReachesUnmarked-reversed}
use Rattle.tfpg_base.proofs.lemmas.lists.Choices.{option_cases, some-not_none}

-- no node has a mark
pub no_mark : (count node : ℕ) → mark_of (replicate count None) node ≡ None
no_mark count node = ⊎_elim
    (λ within. get_or-replicate count node None None within)
    (λ past. get_or_past (replicate count None) node None
    (omega (arith, length-replicate count (let none : Option ℕ = None in none))))
    (cases_lt node count)

pub IsVisited-none : (rows : List (List ℕ)) (marks : List (Option ℕ)) → IsVisited rows marks []
IsVisited-none rows marks = record {
  marked = λ node has. absurd (omega (arith, has.1));
  followed = λ from to has leads. absurd (omega (arith, has.1));
  closed = λ index within. absurd (omega (arith, within));
}

module _ (rows : List (List ℕ)) (node mark : ℕ) (m₀ : List (Option ℕ)) (o₀ : List ℕ) (m₁ : List (Option ℕ))
    (o₁ : List ℕ) (visited : HasVisited rows node mark (search_of m₀ o₀) (search_of m₁ o₁)) where
  -- what was done is done
  still_done : (other : ℕ) → Contains o₀ other → Contains o₁ other
  still_done other has = subst (λ (o : List ℕ). Contains o other) (sym visited.grown.order_is)
      (Contains-append_left o₀ visited.grown.more other has)

  -- where the search was done with all that had a mark, it is so again
  pub HasVisited-finished : ((other : ℕ) → IsMarked m₀ other → Contains o₀ other) → (other : ℕ) → IsMarked m₁ other
      → Contains o₁ other
  HasVisited-finished finished other has = ⊎_elim
      (λ none. ⊎_elim
      (λ same. subst (λ (x : ℕ). Contains o₁ x) (sym same) (visited.finished (ap (mark_of m₀) (sym same) ∙ none)))
      (λ in_order. in_order)
      (visited.grown.done other has none))
      (λ given. still_done other (finished other given))
      (option_cases (mark_of m₀ other))

  pub HasVisited-kept : (other : ℕ) → IsMarked m₀ other → IsMarked m₁ other
  HasVisited-kept other has = (has.0, visited.grown.kept other has.0 has.1)

-- no search is done
pub HasSwept-none : (rows : List (List ℕ)) (count : ℕ) → count ≡ length rows → HasSwept rows (replicate count None) [] 0
HasSwept-none rows count same = record {
  count = length-replicate count (let none : Option ℕ = None in none) ∙ same;
  marked = λ node lt. absurd (omega (arith, lt));
  finished = λ node has. absurd (some-not_none (mark_of (replicate count None) node) has.0 has.1 (no_mark count node));
  searched = IsVisited-none rows (replicate count None);
}

-- one search more
pub HasSwept-more : (rows : List (List ℕ)) (node mark : ℕ) (m₀ : List (Option ℕ)) (o₀ : List ℕ)
    (m₁ : List (Option ℕ)) (o₁ : List ℕ) → HasSwept rows m₀ o₀ node
    → HasVisited rows node mark (search_of m₀ o₀) (search_of m₁ o₁) → HasSwept rows m₁ o₁ (node + 1)
HasSwept-more rows node mark m₀ o₀ m₁ o₁ was visited = record {
  count = visited.grown.count ∙ was.count;
  marked = below_more (λ other. IsMarked m₁ other) node
      (λ other lt. HasVisited-kept rows node mark m₀ o₀ m₁ o₁ visited other (was.marked other lt)) visited.marked;
  finished = HasVisited-finished rows node mark m₀ o₀ m₁ o₁ visited was.finished;
  searched = visited.grown.searched;
}

-- a node with a mark is within
pub marked_within : (marks : List (Option ℕ)) (node : ℕ) → IsMarked marks node → node < length marks
marked_within marks node has = ⊎_elim
    (λ within. within)
    (λ past. absurd (some-not_none (mark_of marks node) has.0 has.1 (get_or_past marks node None past)))
    (cases_lt node (length marks))

-- all searches are done
pub IsFinishingOrder-swept : (rows : List (List ℕ)) (marks : List (Option ℕ)) (order : List ℕ) (end : ℕ)
    → HasSwept rows marks order end → length rows ≤ end → IsFinishingOrder rows order
IsFinishingOrder-swept rows marks order end swept all = record {
  complete = λ node within. swept.finished node (swept.marked node (omega (arith, within, all)));
  inside = λ node has. let within = marked_within marks node (swept.searched.marked node has) in
      omega (arith, within, swept.count);
  closed = swept.searched.closed;
}

-- no group is found
pub IsGroupedFrom-none : (rows reversed : List (List ℕ)) (order : List ℕ) (count : ℕ) → count ≡ length rows
    → IsGroupedFrom rows reversed order (replicate count None) [] (length order)
IsGroupedFrom-none rows reversed order count same =
    let none = λ (node : ℕ) (mark : ℕ) (e : mark_of (replicate count None) node ≡ Some mark).
    some-not_none (mark_of (replicate count None) node) mark e (no_mark count node) in
    record {
      count = length-replicate count (let unmarked : Option ℕ = None in unmarked) ∙ same;
      later = λ other from within. absurd (omega (arith, from, within));
      high = λ node mark e. absurd (none node mark e);
      there = λ node mark e. absurd (none node mark e);
      back = λ node mark e. absurd (none node mark e);
      rises = λ from to mark e leads. absurd (none from mark e);
      finished = λ node has. absurd (none node has.0 has.1);
      searched = IsVisited-none rows (replicate count None);
    }

module _ (rows reversed : List (List ℕ)) (order : List ℕ) (index : ℕ) (m₀ : List (Option ℕ)) (o₀ : List ℕ)
    (m₁ : List (Option ℕ)) (o₁ : List ℕ)
    (round : AreReversed rows reversed) (finishing : IsFinishingOrder reversed order) (within : index < length order)
    (was : IsGroupedFrom rows reversed order m₀ o₀ (index + 1))
    (visited : HasVisited rows (get_or order index 0) index (search_of m₀ o₀) (search_of m₁ o₁)) where
  abbrev root : ℕ
  root = get_or order index 0

  abbrev closed : ClosesGroup reversed order index
  closed = finishing.closed index within

  -- what has no mark stands up to the root
  up_to_root : (node other : ℕ) → get_or order other 0 ≡ node → other < length order → mark_of m₀ node ≡ None
      → other ≤ index
  up_to_root node other at in_order none = ⊎_elim
      (λ beyond. let given = was.later other (omega (arith, beyond)) in_order in
      absurd (some-not_none (mark_of m₀ node) (given.0) (ap (mark_of m₀) (sym at) ∙ given.1) none))
      (λ upto. upto)
      (cases_lt index other)

  -- what steps to the root's part of the order is no earlier
  from_start : (node next here other : ℕ) → get_or order here 0 ≡ node → closed.start ≤ here → here ≤ index
      → get_or order other 0 ≡ next → IsStep reversed next node
      → closed.start ≤ other
  from_start node next here other at from upto at_other leads = ⊎_elim
      (λ early. absurd (closed.apart other here early from upto
      (subst (λ (x : ℕ). IsStep reversed x (get_or order here 0)) (sym at_other)
      (subst (λ (x : ℕ). IsStep reversed next x) (sym at) leads))))
      (λ late. late)
      (cases_lt other closed.start)

  -- a walk past marks stays in the root's part of the order
  walk_inside : (steps from to here : ℕ) → get_or order here 0 ≡ from → closed.start ≤ here → here ≤ index
      → WalksUnmarked rows m₀ from to steps
      → (other : ℕ) × (closed.start ≤ other) × (other ≤ index) × (get_or order other 0 ≡ to)
  walk_inside zero from to here at start_in upto walk = (here, start_in, upto, at ∙ walk)
  walk_inside (suc steps) from to here at start_in upto walk =
      let next : ℕ = walk.0 in
      let leads : IsStep reversed next from = round.there from next walk.1 in
      let has : Contains order next = finishing.complete next (IsStep-begin reversed next from leads) in
      let at_next : get_or order has.0 0 ≡ next = get_or_default order has.0 0 next has.1 ∙ has.2 in
      walk_inside steps next to has.0 at_next (from_start from next here has.0 at start_in upto at_next leads)
      (up_to_root next has.0 at_next has.1 walk.2) walk.3

  -- what the search from the root reaches reaches the root
  new_back : (node : ℕ) → ReachesUnmarked rows m₀ root node → ReachesUnmarked reversed [] root node
  new_back node walk =
      let inside = walk_inside walk.0 root node index refl closed.begins (omega arith) walk.1 in
      subst (λ (x : ℕ). ReachesUnmarked reversed [] root x) inside.3 (closed.reached inside.0 inside.1 inside.2)

  now_high : (node mark : ℕ) → mark_of m₁ node ≡ Some mark → index ≤ mark
  now_high node mark e = ⊎_elim
      (λ old. let above = was.high node mark old in omega (arith, above))
      (λ new. omega (arith, new.same))
      (visited.grown.fresh node mark e)

  now_finished : (node : ℕ) → IsMarked m₁ node → Contains o₁ node
  now_finished = HasVisited-finished rows root index m₀ o₀ m₁ o₁ visited was.finished

  -- one group more, or a search that finds nothing
  pub IsGroupedFrom-more : IsGroupedFrom rows reversed order m₁ o₁ index
  IsGroupedFrom-more = record {
    count = visited.grown.count ∙ was.count;
    later = λ other from in_order. ⊎_elim
        (λ beyond. HasVisited-kept rows root index m₀ o₀ m₁ o₁ visited (get_or order other 0)
        (was.later other (omega (arith, beyond)) in_order))
        (λ upto. subst (λ (at : ℕ). IsMarked m₁ (get_or order at 0))
        (let same : index ≡ other = omega (arith, from, upto) in same) visited.marked)
        (cases_lt index other);
    high = now_high;
    there = λ node mark e. ⊎_elim
        (was.there node mark)
        (λ new. subst (λ (at : ℕ). ReachesUnmarked rows [] (get_or order at 0) node) (sym new.same)
        (ReachesUnmarked-any rows m₀ root node new.walk))
        (visited.grown.fresh node mark e);
    back = λ node mark e. ⊎_elim
        (was.back node mark)
        (λ new. subst (λ (at : ℕ). ReachesUnmarked reversed [] (get_or order at 0) node) (sym new.same) (new_back node new.walk))
        (visited.grown.fresh node mark e);
    rises = λ from to mark e leads. ⊎_elim
        (λ old. let above = was.rises from to mark old leads in
        (above.0, visited.grown.kept to above.0 above.1, above.2))
        (λ new.
        let given = visited.grown.searched.followed from to (now_finished from (mark, e)) leads in
        let high = now_high to given.0 given.1 in
        (given.0, given.1, omega (arith, high, new.same)))
        (visited.grown.fresh from mark e);
    finished = now_finished;
    searched = visited.grown.searched;
  }

-- all groups are found
pub AreGroups-all : (rows reversed : List (List ℕ)) (order : List ℕ) (marks : List (Option ℕ)) (done : List ℕ)
    → AreReversed rows reversed → IsFinishingOrder reversed order
    → IsGroupedFrom rows reversed order marks done 0 → AreGroups rows marks
AreGroups-all rows reversed order marks done round finishing grouped = record {
  count = grouped.count;
  all = λ node within.
      let has : Contains order node = finishing.complete node (omega (arith, within, round.count)) in
      subst (λ (x : ℕ). IsMarked marks x) (get_or_default order has.0 0 node has.1 ∙ has.2)
      (grouped.later has.0 (omega arith) has.1);
  rises = grouped.rises;
  joined = λ from to mark here there.
      ReachesUnmarked-trans rows [] from (get_or order mark 0) to
      (ReachesUnmarked-reversed rows reversed round.back (get_or order mark 0) from (grouped.back from mark here))
      (grouped.there to mark there);
}

-- the first search begins
pub HasSwept-begin : (rows : List (List ℕ)) (count : ℕ) (marks : List (Option ℕ)) (order : List ℕ)
    → count ≡ length rows → marks ≡ replicate count None → order ≡ []
    → HasSwept rows marks order 0
HasSwept-begin rows count marks order same marks_are order_is =
    subst (λ (m : List (Option ℕ)). HasSwept rows m order 0) (sym marks_are)
    (subst (λ (o : List ℕ). HasSwept rows (replicate count None) o 0) (sym order_is) (HasSwept-none rows count same))

-- the second search begins
pub IsGroupedFrom-begin : (rows reversed : List (List ℕ)) (order : List ℕ) (count : ℕ) (marks : List (Option ℕ))
    (done : List ℕ) → count ≡ length rows → marks ≡ replicate count None → done ≡ []
    → IsGroupedFrom rows reversed order marks done (length order - 0)
IsGroupedFrom-begin rows reversed order count marks done same marks_are done_is =
    subst (λ (from : ℕ). IsGroupedFrom rows reversed order marks done from)
    (let all : length order ≡ length order - 0 = omega arith in all)
    (subst (λ (m : List (Option ℕ)). IsGroupedFrom rows reversed order m done (length order)) (sym marks_are)
    (subst (λ (d : List ℕ). IsGroupedFrom rows reversed order (replicate count None) d (length order)) (sym done_is)
    (IsGroupedFrom-none rows reversed order count same)))

-- a turn of the second search, counted from the end of the order
pub IsGroupedFrom-turn : (rows reversed : List (List ℕ)) (order : List ℕ) (turn index node : ℕ) (m₀ : List (Option ℕ))
    (o₀ : List ℕ) (m₁ : List (Option ℕ)) (o₁ : List ℕ)
    → AreReversed rows reversed → IsFinishingOrder reversed order → index + turn + 1 ≡ length order
    → node ≡ get_or order index node
    → IsGroupedFrom rows reversed order m₀ o₀ (length order - turn) → HasVisited rows node index (search_of m₀ o₀) (search_of m₁ o₁)
    → IsGroupedFrom rows reversed order m₁ o₁ (length order - (turn + 1))
IsGroupedFrom-turn rows reversed order turn index node m₀ o₀ m₁ o₁ round finishing stands at was visited =
    let within : index < length order = omega (arith, stands) in
    let before : length order - turn ≡ index + 1 = omega (arith, stands) in
    let after : index ≡ length order - (turn + 1) = omega (arith, stands) in
    let root_is : node ≡ get_or order index 0 = get_or_read order index node within at 0 in
    subst (λ (from : ℕ). IsGroupedFrom rows reversed order m₁ o₁ from) after
    (IsGroupedFrom-more rows reversed order index m₀ o₀ m₁ o₁ round finishing within
    (subst (λ (from : ℕ). IsGroupedFrom rows reversed order m₀ o₀ from) before was)
    (subst (λ (x : ℕ). HasVisited rows x index (search_of m₀ o₀) (search_of m₁ o₁)) root_is visited))

-- after the last turn
pub AreGroups-end : (rows reversed : List (List ℕ)) (order : List ℕ) (marks : List (Option ℕ)) (done : List ℕ)
    (turn : ℕ) → AreReversed rows reversed → IsFinishingOrder reversed order
    → length order ≤ turn → IsGroupedFrom rows reversed order marks done (length order - turn) → AreGroups rows marks
AreGroups-end rows reversed order marks done turn round finishing past grouped =
    AreGroups-all rows reversed order marks done round finishing
    (subst (λ (from : ℕ). IsGroupedFrom rows reversed order marks done from)
    (let none_left : length order - turn ≡ 0 = omega (arith, past) in none_left) grouped)
