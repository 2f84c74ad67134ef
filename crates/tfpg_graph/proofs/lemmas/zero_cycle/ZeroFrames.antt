-- A search in depth by a list of frames: what each turn leaves, and that turns come to an end.
use Rattle.std.proofs.Common.{◌≡◌, ℕ, ◌+◌, ◌<◌, ◌≤◌, ⊎_elim, List, [], ◌∷◌, ◌++◌, length, sum_by, get_or, set, Option, Some, None, Contains, refl, sym, ◌∙◌, subst, arith, below_more, append_assoc}
use Rattle.std.proofs.lemmas.List.{append-nil}
use Rattle.std.proofs.lemmas.List.Sums.{sum_by_push, get_or-le-sum_by}
use Rattle.std.proofs.lemmas.List.Elements.{Contains-push, Contains-push_cases}
use Rattle.tfpg_base.proofs.lemmas.lists.Elements.{Contains-nil}
use Rattle.std.proofs.Math.Nat.{mul-le-mul_right}
use Rattle.tfpg_graph.specs.declared.zero_cycle.find_groups.Frame.{Frame}
use Rattle.tfpg_graph.specs.inside.zero_cycle.ZeroSearch.{row, IsStep, mark_of, IsMarked, unmarked_count, IsVisited, Searched, search_of, HasVisited}
use Rattle.tfpg_graph.specs.inside.zero_cycle.SearchFrames.{IsUnderway, AreUnderway, IsSearching, turns_left, all_turns_left}
use Rattle.tfpg_graph.proofs.lemmas.zero_cycle.ZeroWalks.{fewer-set, marked_all}
use Rattle.tfpg_graph.proofs.lemmas.zero_cycle.ZeroVisits.{HasGrown-begin, begin_marked, HasGrown-next, next_kept, HasVisited-done}

module _ (rows : List (List ℕ)) (mark : ℕ) where
  -- a node has got its mark, and no step has been gone from it
  IsUnderway-begin : (node : ℕ) (marks : List (Option ℕ)) (order : List ℕ) → node < length rows → length marks ≡ length rows
      → IsVisited rows marks order → mark_of marks node ≡ None
      → IsUnderway rows mark node 0 (search_of marks order) (search_of (set marks node (Some mark)) order)
  IsUnderway-begin node marks order within count is none =
      let here : node < length marks = omega (arith, within, count) in
      record {
        within = within;
        upto = omega arith;
        count = count;
        unmarked = none;
        searched = is;
        grown = HasGrown-begin rows node mark marks order here none is;
        marked = begin_marked rows node mark marks order here none;
        followed = λ index lt. absurd (omega (arith, lt));
        fewer = (let less = fewer-set marks node mark here none in omega (arith, less));
      }

  -- a search is done from a node to which a step leads
  IsUnderway-more : (node passed next : ℕ) (old middle new : Searched) → IsUnderway rows mark node passed old middle
      → IsStep rows node next
      → HasVisited rows next mark middle new → IsUnderway rows mark node passed old new
  IsUnderway-more node passed next old middle new is leads visited =
      let kept : (other : ℕ) → IsMarked middle.marks other → IsMarked new.marks other =
      next_kept rows node mark next old.marks old.order middle.marks middle.order new.marks new.order is.grown visited is.unmarked leads in
      record {
        within = is.within;
        upto = is.upto;
        count = is.count;
        unmarked = is.unmarked;
        searched = is.searched;
        grown = HasGrown-next rows node mark next old.marks old.order middle.marks middle.order new.marks new.order is.grown visited is.unmarked leads;
        marked = kept node is.marked;
        followed = λ index lt. kept (get_or (row rows node) index 0) (is.followed index lt);
        fewer = (let first = is.fewer in let second = visited.fewer in omega (arith, first, second));
      }

  -- the next node to which a step leads has a mark
  IsUnderway-passed : (node passed : ℕ) (old new : Searched) → passed < length (row rows node)
      → IsMarked new.marks (get_or (row rows node) passed 0)
      → IsUnderway rows mark node passed old new → IsUnderway rows mark node (passed + 1) old new
  IsUnderway-passed node passed old new lt next is = record {
    within = is.within;
    upto = omega (arith, lt);
    count = is.count;
    unmarked = is.unmarked;
    searched = is.searched;
    grown = is.grown;
    marked = is.marked;
    followed = below_more (λ index. IsMarked new.marks (get_or (row rows node) index 0)) passed is.followed next;
    fewer = is.fewer;
  }

  lowered : (nodes : List ℕ) (frame : Frame) (old middle new : Searched) (above : List Frame) → Contains nodes frame.node
      → IsUnderway rows mark frame.node frame.passed old middle
      → IsSearching rows mark (row rows frame.node) middle new above → AreUnderway rows mark nodes old new (frame ∷ above)
  lowered nodes frame old middle new [] has is went =
      (new, has, IsUnderway-more frame.node frame.passed went.0 old middle new is went.1 went.2, refl)
  lowered nodes frame old middle new (next ∷ above) has is went = (middle, has, is, went)

  -- what takes the place of the last frame
  above_all : (below : List Frame) (top : Frame) (above : List Frame) (nodes : List ℕ) (old new later : Searched)
      → ((others : List ℕ) (middle : Searched) → Contains others top.node → IsUnderway rows mark top.node top.passed middle new
      → IsSearching rows mark others middle later above)
      → AreUnderway rows mark nodes old new (below ++ top ∷ []) → IsSearching rows mark nodes old later (below ++ above)
  above_all [] top above nodes old new later turn are =
      turn nodes old are.1 (subst (IsUnderway rows mark top.node top.passed old) are.3 are.2)
  above_all (frame ∷ below) top above nodes old new later turn are =
      lowered nodes frame old are.0 later (below ++ above) are.1 are.2
      (above_all below top above (row rows frame.node) are.0 new later turn are.3)

  are_underway : (below : List Frame) (top : Frame) (nodes : List ℕ) (old new : Searched)
      → IsSearching rows mark nodes old new (below ++ top ∷ []) → AreUnderway rows mark nodes old new (below ++ top ∷ [])
  are_underway [] top nodes old new is = is
  are_underway (frame ∷ below) top nodes old new is = is

  top_of : (below : List Frame) (top : Frame) (nodes : List ℕ) (old new : Searched) → AreUnderway rows mark nodes old new (below ++ top ∷ [])
      → (middle : Searched) × IsUnderway rows mark top.node top.passed middle new
  top_of [] top nodes old new are = (old, subst (IsUnderway rows mark top.node top.passed old) are.3 are.2)
  top_of (frame ∷ below) top nodes old new are = top_of below top (row rows frame.node) are.0 new are.3

  -- the search from the node of the last frame is under way
  pub IsSearching-top : (below : List Frame) (top : Frame) (nodes : List ℕ) (old new : Searched)
      → IsSearching rows mark nodes old new (below ++ top ∷ [])
      → (middle : Searched) × IsUnderway rows mark top.node top.passed middle new
  IsSearching-top below top nodes old new is = top_of below top nodes old new (are_underway below top nodes old new is)

  module _ (below : List Frame) (top : Frame) (nodes : List ℕ) (old : Searched) (marks : List (Option ℕ)) (order : List ℕ)
      (was : IsSearching rows mark nodes old (search_of marks order) (below ++ top ∷ [])) where
    replaced : (above : List Frame) (later : Searched)
        → ((others : List ℕ) (middle : Searched) → Contains others top.node
        → IsUnderway rows mark top.node top.passed middle (search_of marks order)
        → IsSearching rows mark others middle later above)
        → IsSearching rows mark nodes old later (below ++ above)
    replaced above later turn =
        above_all below top above nodes old (search_of marks order) later turn
        (are_underway below top nodes old (search_of marks order) was)

    -- the search is done with the node of the last frame
    pub IsSearching-done : length (row rows top.node) ≤ top.passed
        → IsSearching rows mark nodes old (search_of marks (order ++ top.node ∷ [])) below
    IsSearching-done upto =
        subst (IsSearching rows mark nodes old (search_of marks (order ++ top.node ∷ []))) (append-nil below)
        (replaced [] (search_of marks (order ++ top.node ∷ []))
        (λ others middle has is. (
          top.node,
          has,
          HasVisited-done rows top.node mark middle.marks middle.order marks order is.searched is.grown is.unmarked is.marked
              (marked_all marks (row rows top.node) top.passed upto is.followed) is.fewer,
        )))

    -- the next node has a mark
    pub IsSearching-passed : top.passed < length (row rows top.node) → IsMarked marks (get_or (row rows top.node) top.passed 0)
        → IsSearching rows mark nodes old (search_of marks order)
        (below ++ record { node = top.node; passed = top.passed + 1 } ∷ [])
    IsSearching-passed lt next = replaced (record { node = top.node; passed = top.passed + 1 } ∷ []) (search_of marks order)
        (λ others middle has is. (search_of marks order, has, IsUnderway-passed top.node top.passed middle (search_of marks order) lt next is, refl))

    -- the next node has none, and gets one
    pub IsSearching-deeper : (next : ℕ) → IsStep rows top.node next → next < length rows → mark_of marks next ≡ None
        → IsSearching rows mark nodes old (search_of (set marks next (Some mark)) order)
        ((below ++ top ∷ []) ++ record { node = next; passed = 0 } ∷ [])
    IsSearching-deeper next leads within none =
        subst (IsSearching rows mark nodes old (search_of (set marks next (Some mark)) order))
        (sym (append_assoc below (top ∷ []) (record { node = next; passed = 0 } ∷ [])))
        (replaced (top ∷ record { node = next; passed = 0 } ∷ []) (search_of (set marks next (Some mark)) order)
        (λ others middle has is. (
          search_of marks order,
          has,
          is,
          (
            search_of (set marks next (Some mark)) order,
            leads,
            IsUnderway-begin next marks order within (is.grown.count ∙ is.count) is.grown.searched none,
            refl,
          ),
        )))

  -- a search from the node has come to it
  pub IsSearching-begin : (node : ℕ) (marks : List (Option ℕ)) (order : List ℕ) → node < length rows → length marks ≡ length rows
      → IsVisited rows marks order → mark_of marks node ≡ None
      → IsSearching rows mark (node ∷ []) (search_of marks order) (search_of (set marks node (Some mark)) order)
      (record { node = node; passed = 0 } ∷ [])
  IsSearching-begin node marks order within count is none = (
    search_of (set marks node (Some mark)) order,
    Contains-push [] node,
    IsUnderway-begin node marks order within count is none,
    refl,
  )

  -- no frame is left
  pub IsSearching-end : (node : ℕ) (old new : Searched) → IsSearching rows mark (node ∷ []) old new [] → HasVisited rows node mark old new
  IsSearching-end node old new is = ⊎_elim
      (λ none. absurd (Contains-nil is.0 none))
      (λ same. subst (λ (other : ℕ). HasVisited rows other mark old new) (sym same) is.2)
      (Contains-push_cases [] node is.0 is.1)

module _ (rows : List (List ℕ)) (marks : List (Option ℕ)) (below : List Frame) (top : Frame)
    (upto : top.passed ≤ length (row rows top.node)) where
  -- a frame less
  pub turns-done : all_turns_left rows marks below < all_turns_left rows marks (below ++ top ∷ [])
  turns-done = omega (arith, upto, sum_by_push (turns_left rows) below top)

  -- a step less from the last frame
  pub turns-passed : top.passed < length (row rows top.node)
      → all_turns_left rows marks (below ++ record { node = top.node; passed = top.passed + 1 } ∷ [])
      < all_turns_left rows marks (below ++ top ∷ [])
  turns-passed lt = omega (
    arith,
    lt,
    sum_by_push (turns_left rows) below top,
    sum_by_push (turns_left rows) below (record { node = top.node; passed = top.passed + 1 }),
  )

  -- a frame more, for a node that gets its mark
  pub turns-deeper : (next mark : ℕ) → next < length rows → next < length marks → mark_of marks next ≡ None
      → all_turns_left rows (set marks next (Some mark)) ((below ++ top ∷ []) ++ record { node = next; passed = 0 } ∷ [])
      < all_turns_left rows marks (below ++ top ∷ [])
  turns-deeper next mark within there none =
      let fewer : unmarked_count (set marks next (Some mark)) + 1 ≤ unmarked_count marks =
      (let less = fewer-set marks next mark there none in omega (arith, less)) in
      let product = mul-le-mul_right (sum_by length rows + 2) fewer in
      let short : length (row rows next) ≤ sum_by length rows = get_or-le-sum_by length rows next [] within in
      omega (arith, product, short, sum_by_push (turns_left rows) (below ++ top ∷ []) (record { node = next; passed = 0 }))
