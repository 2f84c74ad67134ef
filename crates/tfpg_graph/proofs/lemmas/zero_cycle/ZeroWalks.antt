-- Walks along steps to nodes without marks.
use Rattle.std.proofs.Common.{◌≡◌, ℕ, zero, suc, ◌<◌, ◌≤◌, ⊎_elim, true, false, cond, List, [], length, get_or, set, Option, Some, None, is_some, is_none, Contains, refl, sym, ap, ◌∙◌, subst, arith}
use Rattle.std.proofs.lemmas.List.{get_or_read, get_or_default}
use Rattle.std.proofs.lemmas.List.Sums.{sum_by-set}
use Rattle.tfpg_base.proofs.lemmas.lists.Choices.{is_some-there, is_some-none, option_cases, some-not_none}
use Rattle.tfpg_graph.specs.inside.zero_cycle.ZeroSearch.{IsStep, mark_of, IsMarked, unmarked_count, WalksUnmarked, ReachesUnmarked}

-- where marks are kept, a node without one had none
pub unmarked_before : (old new : List (Option ℕ))
    → ((other given : ℕ) → mark_of old other ≡ Some given → mark_of new other ≡ Some given)
    → (node : ℕ) → mark_of new node ≡ None → mark_of old node ≡ None
unmarked_before old new kept node none =
    ⊎_elim (λ is. is) (λ is. absurd (some-not_none (mark_of new node) is.0 (kept node is.0 is.1) none))
    (option_cases (mark_of old node))

-- a walk past fewer marks
pub WalksUnmarked-weaker : (rows : List (List ℕ)) (old new : List (Option ℕ))
    → ((node : ℕ) → mark_of new node ≡ None → mark_of old node ≡ None)
    → (steps from to : ℕ) → WalksUnmarked rows new from to steps → WalksUnmarked rows old from to steps
WalksUnmarked-weaker rows old new fewer zero from to walk = walk
WalksUnmarked-weaker rows old new fewer (suc steps) from to walk =
    (walk.0, walk.1, fewer walk.0 walk.2, WalksUnmarked-weaker rows old new fewer steps walk.0 to walk.3)

pub ReachesUnmarked-weaker : (rows : List (List ℕ)) (old new : List (Option ℕ))
    → ((node : ℕ) → mark_of new node ≡ None → mark_of old node ≡ None)
    → (from to : ℕ) → ReachesUnmarked rows new from to → ReachesUnmarked rows old from to
ReachesUnmarked-weaker rows old new fewer from to walk = (walk.0, WalksUnmarked-weaker rows old new fewer walk.0 from to walk.1)

pub ReachesUnmarked-any : (rows : List (List ℕ)) (marks : List (Option ℕ)) (from to : ℕ) → ReachesUnmarked rows marks from to
    → ReachesUnmarked rows [] from to
ReachesUnmarked-any rows marks from to walk = ReachesUnmarked-weaker rows [] marks (λ node none. refl) from to walk

-- one step more at the beginning
pub ReachesUnmarked-step : (rows : List (List ℕ)) (marks : List (Option ℕ)) (from next to : ℕ) → IsStep rows from next
    → mark_of marks next ≡ None
    → ReachesUnmarked rows marks next to → ReachesUnmarked rows marks from to
ReachesUnmarked-step rows marks from next to leads none walk = (suc walk.0, (next, leads, none, walk.1))

-- one walk after another
walks_on : (rows : List (List ℕ)) (marks : List (Option ℕ)) (steps from mid to : ℕ)
    → WalksUnmarked rows marks from mid steps
    → ReachesUnmarked rows marks mid to → ReachesUnmarked rows marks from to
walks_on rows marks zero from mid to walk rest = subst (λ (node : ℕ). ReachesUnmarked rows marks node to) (sym walk) rest
walks_on rows marks (suc steps) from mid to walk rest =
    ReachesUnmarked-step rows marks from walk.0 to walk.1 walk.2 (walks_on rows marks steps walk.0 mid to walk.3 rest)

pub ReachesUnmarked-trans : (rows : List (List ℕ)) (marks : List (Option ℕ)) (from mid to : ℕ) → ReachesUnmarked rows marks from mid
    → ReachesUnmarked rows marks mid to → ReachesUnmarked rows marks from to
ReachesUnmarked-trans rows marks from mid to walk rest = walks_on rows marks walk.0 from mid to walk.1 rest

walks_back : (rows reversed : List (List ℕ)) → ((from to : ℕ) → IsStep reversed from to → IsStep rows to from)
    → (steps from to : ℕ)
    → WalksUnmarked reversed [] from to steps → ReachesUnmarked rows [] to from
walks_back rows reversed back zero from to walk = (zero, sym walk)
walks_back rows reversed back (suc steps) from to walk =
    ReachesUnmarked-trans rows [] to walk.0 from (walks_back rows reversed back steps walk.0 to walk.3)
    (ReachesUnmarked-step rows [] walk.0 from from (back from walk.0 walk.1) refl (zero, refl))

-- a walk along reversed steps, walked back
pub ReachesUnmarked-reversed : (rows reversed : List (List ℕ)) → ((from to : ℕ) → IsStep reversed from to → IsStep rows to from)
    → (from to : ℕ)
    → ReachesUnmarked reversed [] from to → ReachesUnmarked rows [] to from
ReachesUnmarked-reversed rows reversed back from to walk = walks_back rows reversed back walk.0 from to walk.1

-- a mark more is a node less without one
pub fewer-set : (marks : List (Option ℕ)) (node mark : ℕ) → node < length marks → mark_of marks node ≡ None
    → unmarked_count (set marks node (Some mark)) < unmarked_count marks
fewer-set marks node mark within none =
    let f : Option ℕ → ℕ = λ o. cond (is_none o) 1 0 in
    omega (arith, sum_by-set f marks node (Some mark) None within, ap f none)

-- what the code reads of a mark
pub marked_read : (marks : List (Option ℕ)) (node : ℕ) (read : Option ℕ) → node < length marks
    → read ≡ get_or marks node read
    → is_some read ≡ true → IsMarked marks node
marked_read marks node read within at test =
    let some = is_some-there read test in
    (some.0, sym (get_or_read marks node read within at None) ∙ some.1)

pub unmarked_read : (marks : List (Option ℕ)) (node : ℕ) (read : Option ℕ) → node < length marks
    → read ≡ get_or marks node read
    → is_some read ≡ false → mark_of marks node ≡ None
unmarked_read marks node read within at test = sym (get_or_read marks node read within at None) ∙ is_some-none read test

-- what is marked up to the end of a list is all of it
pub marked_all : (marks : List (Option ℕ)) (items : List ℕ) (end : ℕ) → length items ≤ end
    → ((index : ℕ) → index < end → IsMarked marks (get_or items index 0))
    → (to : ℕ) → Contains items to → IsMarked marks to
marked_all marks items end upto marked to has =
    subst (λ (node : ℕ). IsMarked marks node) (get_or_default items has.0 0 to has.1 ∙ has.2)
    (marked has.0 (omega (arith, has.1)))
