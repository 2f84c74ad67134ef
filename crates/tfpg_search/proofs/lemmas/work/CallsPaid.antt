-- What the calls of a search count, from one leaf to the next.
use Rattle.std.proofs.Common.{◌≡◌, ℕ, ◌+◌, ◌*◌, ◌-◌, ◌≤◌, List, [], length, sym, ap, subst, arith}
use Rattle.std.specs.Prelude.{map}
use Rattle.tfpg_graph.specs.Graph.{Tfpg}
use Rattle.tfpg_log.specs.Log.{Logbook}
use Rattle.tfpg_clause.specs.Case.{case_of}
use Rattle.tfpg_diff.specs.VariableBounds.{VariableBounds}
use Rattle.tfpg_diff.specs.Demands.{demands_of}
use Rattle.tfpg_search.specs.SearchState.{SearchState, case_of_search}
use Rattle.tfpg_search.specs.Work.{NodeBounds, AreFactBounds, differing}
use Rattle.tfpg_search.specs.inside.AtItsLeaf.{IsAtItsLeaf}
use Rattle.tfpg_search.specs.inside.Leaf.{Leaf, bounds_in}
use Rattle.tfpg_search.specs.inside.Counted.{unset}
use Rattle.tfpg_search.specs.inside.Moves.{KeepsSet, HasFactBounds}

-- where the bounds are kept, as many of them are not set
pub unset_kept : (bounds : NodeBounds) (old new : Leaf) → new.demands.bounds ≡ old.demands.bounds → unset bounds new ≡ unset bounds old
unset_kept bounds old new same =
    ap (λ (bs : List VariableBounds). differing (map (λ (b : VariableBounds). b.floor) bs) bounds.lows + differing (map (λ (b : VariableBounds). b.ceiling) bs) bounds.highs) same

-- a search with the same reach is about the same bounds
pub given_at : (graph : Tfpg) (log : Logbook) (old new : SearchState) → new.reach ≡ old.reach → (bounds : NodeBounds) → AreFactBounds (case_of_search graph log old) bounds
    → AreFactBounds (case_of_search graph log new) bounds
given_at graph log old new reach bounds given = subst (λ (r : List ℕ). AreFactBounds (case_of graph log r) bounds) (sym reach) given

-- where the bounds are kept, they are still those that the facts give
pub given_kept : (graph : Tfpg) (log : Logbook) (old new : SearchState) → KeepsSet old new → new.leaf.demands.bounds ≡ old.leaf.demands.bounds → HasFactBounds graph log old
    → HasFactBounds graph log new
given_kept graph log old new keeps same given =
    given_at graph log old new keeps.reach (bounds_in new.leaf)
    (subst (λ (bs : List VariableBounds). AreFactBounds (case_of_search graph log old) (bounds_in (record old.leaf { demands = demands_of bs [] }))) (sym same) given)

-- at most one alternative on the path is not entered
pub one_left : (graph : Tfpg) (log : Logbook) (search : SearchState) → IsAtItsLeaf graph log search → length search.path - length search.entered ≤ 1
one_left graph log search at = let many = at.picks.many in omega arith

-- ---- counts

-- entering an alternative, and a call at a conflict
pub entered_counts : (before after path entered count : ℕ) → after ≤ before + 3 → entered ≤ path → count ≡ entered → (count ≡ path → ⊥) → after ≤ before + 3 * (path - entered)
entered_counts before after path entered count pushed few count_is not_all = grind arith

pub added_counts : (before middle after unset_old unset_middle unset_new left : ℕ) → middle ≤ before + 3 * left → unset_middle ≡ unset_old → after + unset_new ≤ middle + unset_middle + 1
    → after + unset_new ≤ before + (unset_old + 3 * left) + 1
added_counts before middle after unset_old unset_middle unset_new left entered kept added = omega arith

pub entered_only : (before middle unset_old unset_middle left : ℕ) → middle ≤ before + 3 * left → unset_middle ≡ unset_old → middle + unset_middle ≤ before + (unset_old + 3 * left) + 1
entered_only before middle unset_old unset_middle left entered kept = omega arith

-- what was paid so far, and a leaf that was loaded
pub then_loaded : (work later due_now unset_now start before during : ℕ) → work + due_now + 4 * before ≤ start + 4 * during → later + unset_now ≤ work + due_now + 1
    → later + unset_now + 4 * before ≤ start + 4 * during + 1
then_loaded work later due_now unset_now start before during paid added = omega arith

-- what was paid so far, and a look
pub then_looked : (work later due_now unset_now start before during after : ℕ) → work + due_now + 4 * before ≤ start + 4 * during → later + unset_now + 4 * during ≤ work + due_now + 4 * after + 1
    → later + unset_now + 4 * before ≤ start + 4 * after + 1
then_looked work later due_now unset_now start before during after paid looked = omega arith

-- nothing more was counted
pub then_none : (work unset_now left start before during : ℕ) → work + (unset_now + 3 * left) + 4 * before ≤ start + 4 * during → work + unset_now + 4 * before ≤ start + 4 * during + 1
then_none work unset_now left start before during paid = omega arith

-- a step pays for the next leaf
pub step_pays : (work unset_now unset_new left start before during after : ℕ) → work + unset_now + 4 * before ≤ start + 4 * during + 1 → unset_new ≡ unset_now → after ≡ during + 1 → left ≤ 1
    → work + (unset_new + 3 * left) + 4 * before ≤ start + 4 * after
step_pays work unset_now unset_new left start before during after paid kept longer few = omega arith

-- no leaf is left
pub none_left : (work unset_now unset_new start before during after : ℕ) → work + unset_now + 4 * before ≤ start + 4 * during + 1 → unset_new ≡ unset_now → during ≤ after
    → work + unset_new + 4 * before ≤ start + 4 * after + 1
none_left work unset_now unset_new start before during after paid kept longer = omega arith
