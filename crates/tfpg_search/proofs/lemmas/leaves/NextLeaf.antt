-- A leaf is closed: the search goes on to the next one.
use Rattle.std.proofs.Common.{◌≡◌, ℕ, suc, ◌+◌, ◌-◌, ◌<◌, ◌≤◌, List, [], ◌∷◌, ◌++◌, length, take, Option, Some, None, refl, sym, ap, subst, ◌∙◌, arith, length-append}
use Rattle.std.specs.Prelude.{slice_get}
use Rattle.std.proofs.lemmas.List.{take-append-le, take_at, length-take-le}
use Rattle.std.proofs.lemmas.Option.{slice_get_within}
use Rattle.tfpg_base.specs.declared.constraint.Constraint.{Constraint}
use Rattle.tfpg_graph.specs.Graph.{Tfpg}
use Rattle.tfpg_log.specs.Log.{Logbook}
use Rattle.tfpg_evidence.specs.declared.reason.Reason.{Reason}
use Rattle.tfpg_evidence.specs.declared.reason.Reason.TheVariants.{Pick}
use Rattle.tfpg_clause.specs.Facts.{fact}
use Rattle.tfpg_clause.specs.declared.path.PathSplit.{PathSplit}
use Rattle.tfpg_search.specs.inside.Leaf.{Leaf, pick_reasons}
use Rattle.tfpg_search.specs.inside.Picks.{IsAllowed, IsInRange, picks_of}
use Rattle.tfpg_search.specs.SearchState.{SearchState}
use Rattle.tfpg_search.specs.inside.AtItsLeaf.{IsAtItsLeaf}
use Rattle.tfpg_search.specs.inside.Leaving.{KeepsBounds, Leaves}
use Rattle.tfpg_search.specs.inside.Moves.{untaken}
use Rattle.tfpg_search.proofs.lemmas.steps.DistinctNames.{range_next}
use Rattle.tfpg_search.proofs.lemmas.leaves.PicksOfPath.{picks_are, picks_take}
use Rattle.tfpg_search.proofs.lemmas.leaves.AtItsLeaf.{restated, of_same, fact_stated}
use Rattle.tfpg_base.proofs.lemmas.lists.Cuts.{slice_get-taken}
use Rattle.tfpg_base.proofs.lemmas.lists.Elements.{slice_get-none}
use Rattle.tfpg_base.proofs.lemmas.lists.Written.{slice_get-append_left, slice_get-after}
use Rattle.tfpg_search.proofs.lemmas.steps.PathAfter.{After, all_next}
use Rattle.tfpg_clause.specs.inside.MarkedTrees.{picked_on, stated_on}
use Rattle.tfpg_clause.specs.Paths.{next_alternative, cited_from}
use Rattle.tfpg_clause.specs.Case.{case_of}

-- a split in its next alternative, the last of its path, has fewer that are not taken
next_untaken : (front : List PathSplit) (taken : PathSplit) (deeper : List PathSplit) → taken.alternative < taken.alternatives → untaken (front ++ next_alternative taken ∷ []) < untaken (front ++ taken ∷ deeper)
next_untaken [] taken deeper more = omega (arith, more)
next_untaken (first ∷ front) taken deeper more = omega (arith, next_untaken front taken deeper more)

-- marks do not count
pub untaken_cited : (number : ℕ) (reasons : List Reason) (path : List PathSplit) → untaken (cited_from number reasons path) ≡ untaken path
untaken_cited number reasons [] = refl
untaken_cited number reasons (taken ∷ deeper) = ap (λ (n : ℕ). (taken.alternatives - taken.alternative) + n) (untaken_cited (number + 1) reasons deeper)

keeps_of : (o : Option ℕ) (old new : Leaf) → Leaves o old new → KeepsBounds old new
keeps_of None old new same = subst (KeepsBounds old) (sym same) (record { variables = refl; stated = λ fact stated is. is })
keeps_of (Some count) old new leaves = leaves.0

module _ (graph : Tfpg) (log : Logbook) (old : SearchState) (at : IsAtItsLeaf graph log old) where
  module _ (next : List PathSplit) (after : After old.path next) where
    abbrev front : List PathSplit
    front = after.front

    -- how many splits stay
    abbrev stay : ℕ
    stay = length front

    there_in_path : slice_get old.path stay ≡ Some after.taken
    there_in_path = ap (λ (fs : List PathSplit). slice_get fs stay) after.path_is ∙ slice_get-after front after.taken after.deeper

    within : stay < length old.path
    within = slice_get_within old.path stay after.taken there_in_path

    front_is : take stay old.path ≡ front
    front_is = ap (λ (fs : List PathSplit). take stay fs) after.path_is ∙ take_at front (after.taken ∷ after.deeper) stay refl

    long : length next ≡ stay + 1
    long = ap (λ (fs : List PathSplit). length fs) after.next_is ∙ length-append front (next_alternative after.taken ∷ [])

    bound : stay ≤ length old.entered
    bound = let w = within in let many = at.picks.many in omega arith

    same_front : (split : ℕ) → split ≤ stay → take split next ≡ take split old.path
    same_front split less =
        ap (λ (fs : List PathSplit). take split fs) after.next_is
        ∙ take-append-le split front (next_alternative after.taken ∷ []) less
        ∙ sym (ap (λ (fs : List PathSplit). take split fs) after.path_is ∙ take-append-le split front (after.taken ∷ after.deeper) less)

    still_long : length (take stay old.entered) ≡ stay
    still_long = length-take-le stay old.entered bound

    picks_left : (left : Leaf) (o : Option ℕ) → slice_get old.entered stay ≡ o → Leaves o old.leaf left → pick_reasons left ≡ picks_of graph log (take stay old.path)
    picks_left left None there same =
        let past = slice_get-none old.entered stay there in
        let number : length old.entered ≡ stay = let m = bound in grind arith in
        ap (λ (l : Leaf). pick_reasons l) same ∙ at.picks.reasons ∙ ap (λ (n : ℕ). picks_of graph log (take n old.path)) number
    picks_left left (Some before) there leaves =
        leaves.1
        ∙ ap (λ (n : ℕ). take n (pick_reasons old.leaf)) (at.picks.counts stay before there)
        ∙ ap (λ (rs : List Reason). take (length (picks_of graph log (take stay old.path))) rs) at.picks.reasons
        ∙ picks_take graph log 1 old.path stay (length old.entered) bound

    states_next : (r : Reason) (c : Constraint) (k number : ℕ) → k < stay → r ≡ Pick (1 + k) number → stated_on (case_of graph log old.reach) old.path r ≡ Some c
        → stated_on (case_of graph log old.reach) next r ≡ Some c
    states_next r c k number less pick states =
        let same_split : 1 + k ≡ suc k = omega arith in
        let pick_is : r ≡ Pick (suc k) number = pick ∙ ap (λ (n : ℕ). Pick n number) same_split in
        let before : picked_on graph log old.path (suc k) number ≡ Some c = ap (λ (x : Reason). stated_on (case_of graph log old.reach) old.path x) (sym pick_is) ∙ states in
        let there : (f : PathSplit) → slice_get old.path k ≡ Some f → slice_get next k ≡ Some f =
        λ f found.
        ap (λ (fs : List PathSplit). slice_get fs k) after.next_is
        ∙ slice_get-append_left front (next_alternative after.taken ∷ []) k less
        ∙ sym (ap (λ (fs : List PathSplit). slice_get fs k) after.path_is ∙ slice_get-append_left front (after.taken ∷ after.deeper) k less)
        ∙ found in
        let now : picked_on graph log next (suc k) number ≡ Some c = of_same graph log (slice_get old.path k) (slice_get next k) number c there before in
        ap (λ (x : Reason). stated_on (case_of graph log old.reach) next x) pick_is ∙ now

    stands_there : (left : Leaf) → Leaves (slice_get old.entered stay) old.leaf left
        → IsAtItsLeaf graph log (record old { path = next; entered = take stay old.entered; leaf = left })
    stands_there left leaves =
        let keeps = keeps_of (slice_get old.entered stay) old.leaf left leaves in
        let reasons : pick_reasons left ≡ picks_of graph log (take stay old.path) = picks_left left (slice_get old.entered stay) refl leaves in
        record {
          reach_is = at.reach_is;
          variables = keeps.variables ∙ at.variables;
          allowed = all_next (IsAllowed graph log) (λ taken more allowed. allowed) old.path next after at.allowed;
          range = all_next IsInRange range_next old.path next after at.range;
          stated =
              restated (fact (case_of graph log old.reach)) (stated_on (case_of graph log old.reach) old.path) (stated_on (case_of graph log old.reach) next) left
              (keeps.stated (fact (case_of graph log old.reach)) (stated_on (case_of graph log old.reach) old.path) at.stated)
              (λ r c states. fact_stated graph log old.reach next r c states)
              (λ index r c there states.
              let pick = picks_are graph log 1 front index r (ap (λ (fs : List PathSplit). slice_get (picks_of graph log fs) index) (sym front_is) ∙ ap (λ (rs : List Reason). slice_get rs index) (sym reasons) ∙ there) in
              states_next r c pick.k pick.number pick.within pick.is states);
          picks = record {
            few = (let l = long in let s = still_long in omega arith);
            many = (let l = long in let s = still_long in omega arith);
            counts = λ split before there.
                let earlier = slice_get-taken stay old.entered split before there in
                let less = earlier.0 in
                at.picks.counts split before earlier.1 ∙ ap (λ (fs : List PathSplit). length (picks_of graph log fs)) (sym (same_front split (omega arith)));
            reasons =
                reasons
                ∙ ap (λ (fs : List PathSplit). picks_of graph log fs) (sym (same_front stay (omega arith)))
                ∙ ap (λ (n : ℕ). picks_of graph log (take n next)) (sym still_long);
          };
        }

    -- The search stands at the next leaf, once all alternatives after so many are left.
    pub next_stands : (kept : ℕ) → kept ≡ length next - 1 → (left : Leaf) → Leaves (slice_get old.entered kept) old.leaf left
        → IsAtItsLeaf graph log (record old { path = next; entered = take kept old.entered; leaf = left })
    next_stands kept number left leaves =
        let same : stay ≡ kept = let l = long in omega arith in
        subst (λ (n : ℕ). IsAtItsLeaf graph log (record old { path = next; entered = take n old.entered; leaf = left })) same
        (stands_there left (subst (λ (n : ℕ). Leaves (slice_get old.entered n) old.leaf left) (sym same) leaves))

    pub next_some : length next ≡ 0 → ⊥
    next_some none = let l = long in omega arith

    pub next_fewer : untaken next < untaken old.path
    next_fewer =
        subst (λ (fs : List PathSplit). untaken next < untaken fs) (sym after.path_is)
        (subst (λ (fs : List PathSplit). untaken fs < untaken (front ++ after.taken ∷ after.deeper)) (sym after.next_is) (next_untaken front after.taken after.deeper after.more))
