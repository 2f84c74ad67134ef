-- What each call of the system of a leaf leaves.
use Rattle.std.proofs.Common.{◌≡◌, ℕ, ◌+◌, ◌*◌, ◌<◌, List, [], ◌∷◌, ◌++◌, length, get_or, set, take, drop, Option, Some, refl, sym, ◌∙◌, ap, subst, inr, arith}
use Rattle.std.specs.Prelude.{pos, option_and_then}
use Rattle.std.proofs.lemmas.List.{drop-set-lt}
use Rattle.std.proofs.lemmas.Option.{slice_get_within, slice_get-get_or}
use Rattle.tfpg_base.specs.declared.constraint.Constraint.{Constraint}
use Rattle.tfpg_evidence.specs.declared.reason.Reason.{Reason}
use Rattle.tfpg_base.specs.Bounds.{at_most, at_least}
use Rattle.tfpg_diff.specs.declared.why.Why.TheVariants.{Given}
use Rattle.tfpg_diff.specs.VariableBounds.{VariableBounds}
use Rattle.tfpg_diff.specs.Demands.{Demands, Bounded}
use Rattle.tfpg_diff.specs.SystemState.{widest, with_floor, with_ceiling, with_pick, popped_to}
use Rattle.tfpg_diff.specs.inside.Kept.{demands_of}
use Rattle.tfpg_diff.proofs.lemmas.Bounding.{under, over}
use Rattle.tfpg_base.proofs.lemmas.lists.Written.{slice_get-set_same, slice_get-set_other}
use Rattle.tfpg_diff.proofs.lemmas.Updates.{with_floor-tighter, with_ceiling-tighter}
use Rattle.tfpg_search.specs.inside.Leaf.{Leaf, pick_reasons, IsStated}
use Rattle.tfpg_search.specs.inside.Tags.{IsTagged}
use Rattle.tfpg_search.proofs.lemmas.stated_system.TagsStay.{IsTagged-write, IsTagged-push}
use Rattle.tfpg_search.proofs.lemmas.stated_system.DemandsStayStated.{system_of, leaf_of, tagged_by-floor, tagged_by-ceiling, IsIndexOf, IsStated-write, IsStated-push, IsStated-pop, pick_reasons-push, pick_reasons-pop}

-- The fields of the system are what contracts see of it.
module _ (leaf : Leaf) (demands : Demands) (reasons : List Reason) (entered : List ℕ) {calls identity : ℕ} (view : system_of demands reasons entered calls identity ≡ leaf) (tagged : IsTagged demands reasons) where
  written_reasons : (new : Demands) (index : ℕ) (reason : Reason) → length new.bounds ≡ length demands.bounds → index < 2 * length demands.bounds
      → pick_reasons (leaf_of new (set reasons index reason)) ≡ pick_reasons leaf
  written_reasons new index reason same within =
      ap (λ (n : ℕ). drop (2 * n) (set reasons index reason)) same ∙ drop-set-lt (2 * length demands.bounds) reasons index reason within ∙ ap pick_reasons view

  module _ (v : ℕ) (within : v < length leaf.demands.bounds) where
    -- the bounds that the node has
    abbrev pub bounds_of : VariableBounds
    bounds_of = get_or demands.bounds v (widest 0)

    pub at : Bounded demands v bounds_of
    at = slice_get-get_or demands.bounds v (widest 0) (subst (λ (l : Leaf). v < length l.demands.bounds) (sym view) within)

    seen : Bounded leaf.demands v bounds_of
    seen = subst (λ (l : Leaf). Bounded l.demands v bounds_of) view at

    -- the node is one of those of the system
    pub inside : v < length demands.bounds
    inside = slice_get_within demands.bounds v bounds_of at

    -- a reason that is written at the index of one of its bounds leaves those of the picks
    pub floor_kept : (new : Demands) (reason : Reason) → length new.bounds ≡ length demands.bounds → pick_reasons (leaf_of new (set reasons v reason)) ≡ pick_reasons leaf
    floor_kept new reason same = written_reasons new v reason same (let below = inside in omega arith)

    pub ceiling_kept : (new : Demands) (index : ℕ) (reason : Reason) → length new.bounds ≡ length demands.bounds → index ≡ length demands.bounds + v
        → pick_reasons (leaf_of new (set reasons index reason)) ≡ pick_reasons leaf
    ceiling_kept new index reason same is = written_reasons new index reason same (let below = inside in omega arith)

    module _ (reason : Reason) (least tag : ℕ) (is_tag : tag ≡ v) (tighter : (bounds : VariableBounds) → Bounded leaf.demands v bounds → bounds.floor < least) where
      -- the demands with the higher bound
      pub raised_is : with_floor demands v least tag ≡ demands_of (set demands.bounds v (over bounds_of least v)) demands.picks
      raised_is = ap (with_floor demands v least) is_tag ∙ with_floor-tighter demands.bounds demands.picks v bounds_of at least v (tighter bounds_of seen)

      -- a raised lower bound, with its reason at the node's index
      pub raised_tagged : IsTagged (with_floor demands v least tag) (set reasons v reason)
      raised_tagged = subst (λ (d : Demands). IsTagged d (set reasons v reason)) (sym raised_is)
          (IsTagged-write demands reasons v (over bounds_of least v) v reason tagged (inr refl) (tagged.ceilings v bounds_of at))

      pub raised_stated : (fact stated : Reason → Option Constraint) → IsStated fact stated leaf → fact reason ≡ Some (at_least v least) →
          IsStated fact stated (leaf_of (with_floor demands v least tag) (set reasons v reason))
      raised_stated fact stated is_stated states =
          let many = tagged.one_each in
          let below = inside in
          let index : IsIndexOf demands v v = record { inside = omega arith; not_lower = λ u other here. other; not_upper = λ u other same. omega arith } in
          let before : IsStated fact stated (leaf_of demands reasons) = subst (IsStated fact stated) (sym view) is_stated in
          subst (λ (d : Demands). IsStated fact stated (leaf_of d (set reasons v reason))) (sym raised_is)
          (IsStated-write fact stated demands reasons tagged before v (over bounds_of least v) v reason index
          (ap (option_and_then fact) (slice_get-set_same reasons v reason (omega arith)) ∙ states)
          (tagged_by-ceiling fact reasons (set reasons v reason) bounds_of.ceiling_why v (length demands.bounds + v) (tagged.ceilings v bounds_of at)
          (slice_get-set_other reasons v (length demands.bounds + v) reason (λ same. omega arith))
          ∙ before.bounds.ceilings v bounds_of at))

    module _ (reason : Reason) (ceiling index : ℕ) (is_index : index ≡ length demands.bounds + v)
        (tighter : (bounds : VariableBounds) → Bounded leaf.demands v bounds → ceiling < bounds.ceiling) where
      -- the demands with the lower bound
      pub lowered_is : with_ceiling demands v ceiling index ≡ demands_of (set demands.bounds v (under bounds_of ceiling index)) demands.picks
      lowered_is = with_ceiling-tighter demands.bounds demands.picks v bounds_of at ceiling index (tighter bounds_of seen)

      -- a lowered upper bound, with its reason after those of all lower bounds
      pub lowered_tagged : IsTagged (with_ceiling demands v ceiling index) (set reasons index reason)
      lowered_tagged = subst (λ (d : Demands). IsTagged d (set reasons index reason)) (sym lowered_is)
          (IsTagged-write demands reasons v (under bounds_of ceiling index) index reason tagged (tagged.floors v bounds_of at) (inr (ap Given is_index)))

      pub lowered_stated : (fact stated : Reason → Option Constraint) → IsStated fact stated leaf → fact reason ≡ Some (at_most v (pos ceiling)) →
          IsStated fact stated (leaf_of (with_ceiling demands v ceiling index) (set reasons index reason))
      lowered_stated fact stated is_stated states =
          let many = tagged.one_each in
          let below = inside in
          let apart : IsIndexOf demands v index = record { inside = omega arith; not_lower = λ u other here same. omega arith; not_upper = λ u other same. other (omega arith) } in
          let before : IsStated fact stated (leaf_of demands reasons) = subst (IsStated fact stated) (sym view) is_stated in
          subst (λ (d : Demands). IsStated fact stated (leaf_of d (set reasons index reason))) (sym lowered_is)
          (IsStated-write fact stated demands reasons tagged before v (under bounds_of ceiling index) index reason apart
          (tagged_by-floor fact reasons (set reasons index reason) bounds_of.floor_why v (tagged.floors v bounds_of at)
          (slice_get-set_other reasons index v reason (λ same. omega arith))
          ∙ before.bounds.floors v bounds_of at)
          (ap (option_and_then fact) (slice_get-set_same reasons index reason (omega arith)) ∙ states))

  module _ (constraint : Constraint) (reason : Reason) (tag : ℕ) (is_tag : tag ≡ length reasons) (longer : List Reason) (pushed : longer ≡ reasons ++ reason ∷ [])
      (held : Demands) (same : held ≡ demands) where
    -- the tag of a pick
    tag_is : tag ≡ 2 * length demands.bounds + length demands.picks
    tag_is = is_tag ∙ tagged.one_each

    -- one more pick
    pub pushed_tagged : IsTagged (with_pick held constraint tag) longer
    pushed_tagged =
        subst (IsTagged (with_pick held constraint tag)) (sym pushed)
        (subst (λ (d : Demands). IsTagged (with_pick d constraint tag) (reasons ++ reason ∷ [])) (sym same)
        (IsTagged-push demands reasons constraint tag reason tagged tag_is))

    pub pushed_stated : (fact stated : Reason → Option Constraint) → IsStated fact stated leaf → stated reason ≡ Some constraint →
        IsStated fact stated (leaf_of (with_pick held constraint tag) longer)
    pushed_stated fact stated is_stated states =
        subst (λ (rs : List Reason). IsStated fact stated (leaf_of (with_pick held constraint tag) rs)) (sym pushed)
        (subst (λ (d : Demands). IsStated fact stated (leaf_of (with_pick d constraint tag) (reasons ++ reason ∷ []))) (sym same)
        (IsStated-push fact stated demands reasons tagged (subst (IsStated fact stated) (sym view) is_stated) constraint tag reason states))

    -- the reason of the pick is the last
    pub pushed_reasons : pick_reasons (leaf_of (with_pick held constraint tag) longer) ≡ pick_reasons leaf ++ reason ∷ []
    pushed_reasons =
        ap (λ (rs : List Reason). pick_reasons (leaf_of (with_pick held constraint tag) rs)) pushed
        ∙ ap (λ (d : Demands). pick_reasons (leaf_of (with_pick d constraint tag) (reasons ++ reason ∷ []))) same
        ∙ pick_reasons-push demands reasons tagged constraint tag reason
        ∙ ap (λ (l : Leaf). pick_reasons l ++ reason ∷ []) view

  module _ (len kept : ℕ) (is_kept : kept ≡ 2 * length demands.bounds + len) (rest : List Reason) (cut : rest ≡ take kept reasons)
      (new : Demands) (popped : new ≡ popped_to demands len) where
    -- what is left
    left_is : leaf_of new rest ≡ leaf_of (popped_to demands len) (take (2 * length demands.bounds + len) reasons)
    left_is = ap (λ (d : Demands). leaf_of d rest) popped ∙ ap (leaf_of (popped_to demands len)) (cut ∙ ap (λ (n : ℕ). take n reasons) is_kept)

    -- without the last picks
    pub popped_stated : (fact stated : Reason → Option Constraint) → IsStated fact stated leaf → IsStated fact stated (leaf_of new rest)
    popped_stated fact stated is_stated = subst (IsStated fact stated) (sym left_is)
        (IsStated-pop fact stated demands reasons tagged (subst (IsStated fact stated) (sym view) is_stated) len)

    pub popped_reasons : pick_reasons (leaf_of new rest) ≡ take len (pick_reasons leaf)
    popped_reasons = ap pick_reasons left_is ∙ pick_reasons-pop demands reasons tagged len ∙ ap (λ (l : Leaf). take len (pick_reasons l)) view
