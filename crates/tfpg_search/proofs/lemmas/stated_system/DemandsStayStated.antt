-- Each demand stays stated by its reason.
use Rattle.std.proofs.Common.{◌≡◌, ◌≢◌, ℕ, ◌+◌, ◌*◌, ◌<◌, List, [], ◌∷◌, ◌++◌, length, set, take, drop, Option, Some, sym, ◌∙◌, ap, ⊎_elim, ◌⊎◌, arith, length-drop}
use Rattle.std.specs.Prelude.{slice_get, pos, option_and_then}
use Rattle.std.proofs.lemmas.List.{length-set, drop-set-lt, drop-append-le, drop-take}
use Rattle.std.proofs.lemmas.Option.{slice_get_within}
use Rattle.tfpg_base.specs.declared.constraint.Constraint.{Constraint}
use Rattle.tfpg_evidence.specs.declared.reason.Reason.{Reason}
use Rattle.tfpg_base.specs.Bounds.{at_most, at_least}
use Rattle.tfpg_diff.specs.declared.why.Why.{Why}
use Rattle.tfpg_diff.specs.declared.why.Why.TheVariants.{Floor, Ceiling, Given}
use Rattle.tfpg_diff.specs.VariableBounds.{VariableBounds}
use Rattle.tfpg_diff.specs.declared.pick.Pick.{Pick}
use Rattle.tfpg_diff.specs.Demands.{Demands, Bounded}
use Rattle.tfpg_diff.specs.SystemState.{with_pick, popped_to}
use Rattle.tfpg_diff.specs.inside.Kept.{demands_of}
use Rattle.tfpg_diff.proofs.lemmas.Changes.{Bounded-set}
use Rattle.tfpg_base.proofs.lemmas.lists.Written.{slice_get-set_other, slice_get-push_before, slice_get-push_last, slice_get-push_cases}
use Rattle.tfpg_search.specs.inside.Leaf.{Leaf, tagged_by, pick_reasons, AreBoundsStated, IsStated}
use Rattle.tfpg_search.specs.inside.Tags.{IsTagged}
use Rattle.tfpg_base.proofs.lemmas.lists.Cuts.{slice_get-take, slice_get-taken}

-- the system with these demands and reasons, so many picks before each alternative, so many calls, and this identity
abbrev pub system_of : Demands → List Reason → List ℕ → ℕ → ℕ → Leaf
system_of demands reasons entered calls identity =
    record { demands = demands; reasons = reasons; entered = entered; calls = calls; identity = identity }

-- the same, whichever alternatives are entered, however many calls there were, and whichever system it is
abbrev pub leaf_of : Demands → List Reason → Leaf
leaf_of demands reasons = system_of demands reasons [] 0 0

module _ (stated : Reason → Option Constraint) (reasons others : List Reason) where
  -- what the tag of a lower bound names, where its reason stays
  pub tagged_by-floor : (why : Why) (u : ℕ) → (why ≡ Floor u) ⊎ (why ≡ Given u) → slice_get others u ≡ slice_get reasons u →
      tagged_by stated others why ≡ tagged_by stated reasons why
  tagged_by-floor why u either same = ⊎_elim
      (λ (is : why ≡ Floor u). ap (tagged_by stated others) is ∙ sym (ap (tagged_by stated reasons) is))
      (λ (is : why ≡ Given u). ap (tagged_by stated others) is ∙ ap (option_and_then stated) same ∙ sym (ap (tagged_by stated reasons) is))
      either

  -- and that of an upper bound
  pub tagged_by-ceiling : (why : Why) (u index : ℕ) → (why ≡ Ceiling u) ⊎ (why ≡ Given index) → slice_get others index ≡ slice_get reasons index →
      tagged_by stated others why ≡ tagged_by stated reasons why
  tagged_by-ceiling why u index either same = ⊎_elim
      (λ (is : why ≡ Ceiling u). ap (tagged_by stated others) is ∙ sym (ap (tagged_by stated reasons) is))
      (λ (is : why ≡ Given index). ap (tagged_by stated others) is ∙ ap (option_and_then stated) same ∙ sym (ap (tagged_by stated reasons) is))
      either

-- the bounds stay stated where their reasons stay
pub AreBoundsStated-same : (fact : Reason → Option Constraint) (demands : Demands) (picks : List Pick) (reasons others : List Reason) → IsTagged demands reasons →
    ((index : ℕ) → index < 2 * length demands.bounds → slice_get others index ≡ slice_get reasons index) →
    AreBoundsStated fact demands reasons → AreBoundsStated fact (demands_of demands.bounds picks) others
AreBoundsStated-same fact demands picks reasons others tagged same stated = record {
  floors = λ u b at.
      let inside = slice_get_within demands.bounds u b at in
      tagged_by-floor fact reasons others b.floor_why u (tagged.floors u b at) (same u (omega arith)) ∙ stated.floors u b at;
  ceilings = λ u b at.
      let inside = slice_get_within demands.bounds u b at in
      tagged_by-ceiling fact reasons others b.ceiling_why u (length demands.bounds + u) (tagged.ceilings u b at) (same (length demands.bounds + u) (omega arith))
      ∙ stated.ceilings u b at;
}

-- The index is that of the reason of one bound of the node.
pub record IsIndexOf (demands : Demands) (v index : ℕ) : Type 0 where
  pub inside : index < 2 * length demands.bounds
  pub not_lower : (u : ℕ) → u ≢ v → u < length demands.bounds → u ≢ index
  pub not_upper : (u : ℕ) → u ≢ v → length demands.bounds + u ≢ index

module _ (demands : Demands) (reasons : List Reason) (tagged : IsTagged demands reasons) where
  -- the reasons of the picks, after a push
  pub pick_reasons-push : (constraint : Constraint) (tag : ℕ) (reason : Reason) →
      pick_reasons (leaf_of (with_pick demands constraint tag) (reasons ++ reason ∷ [])) ≡ pick_reasons (leaf_of demands reasons) ++ reason ∷ []
  pick_reasons-push constraint tag reason =
      drop-append-le (2 * length demands.bounds) reasons (reason ∷ []) (let o = tagged.one_each in omega arith)

  -- there are as many as picks
  pub length-pick_reasons : length (pick_reasons (leaf_of demands reasons)) ≡ length demands.picks
  length-pick_reasons = let o = tagged.one_each in let d = length-drop (2 * length demands.bounds) reasons in omega arith

  -- the reasons of the picks, after some were popped
  pub pick_reasons-pop : (len : ℕ) →
      pick_reasons (leaf_of (popped_to demands len) (take (2 * length demands.bounds + len) reasons)) ≡ take len (pick_reasons (leaf_of demands reasons))
  pick_reasons-pop len = drop-take (2 * length demands.bounds) len reasons

module _ (fact stated : Reason → Option Constraint) (demands : Demands) (reasons : List Reason) (tagged : IsTagged demands reasons)
    (is_stated : IsStated fact stated (leaf_of demands reasons)) where
  -- after a write of the bounds of one node, and of a reason
  pub IsStated-write : (v : ℕ) (new : VariableBounds) (index : ℕ) (reason : Reason) → IsIndexOf demands v index →
      tagged_by fact (set reasons index reason) new.floor_why ≡ Some (at_least v new.floor) →
      tagged_by fact (set reasons index reason) new.ceiling_why ≡ Some (at_most v (pos new.ceiling)) →
      IsStated fact stated (leaf_of (demands_of (set demands.bounds v new) demands.picks) (set reasons index reason))
  IsStated-write v new index reason apart low high =
      let others : List Reason = set reasons index reason in
      let picks_same : pick_reasons (leaf_of (demands_of (set demands.bounds v new) demands.picks) others) ≡ pick_reasons (leaf_of demands reasons) =
      ap (λ (n : ℕ). drop (2 * n) others) (length-set demands.bounds v new) ∙ drop-set-lt (2 * length demands.bounds) reasons index reason apart.inside in
      record {
        wider = is_stated.wider;
        bounds = record {
          floors = λ u b at. ⊎_elim
              (λ (here : (u ≡ v) × (b ≡ new)).
              ap (λ (c : VariableBounds). tagged_by fact others c.floor_why) here.1 ∙ low
              ∙ sym (ap (λ (n : ℕ). Some (at_least n b.floor)) here.0 ∙ ap (λ (c : VariableBounds). Some (at_least v c.floor)) here.1))
              (λ (there : (u ≢ v) × Bounded demands u b).
              tagged_by-floor fact reasons others b.floor_why u (tagged.floors u b there.1)
              (slice_get-set_other reasons index u reason (apart.not_lower u there.0 (slice_get_within demands.bounds u b there.1)))
              ∙ is_stated.bounds.floors u b there.1)
              (Bounded-set demands.bounds demands.picks v new u b at);
          ceilings = λ u b at. ⊎_elim
              (λ (here : (u ≡ v) × (b ≡ new)).
              ap (λ (c : VariableBounds). tagged_by fact others c.ceiling_why) here.1 ∙ high
              ∙ sym (ap (λ (n : ℕ). Some (at_most n (pos b.ceiling))) here.0 ∙ ap (λ (c : VariableBounds). Some (at_most v (pos c.ceiling))) here.1))
              (λ (there : (u ≢ v) × Bounded demands u b).
              tagged_by-ceiling fact reasons others b.ceiling_why u (length demands.bounds + u) (tagged.ceilings u b there.1)
              (slice_get-set_other reasons index (length demands.bounds + u) reason (apart.not_upper u there.0))
              ∙ is_stated.bounds.ceilings u b there.1)
              (Bounded-set demands.bounds demands.picks v new u b at);
        };
        picks = λ k pick at.
            ap (λ (rs : List Reason). option_and_then stated (slice_get rs k)) picks_same ∙ is_stated.picks k pick at;
      }

  -- after a push of a pick and its reason
  pub IsStated-push : (constraint : Constraint) (tag : ℕ) (reason : Reason) → stated reason ≡ Some constraint →
      IsStated fact stated (leaf_of (with_pick demands constraint tag) (reasons ++ reason ∷ []))
  IsStated-push constraint tag reason states =
      let pick : Pick = record { constraint = constraint; tag = tag } in
      let old : List Reason = pick_reasons (leaf_of demands reasons) in
      record {
        wider = is_stated.wider;
        bounds = AreBoundsStated-same fact demands (demands.picks ++ pick ∷ []) reasons (reasons ++ reason ∷ []) tagged
            (λ index before. slice_get-push_before reasons reason index (let o = tagged.one_each in omega arith))
            is_stated.bounds;
        picks = λ k p at.
            ap (λ (rs : List Reason). option_and_then stated (slice_get rs k)) (pick_reasons-push demands reasons tagged constraint tag reason)
            ∙ ⊎_elim
            (λ (was : slice_get demands.picks k ≡ Some p).
            ap (option_and_then stated) (slice_get-push_before old reason k
            (let inside = slice_get_within demands.picks k p was in let many = length-pick_reasons demands reasons tagged in omega arith))
            ∙ is_stated.picks k p was)
            (λ (last : (k ≡ length demands.picks) × (pick ≡ p)).
            ap (λ (n : ℕ). option_and_then stated (slice_get (old ++ reason ∷ []) n)) (last.0 ∙ sym (length-pick_reasons demands reasons tagged))
            ∙ ap (option_and_then stated) (slice_get-push_last old reason)
            ∙ states ∙ ap (λ (q : Pick). Some q.constraint) last.1)
            (slice_get-push_cases demands.picks pick k p at);
      }

  -- after picks were popped
  pub IsStated-pop : (len : ℕ) → IsStated fact stated (leaf_of (popped_to demands len) (take (2 * length demands.bounds + len) reasons))
  IsStated-pop len = record {
    wider = is_stated.wider;
    bounds = AreBoundsStated-same fact demands (take len demands.picks) reasons (take (2 * length demands.bounds + len) reasons) tagged
        (λ index before. slice_get-take (2 * length demands.bounds + len) reasons index (omega arith))
        is_stated.bounds;
    picks = λ k p at.
        let kept = slice_get-taken len demands.picks k p at in
        ap (λ (rs : List Reason). option_and_then stated (slice_get rs k)) (pick_reasons-pop demands reasons tagged len)
        ∙ ap (option_and_then stated) (slice_get-take len (pick_reasons (leaf_of demands reasons)) k kept.0)
        ∙ is_stated.picks k p kept.1;
  }
