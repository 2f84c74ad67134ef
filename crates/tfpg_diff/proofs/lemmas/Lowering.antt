-- A broken constraint closes a negative cycle, or lowers a value and keeps what is kept.
use Rattle.std.proofs.Common.{◌≡◌, ◌≢◌, ℕ, ◌+◌, ◌<◌, ◌≤◌, List, [], ◌∷◌, ◌++◌, length, set, Some, refl, sym, ◌∙◌, ap, subst, arith, ⊎_elim, inl, inr}
use Rattle.std.specs.Prelude.{slice_get, slice_index, AllPairs, All, pos, ◌+ℤ◌, ◌<ℤ◌}
use Rattle.std.proofs.lemmas.Int.{ints}
use Rattle.std.proofs.lemmas.Bool.{cases_eq}
use Rattle.std.proofs.lemmas.Option.{same_Some}
use Rattle.std.proofs.lemmas.List.{length-set, get_or-set_same, get_or-set_other, map_push}
use Rattle.std.proofs.lemmas.List.Quantifiers.{all_pairs_push}
use Rattle.std.proofs.lemmas.List.Elements.{All-cons, All-push, All-weaker}
use Rattle.tfpg_diff.specs.declared.demand.Demand.{Demand}
use Rattle.tfpg_diff.specs.declared.why.Why.{Why}
use Rattle.tfpg_diff.specs.VariableBounds.{VariableBounds}
use Rattle.tfpg_diff.specs.Demands.{Demands, Demanded, Bounded, floor_of}
use Rattle.tfpg_diff.specs.Cycle.{NamesNegativeCycle}
use Rattle.tfpg_diff.specs.Solution.{IsBetween}
use Rattle.tfpg_diff.specs.inside.Kept.{IsMetBy, Climbs, IsLabelled, LeadsTo, Walked, IsLink, IsKept}
use Rattle.tfpg_diff.proofs.lemmas.Solutions.{IsMetBy-solution}
use Rattle.tfpg_base.proofs.lemmas.lists.Elements.{AllPairs-cons, AllPairs-front}
use Rattle.tfpg_base.proofs.lemmas.lists.Written.{slice_get-set_other, slice_get-set_same, slice_index-set_le}
use Rattle.tfpg_diff.proofs.lemmas.Climb.{Climbs-append, Climbs-simple, Climbs-at, IsOwnLink, IsRooted-set}
use Rattle.tfpg_diff.proofs.lemmas.Totals.{NamesNegativeCycle-chain, total_of-append, total_of-Climbs, IsTight, Chains-Climbs, Chains-append}

-- a constraint that the values break
pub record IsBrokenDemand (demands : Demands) (values : List ℕ) (demand : Demand) : Type 0 where
  pub demanded : Demanded demands demand
  pub left : demand.constraint.left ≤ length demands.bounds
  pub right : demand.constraint.right ≤ length demands.bounds
  pub broken : (pos (slice_index values demand.constraint.right) +ℤ demand.constraint.most) <ℤ pos (slice_index values demand.constraint.left)

module _ (demands : Demands) (values : List ℕ) (links : List Demand) (kept : IsKept demands values links) where
  -- each link has its number on its left
  pub Labelled-kept : IsLabelled links
  Labelled-kept x e up at = (kept.linked x e up at).left

  -- each link bounds the value of its number from below
  pub IsTight-kept : IsTight values links
  IsTight-kept x e up at = (kept.linked x e up at).tight

  -- the links of a way are demanded
  pub Demanded-Climbs : (x : ℕ) (es : List Demand) (y : ℕ) → Climbs links x es y → All (Demanded demands) es
  Demanded-Climbs x es y climb =
      All-weaker (IsOwnLink links) (Demanded demands) (λ (e : Demand) (at : IsOwnLink links e). (kept.linked e.constraint.left e at.0 at.1).demanded) es
      (Climbs-at links Labelled-kept x es y climb)

  -- the way of a walk is simple, also where it stops before zero
  pub AllPairs-Climbs : (x : ℕ) (es : List Demand) (y : ℕ) → Climbs links x es y → y < length links →
      AllPairs (λ (a b : Demand). a.constraint.left ≢ b.constraint.left) es
  AllPairs-Climbs x es y climb inside =
      let rest = kept.rooted y inside in
      AllPairs-front (λ (a b : Demand). a.constraint.left ≢ b.constraint.left) es rest.0
      (Climbs-simple links Labelled-kept x (es ++ rest.0) (Climbs-append links x es y rest.0 0 climb rest.1))

  -- A walk that meets the left side of a broken constraint closes a negative cycle of demands that have that constraint and
  -- the links.
  pub cycle_from_links : (new : Demands) (demand : Demand) (tags : List Why) → Demanded new demand →
      ((x : ℕ) (e : Demand) → 0 < x → slice_get links x ≡ Some e → Demanded new e) → demand.constraint.left < length links →
      (pos (slice_index values demand.constraint.right) +ℤ demand.constraint.most) <ℤ pos (slice_index values demand.constraint.left) →
      Walked links demand.constraint.right demand.constraint.left demand.constraint.left (demand.why ∷ []) tags → NamesNegativeCycle new tags
  cycle_from_links new demand tags demanded demands_links inside broken walked =
      let es : List Demand = walked.chain in
      let fall = total_of-Climbs values links IsTight-kept demand.constraint.right es demand.constraint.left walked.climbs in
      NamesNegativeCycle-chain new tags demand.constraint.left demand es (sym walked.tags)
      (All-cons (Demanded new) demand es demanded
      (All-weaker (IsOwnLink links) (Demanded new) (λ (e : Demand) (at : IsOwnLink links e). demands_links e.constraint.left e at.0 at.1) es
      (Climbs-at links Labelled-kept demand.constraint.right es demand.constraint.left walked.climbs)))
      (refl, Chains-Climbs links Labelled-kept demand.constraint.right es demand.constraint.left walked.climbs)
      (AllPairs-cons (λ (a b : Demand). a.constraint.left ≢ b.constraint.left) demand es
      (All-weaker (λ (e : Demand). e.constraint.left ≢ demand.constraint.left) (λ (e : Demand). demand.constraint.left ≢ e.constraint.left) (λ e other same. other (sym same)) es walked.avoids)
      (AllPairs-Climbs demand.constraint.right es demand.constraint.left walked.climbs inside))
      (omega (arith, ints))

  -- a walk that meets the left side closes a negative cycle
  pub cycle_from_met : (demand : Demand) (tags : List Why) → IsBrokenDemand demands values demand →
      Walked links demand.constraint.right demand.constraint.left demand.constraint.left (demand.why ∷ []) tags → NamesNegativeCycle demands tags
  cycle_from_met demand tags broken walked =
      cycle_from_links demands demand tags broken.demanded (λ x e up at. (kept.linked x e up at).demanded)
      (let l = broken.left in let k = kept.links_len in omega arith) broken.broken walked

  -- a walk to zero from a constraint that would lower its left side below its floor closes a negative cycle
  pub cycle_from_floor : (demand : Demand) (tags : List Why) (variable : ℕ) (bounds : VariableBounds) → IsBrokenDemand demands values demand →
      Walked links demand.constraint.right demand.constraint.left 0 (demand.why ∷ []) tags → Bounded demands variable bounds → demand.constraint.left ≡ variable + 1 →
      (pos (slice_index values demand.constraint.right) +ℤ demand.constraint.most) <ℤ pos bounds.floor →
      NamesNegativeCycle demands (tags ++ bounds.floor_why ∷ [])
  cycle_from_floor demand tags variable bounds broken walked bounded number low =
      let es : List Demand = walked.chain in
      let fall = total_of-Climbs values links IsTight-kept demand.constraint.right es 0 walked.climbs in
      let last : Demand = floor_of variable bounds in
      let is_last : Demanded demands last = inr (inl (variable, bounds, bounded, refl)) in
      let inside : 0 < length links = let k = kept.links_len in omega arith in
      let up : All (λ (e : Demand). e.constraint.left ≢ 0) es =
      All-weaker (IsOwnLink links) (λ (e : Demand). e.constraint.left ≢ 0) (λ (e : Demand) (at : IsOwnLink links e) same. absurd (omega (arith, at.0))) es
      (Climbs-at links Labelled-kept demand.constraint.right es 0 walked.climbs) in
      let joined = total_of-append es (last ∷ []) in
      NamesNegativeCycle-chain demands (tags ++ bounds.floor_why ∷ []) demand.constraint.left demand (es ++ last ∷ [])
      (ap (λ (rest : List Why). demand.why ∷ rest) (map_push (λ (e : Demand). e.why) es last)
      ∙ ap (λ (all : List Why). all ++ bounds.floor_why ∷ []) (sym walked.tags))
      (All-cons (Demanded demands) demand (es ++ last ∷ []) broken.demanded
      (All-push (Demanded demands) es last (Demanded-Climbs demand.constraint.right es 0 walked.climbs) is_last))
      (refl, Chains-append demand.constraint.right es 0 (last ∷ []) demand.constraint.left (Chains-Climbs links Labelled-kept demand.constraint.right es 0 walked.climbs) (refl, sym number))
      (AllPairs-cons (λ (a b : Demand). a.constraint.left ≢ b.constraint.left) demand (es ++ last ∷ [])
      (All-push (λ (e : Demand). demand.constraint.left ≢ e.constraint.left) es last
      (All-weaker (λ (e : Demand). e.constraint.left ≢ demand.constraint.left) (λ (e : Demand). demand.constraint.left ≢ e.constraint.left) (λ e other same. other (sym same)) es walked.avoids)
      (omega arith))
      (all_pairs_push (λ (a b : Demand). a.constraint.left ≢ b.constraint.left) es last (AllPairs-Climbs demand.constraint.right es 0 walked.climbs inside) up))
      (omega (arith, ints))

  -- a lowering keeps what is kept
  pub IsKept-lowered : (demand : Demand) (value variable : ℕ) (bounds : VariableBounds) → IsBrokenDemand demands values demand →
      LeadsTo links demand.constraint.right demand.constraint.left 0 → Bounded demands variable bounds → demand.constraint.left ≡ variable + 1 →
      pos value ≡ (pos (slice_index values demand.constraint.right) +ℤ demand.constraint.most) → bounds.floor ≤ value →
      IsKept demands (set values demand.constraint.left value) (set links demand.constraint.left demand)
  IsKept-lowered demand value variable bounds broken leads bounded number is high =
      let below = broken.broken in
      let low : value ≤ slice_index values demand.constraint.left = omega (arith, ints) in
      let inside : demand.constraint.left < length links = let l = broken.left in let k = kept.links_len in omega arith in
      let inside' : demand.constraint.left < length values = let l = broken.left in let k = kept.values_len in omega arith in
      let here : slice_index (set values demand.constraint.left value) demand.constraint.left ≡ value = get_or-set_same values demand.constraint.left value 0 inside' in
      let up : 0 < demand.constraint.left = omega arith in
      record {
        values_len = length-set values demand.constraint.left value ∙ kept.values_len;
        links_len = length-set links demand.constraint.left demand ∙ kept.links_len;
        zero_stays = get_or-set_other values demand.constraint.left 0 value 0 (omega arith) ∙ kept.zero_stays;
        rooted = IsRooted-set links Labelled-kept demand.constraint.left demand inside up leads.chain leads.climbs leads.avoids kept.rooted;
        linked = λ x e above at. ⊎_elim
            (λ (same : x ≡ demand.constraint.left).
            let own : demand ≡ e = same_Some demand e (sym (slice_get-set_same links demand.constraint.left demand inside) ∙ ap (slice_get (set links demand.constraint.left demand)) (sym same) ∙ at) in
            subst (λ (f : Demand). IsLink demands (set values demand.constraint.left value) x f) own
            (subst (λ (n : ℕ). IsLink demands (set values demand.constraint.left value) n demand) (sym same)
            (record {
              left = refl;
              right = broken.right;
              demanded = broken.demanded;
              tight = let fall = slice_index-set_le values demand.constraint.left value low demand.constraint.right in omega (arith, ints);
            })))
            (λ (other : x ≢ demand.constraint.left).
            let old : IsLink demands values x e = kept.linked x e above (sym (slice_get-set_other links demand.constraint.left x demand other) ∙ at) in
            record {
              left = old.left;
              right = old.right;
              demanded = old.demanded;
              tight = let fall = slice_index-set_le values demand.constraint.left value low e.constraint.right in
                  let stays : slice_index (set values demand.constraint.left value) x ≡ slice_index values x = get_or-set_other values demand.constraint.left x value 0 other in
                  let was = old.tight in omega (arith, ints);
            })
            (cases_eq x demand.constraint.left);
        within = λ v b at. ⊎_elim
            (λ (same : v + 1 ≡ demand.constraint.left).
            let one : v ≡ variable = omega arith in
            let own : bounds ≡ b = same_Some bounds b (sym bounded ∙ ap (slice_get demands.bounds) (sym one) ∙ at) in
            let old : IsBetween b (slice_index values (v + 1)) = kept.within v b at in
            let old' : slice_index values demand.constraint.left ≤ b.ceiling = subst (λ (n : ℕ). slice_index values n ≤ b.ceiling) same old.below in
            subst (λ (n : ℕ). IsBetween b n) (sym (ap (slice_index (set values demand.constraint.left value)) same ∙ here))
            (record { above = subst (λ (c : VariableBounds). c.floor ≤ value) own high; below = omega arith }))
            (λ (other : v + 1 ≢ demand.constraint.left).
            subst (λ (n : ℕ). IsBetween b n) (sym (get_or-set_other values demand.constraint.left (v + 1) value 0 other)) (kept.within v b at))
            (cases_eq (v + 1) demand.constraint.left);
        greatest = λ times solution x. ⊎_elim
            (λ (same : x ≡ demand.constraint.left).
            let met : IsMetBy (0 ∷ times) demand = IsMetBy-solution demands times solution demand broken.demanded in
            let right = kept.greatest times solution demand.constraint.right in
            let small : slice_index (0 ∷ times) demand.constraint.left ≤ value = omega (arith, ints) in
            rw (same, here) small)
            (λ (other : x ≢ demand.constraint.left). rw (get_or-set_other values demand.constraint.left x value 0 other) (kept.greatest times solution x))
            (cases_eq x demand.constraint.left);
      }
