-- The ranked findings of a right round stand in its order, each once.
use Rattle.std.proofs.Common.{◌≡◌, ◌≢◌, ℕ, ◌<◌, true, List, [], ◌∷◌, length, map, filter, count_by, Option, Some, slice_get, inl, inr, refl, sym, ap, subst, ◌∙◌, arith}
use Rattle.std.specs.Prelude.{option_map, option_and_then}
use Rattle.std.specs.List.{All, AllPairs, Contains}
use Rattle.std.proofs.lemmas.List.{length-map}
use Rattle.std.proofs.lemmas.List.Elements.{All-nil, All-cons, All-contains}
use Rattle.std.proofs.lemmas.List.Kept.{AllPairs-filter}
use Rattle.std.proofs.lemmas.List.Sums.{length-filter}
use Rattle.std.proofs.lemmas.Option.{same_Some, slice_get-map}
use Rattle.tfpg_base.specs.Set.{Rises}
use Rattle.tfpg_base.proofs.lemmas.lists.Choices.{option_and_then-some, option_map-some}
use Rattle.tfpg_base.proofs.lemmas.lists.Elements.{AllPairs-at, All-from_members, slice_get-contains}
use Rattle.tfpg_base.proofs.lemmas.lists.Images.{AllPairs-map, Contains-map, Contains-map_only}
use Rattle.tfpg_base.proofs.lemmas.lists.LookedUp.{filter_map-found}
use Rattle.tfpg_base.proofs.lemmas.lists.Ordered.{Rises-differ}
use Rattle.tfpg_base.proofs.lemmas.lists.Passing.{Contains-filter, Contains-filter_only, Contains-filter_map, Contains-filter_map_only}
use Rattle.tfpg_base.proofs.lemmas.lists.Pigeons.{length-le_contained}
use Rattle.tfpg_evidence.specs.declared.finding.Finding.{Finding}
use Rattle.tfpg_evidence.specs.declared.finding.Status.{Status}
use Rattle.tfpg_evidence.specs.declared.finding.Status.TheVariants.{Ranked, Covered, Rejected, Open}
use Rattle.tfpg_evidence.specs.declared.round.Round.{Round}
use Rattle.tfpg_evidence.specs.RoundOf.{finding_numbered, is_ranked}
use Rattle.tfpg_evidence.specs.Findings.{findings_at, ranked_in_order}
use Rattle.tfpg_hyp.specs.Ranking.{IsRankedBefore}
use Rattle.tfpg_hyp.specs.Rounds.{key_at, key_of_status}
use Rattle.tfpg_hyp.specs.declared.place.Place.{Place}
use Rattle.tfpg_hyp.proofs.lemmas.FindingsOfRound.{HasFindingAt}
use Rattle.tfpg_check.specs.Judging.{RoundBasis}
use Rattle.tfpg_check.proofs.lemmas.passing.ByNumber.{AllPairs-from_indexes}
use Rattle.tfpg_check.proofs.lemmas.completeness.WhatIsSaid.{OrdersRanked, ranking_as, ranking_of}
use Rattle.tfpg_check.proofs.lemmas.completeness.RightRoundFacts.{IsRightBy, number_of, found_by_number, finding_at_number, numbers_rise}

-- nothing is ranked before itself
not_before_itself : (key : Place) → IsRankedBefore key key → ⊥
not_before_itself key (inl less) = omega (arith, less)
not_before_itself key (inr (_, inl more)) = omega (arith, more)
not_before_itself key (inr (_, inr (_, less))) = omega (arith, less)

-- the key of a ranked finding
key_there : (number : ℕ) (finding : Finding) (status : Status) (key : Place) → finding.number ≡ number → key_of_status number status ≡ Some key
    → (is_ranked status ≡ true) × ((ranking_as finding status).key ≡ key)
key_there number finding (Ranked trace cost alarmed monitored) key same at =
    let own : record { cost = cost; robust = record { alarmed = alarmed; monitored = monitored }; number = number } ≡ key = same_Some _ key at in
    (refl, (λ i. record { cost = cost; robust = record { alarmed = alarmed; monitored = monitored }; number = same i }) ∙ own)
key_there number finding (Covered by) key same at = absurd cc
key_there number finding Rejected key same at = absurd cc
key_there number finding Open key same at = absurd cc

key_where_ranked : (number : ℕ) (status : Status) → is_ranked status ≡ true → (key : Place) × (key_of_status number status ≡ Some key)
key_where_ranked number (Ranked trace cost alarmed monitored) ranked = (_, refl)
key_where_ranked number (Covered by) ranked = absurd cc
key_where_ranked number Rejected ranked = absurd cc
key_where_ranked number Open ranked = absurd cc

module _ (basis : RoundBasis) (line : ℕ) (round : Round) (right : IsRightBy basis line round) where
  -- a number of the order is that of a ranked finding with this key
  record IsKeyed (number : ℕ) (key : Place) (finding : Finding) : Type 0 where
    at : HasFindingAt round number finding
    ranked : is_ranked finding.status ≡ true
    key_is : (ranking_of finding).key ≡ key

  keyed : (number : ℕ) (key : Place) → key_at round.findings number ≡ Some key → (finding : Finding) × IsKeyed number key finding
  keyed number key is =
      let found = option_and_then-some (λ (f : Finding). key_of_status number f.status) (slice_get round.findings number) key is in
      let has = key_there number found.0 found.0.status key (number_of basis line round right number found.0 found.1) found.2 in
      (found.0, record { at = found.1; ranked = has.0; key_is = has.1 })

  -- What the findings of these numbers, whose keys are these, come to.
  record AreKeyed (numbers : List ℕ) (keys : List Place) (found : List Finding) : Type 0 where
    pub ranked : All (λ (finding : Finding). is_ranked finding.status ≡ true) found
    pub keys_are : map (λ (finding : Finding). (ranking_of finding).key) found ≡ keys
    pub numbers_are : map (λ (finding : Finding). finding.number) found ≡ numbers

  are_keyed : (numbers : List ℕ) (keys : List Place) → map (key_at round.findings) numbers ≡ map Some keys → AreKeyed numbers keys (findings_at round.findings numbers)
  are_keyed [] [] same = record { ranked = All-nil (λ (finding : Finding). is_ranked finding.status ≡ true); keys_are = refl; numbers_are = refl }
  are_keyed [] (key ∷ keys) same = absurd cc
  are_keyed (number ∷ numbers) [] same = absurd cc
  are_keyed (number ∷ numbers) (key ∷ keys) same =
      let head : key_at round.findings number ≡ Some key = cc in
      let tail : map (key_at round.findings) numbers ≡ map Some keys = cc in
      let own = keyed number key head in
      let rest = are_keyed numbers keys tail in
      subst (AreKeyed (number ∷ numbers) (key ∷ keys))
      (sym (filter_map-found (finding_numbered round.findings) number own.0 numbers (found_by_number basis line round right number own.0 own.1.at)))
      (record {
        ranked = All-cons (λ (finding : Finding). is_ranked finding.status ≡ true) own.0 (findings_at round.findings numbers) own.1.ranked rest.ranked;
        keys_are = λ i. own.1.key_is i ∷ rest.keys_are i;
        numbers_are = λ i. number_of basis line round right number own.0 own.1.at i ∷ rest.numbers_are i;
      })

  all_keyed : AreKeyed round.order right.is_round.order.keys (ranked_in_order round)
  all_keyed = are_keyed round.order right.is_round.order.keys right.is_round.order.all_ranked

  -- the findings of the order are ranked,
  pub orders_ranked : OrdersRanked round
  orders_ranked = all_keyed.ranked

  -- they have its numbers,
  pub order_is : map (λ (finding : Finding). finding.number) (ranked_in_order round) ≡ round.order
  order_is = all_keyed.numbers_are

  -- and each is ranked before the later ones.
  pub ranked_before : AllPairs IsRankedBefore (map (λ (finding : Finding). (ranking_of finding).key) (ranked_in_order round))
  ranked_before = subst (AllPairs IsRankedBefore) (sym all_keyed.keys_are) right.is_round.order.in_order

  -- a finding of the order is that of a number
  pub ordered_only : (finding : Finding) → Contains (ranked_in_order round) finding → (number : ℕ) × HasFindingAt round number finding × (is_ranked finding.status ≡ true)
  ordered_only finding member =
      let from = Contains-filter_map_only (finding_numbered round.findings) round.order finding member in (
        from.0,
        finding_at_number basis line round right from.0 finding from.2,
        All-contains (λ (f : Finding). is_ranked f.status ≡ true) (ranked_in_order round) finding orders_ranked member,
      )

  -- the number of each ranked one stands in the order
  in_the_order : (number : ℕ) (finding : Finding) → HasFindingAt round number finding → is_ranked finding.status ≡ true → Contains round.order number
  in_the_order number finding at ranked =
      let key = key_where_ranked number finding.status ranked in
      right.is_round.order.each_ranked number key.0 (ap (option_and_then (λ (f : Finding). key_of_status number f.status)) at ∙ key.1)

  -- each ranked finding stands in the order
  pub ordered_there : (number : ℕ) (finding : Finding) → HasFindingAt round number finding → is_ranked finding.status ≡ true → Contains (ranked_in_order round) finding
  ordered_there number finding at ranked =
      Contains-filter_map (finding_numbered round.findings) round.order number finding (in_the_order number finding at ranked) (found_by_number basis line round right number finding at)

  -- ---- how many there are

  -- no number stands in the order twice
  key_at_index : (index number : ℕ) → slice_get round.order index ≡ Some number
      → (key : Place) × (slice_get right.is_round.order.keys index ≡ Some key) × (key_at round.findings number ≡ Some key)
  key_at_index index number at =
      let both : option_map Some (slice_get right.is_round.order.keys index) ≡ Some (key_at round.findings number) =
      sym (slice_get-map Some right.is_round.order.keys index) ∙ ap (λ (ks : List (Option Place)). slice_get ks index) (sym right.is_round.order.all_ranked)
      ∙ slice_get-map (key_at round.findings) round.order index ∙ ap (option_map (key_at round.findings)) at in
      let found = option_map-some Some (slice_get right.is_round.order.keys index) (key_at round.findings number) both in
      (found.0, found.1, sym found.2)

  order_apart : AllPairs ◌≢◌ round.order
  order_apart =
      AllPairs-from_indexes ◌≢◌ round.order
      (λ i j x y before at also same. (
      let one = key_at_index i x at in
      let other = key_at_index j y also in
      let keys : other.0 ≡ one.0 = same_Some other.0 one.0 (sym other.2 ∙ ap (key_at round.findings) (sym same) ∙ one.2) in
      not_before_itself one.0
      (subst (IsRankedBefore one.0) keys (AllPairs-at IsRankedBefore right.is_round.order.keys i j one.0 other.0 right.is_round.order.in_order one.1 other.1 before))
      ))

  -- As many are in the order as are ranked.
  pub count_ordered : length (ranked_in_order round) ≡ count_by (λ (f : Finding). is_ranked f.status) round.findings
  count_ordered =
      let numbers : List ℕ = map (λ (f : Finding). f.number) (filter (λ (f : Finding). is_ranked f.status) round.findings) in
      let rise : Rises numbers = AllPairs-map ◌<◌ (λ (f : Finding). f.number) (filter (λ (f : Finding). is_ranked f.status) round.findings)
      (AllPairs-filter (λ (a b : Finding). a.number < b.number) (λ (f : Finding). is_ranked f.status) round.findings (numbers_rise basis line round right)) in
      let to : (number : ℕ) → Contains numbers number → Contains round.order number = λ number member.
      (let from = Contains-map_only (λ (f : Finding). f.number) (filter (λ (f : Finding). is_ranked f.status) round.findings) number member in
      let at = Contains-filter_only (λ (f : Finding). is_ranked f.status) round.findings from.0 from.1 in
      subst (Contains round.order) (sym (number_of basis line round right at.0 from.0 at.1) ∙ from.2) (in_the_order at.0 from.0 at.1 at.2)) in
      let back : (number : ℕ) → Contains round.order number → Contains numbers number = λ number member.
      (let key = key_at_index member.0 number (slice_get-contains round.order number member) in
      let own = keyed number key.0 key.2 in
      subst (Contains numbers) (number_of basis line round right number own.0 own.1.at)
      (Contains-map (λ (f : Finding). f.number) (filter (λ (f : Finding). is_ranked f.status) round.findings) own.0
      (Contains-filter (λ (f : Finding). is_ranked f.status) round.findings number own.0 own.1.at own.1.ranked))) in
      let many = length-le_contained numbers round.order (Rises-differ numbers rise) (All-from_members (Contains round.order) numbers to) in
      let few = length-le_contained round.order numbers order_apart (All-from_members (Contains numbers) round.order back) in
      omega (
        arith,
        many,
        few,
        ap length order_is,
        length-map (ranked_in_order round) (λ (f : Finding). f.number),
        length-map (filter (λ (f : Finding). is_ranked f.status) round.findings) (λ (f : Finding). f.number),
        length-filter (λ (f : Finding). is_ranked f.status) round.findings,
      )
