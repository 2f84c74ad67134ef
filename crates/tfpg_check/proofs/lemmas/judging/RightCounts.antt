-- Whether the counts of a round are right.
use Rattle.std.proofs.Common.{◌≡◌, ◌↔◌, ◌<◌, ℕ, ◌+◌, ◌∷◌, [], List, Bool, true, false, Some, length, inl, inr, sym, ap, arith, ◌∙◌}
use Rattle.std.specs.List.{Contains}
use Rattle.std.specs.Prelude.{IsTrue, count_by}
use Rattle.std.proofs.lemmas.Bool.{cond_both, false≢true}
use Rattle.std.proofs.lemmas.List.{get_or_past}
use Rattle.std.proofs.lemmas.Option.{get_or_from_slice_get, slice_get_cases}
use Rattle.tfpg_base.specs.Choice.{numbers_from}
use Rattle.tfpg_base.proofs.lemmas.lists.Elements.{All-from_members, AllPairs-cons, Contains-at, slice_get-contains}
use Rattle.tfpg_base.proofs.lemmas.lists.Numbered.{item_of, number_of, length-numbers_from}
use Rattle.tfpg_base.proofs.lemmas.lists.Ordered.{Rises, AllPairs-nil, same_from_members}
use Rattle.tfpg_check.specs.declared.round.lookup.RoundLookup.{RoundLookup}
use Rattle.tfpg_check.specs.Judging.{RoundBasis, IsClosedByRound, AreRightCounts}
use Rattle.tfpg_check.specs.inside.Lookups.{IsLookupOf, flag_at}
use Rattle.tfpg_check.specs.inside.Named.{AreCountsFound}

-- the numbers of the items that pass rise
numbers_rise : {X : Type 0} (p : X → Bool) (n : ℕ) (xs : List X) → Rises (numbers_from n p xs)
numbers_rise p n [] = AllPairs-nil ◌<◌
numbers_rise p n (x ∷ xs) =
    cond_both (p x) (n ∷ numbers_from (n + 1) p xs) (numbers_from (n + 1) p xs) Rises
    (λ passes. AllPairs-cons ◌<◌ n (numbers_from (n + 1) p xs)
    (All-from_members (λ later. n < later) (numbers_from (n + 1) p xs)
    (λ later has. omega (arith, (item_of p (n + 1) xs has.0 later (slice_get-contains (numbers_from (n + 1) p xs) later has)).counted)))
    (numbers_rise p (n + 1) xs))
    (λ fails. numbers_rise p (n + 1) xs)

-- the numbers of the flags that are up
abbrev raised : List Bool → List ℕ
raised flags = numbers_from 0 (λ (flag : Bool). flag) flags

raised_exactly : (flags : List Bool) (number : ℕ) → Contains (raised flags) number ↔ IsTrue (flag_at flags number)
raised_exactly flags number = (
  λ member. (let own = item_of (λ (flag : Bool). flag) 0 flags member.0 number (slice_get-contains (raised flags) number member) in
      let same : own.index ≡ number = omega (arith, own.counted) in
      ap (flag_at flags) (sym same) ∙ get_or_from_slice_get flags own.index own.item false own.at ∙ own.passes),
  λ up. elim (slice_get_cases flags number).1 [
    | inl there ↦
        let passes : there.0 ≡ true = sym (get_or_from_slice_get flags number there.0 false there.2) ∙ up in
        let own = number_of (λ (flag : Bool). flag) 0 flags number there.0 there.2 passes in
        Contains-at (raised flags) own.0 number (own.1 ∙ ap (λ (n : ℕ). Some n) (let zero_is : 0 + number ≡ number = omega arith in zero_is))
    | inr past ↦ absurd (false≢true (sym (get_or_past flags number false past.0) ∙ up))
  ],
)

module _ (basis : RoundBasis) (lookup : RoundLookup) (is : IsLookupOf basis lookup) where
  abbrev closed : List ℕ
  closed = raised lookup.closed.now

  closed_exactly : (number : ℕ) → Contains closed number ↔ IsClosedByRound basis lookup.read.now number
  closed_exactly number = (
    λ member. (is.closed number).0 ((raised_exactly lookup.closed.now number).0 member),
    λ shut. (raised_exactly lookup.closed.now number).1 ((is.closed number).1 shut),
  )

  counted : length closed ≡ count_by (λ (flag : Bool). flag) lookup.closed.now
  counted = length-numbers_from (λ (flag : Bool). flag) 0 lookup.closed.now

  -- The counts are right exactly where they are found so.
  pub counts_exactly : AreCountsFound lookup ↔ AreRightCounts basis lookup.read.now
  counts_exactly = (
    λ found. record {
      ranked = found.ranked;
      unsettled = found.unsettled;
      closed = closed;
      rising = numbers_rise (λ (flag : Bool). flag) 0 lookup.closed.now;
      exact = closed_exactly;
      rejected = found.rejected ∙ is.counted ∙ sym counted;
      all = found.all ∙ ap length (sym is.hypotheses);
    },
    λ right. (let same : right.closed ≡ closed =
        same_from_members right.closed closed right.rising (numbers_rise (λ (flag : Bool). flag) 0 lookup.closed.now)
        (λ number member. (closed_exactly number).1 ((right.exact number).0 member)) (λ number member. (right.exact number).1 ((closed_exactly number).0 member)) in
        record {
          ranked = right.ranked;
          unsettled = right.unsettled;
          rejected = right.rejected ∙ ap length same ∙ counted ∙ sym is.counted;
          all = right.all ∙ ap length is.hypotheses;
        }),
  )
