-- The numbers of hypotheses of each size, while one item after the other is counted in.
use Rattle.std.proofs.Common.{◌≡◌, ℕ, suc, zero, ◌+◌, ◌-◌, ◌*◌, ◌^◌, ◌<◌, ◌≤◌, ◌⊎◌, leb, List, length, get_or, set, replicate, ⊎_elim, refl, arith, sym, ◌∙◌, ap, add-one}
use Rattle.std.specs.List.{All}
use Rattle.std.proofs.lemmas.Bool.{cond-true, cond-false, cond_both, le-leb, lt-leb, cases_lt}
use Rattle.std.proofs.Math.Nat.{eq-or-lt_of_le}
use Rattle.std.proofs.lemmas.List.{get_or-replicate, get_or-set_same, get_or-set_other, get_or_default}
use Rattle.tfpg_hyp.specs.inside.Choices.{choices, counted, counted_below, with_one_more}
use Rattle.tfpg_hyp.proofs.lemmas.Counted.{counted-none, counted-fit}

-- ---- while one item is counted in

-- The numbers below an index are those before, and the others up to the greatest have the item counted in.
pub record IsCountedFrom (old new : List ℕ) (greatest index : ℕ) : Type 0 where
  pub below : (size : ℕ) → size ≤ index → get_or new size 0 ≡ get_or old size 0
  pub counted : (size : ℕ) → index < size → size ≤ greatest → get_or new size 0 ≡ with_one_more (λ other. get_or old other 0) size
  pub larger : (size : ℕ) → greatest < size → get_or new size 0 ≡ get_or old size 0

-- at first none is
pub IsCountedFrom-start : (old : List ℕ) (greatest : ℕ) → IsCountedFrom old old greatest greatest
IsCountedFrom-start old greatest = record {
  below = λ size within. refl;
  counted = λ size above within. absurd (omega (arith, above, within));
  larger = λ size above. refl;
}

-- one number more
pub IsCountedFrom-next : (old new : List ℕ) (greatest index value : ℕ) → index < length new → 0 < index → index ≤ greatest → value ≡ get_or new index 0 + get_or new (index - 1) 0
    → IsCountedFrom old new greatest index → IsCountedFrom old (set new index value) greatest (index - 1)
IsCountedFrom-next old new greatest zero value within some fits is so_far = absurd (omega (arith, some))
IsCountedFrom-next old new greatest (suc before) value within some fits is so_far = record {
  below = λ size low. get_or-set_other new (suc before) size value 0 (λ same. omega (arith, same, low)) ∙ so_far.below size (omega (arith, low));
  counted = λ size above low.
      ⊎_elim (λ same. here size (sym same)) (λ greater. get_or-set_other new (suc before) size value 0 (λ same. omega (arith, same, greater)) ∙ so_far.counted size greater low)
      (later size above);
  larger = λ size above. get_or-set_other new (suc before) size value 0 (λ same. omega (arith, same, above, fits)) ∙ so_far.larger size above;
}
  where
    here : (size : ℕ) → size ≡ suc before → get_or (set new (suc before) value) size 0 ≡ with_one_more (λ other. get_or old other 0) size
    here size same =
        let e : suc before - 1 ≡ before = omega arith in
        ap (λ n. get_or (set new (suc before) value) n 0) same
        ∙ get_or-set_same new (suc before) value 0 within
        ∙ omega (arith, is, ap (λ n. get_or new n 0) e, so_far.below (suc before) (omega arith), so_far.below before (omega arith))
        ∙ ap (with_one_more (λ other. get_or old other 0)) (sym same)

    later : (size : ℕ) → suc before - 1 < size → (suc before ≡ size) ⊎ (suc before < size)
    later size above = eq-or-lt_of_le (omega (arith, above))

-- at last all are
pub IsCountedFrom-end : (old new : List ℕ) (greatest size : ℕ) → IsCountedFrom old new greatest 0 → size ≤ greatest → get_or new size 0 ≡ with_one_more (λ other. get_or old other 0) size
IsCountedFrom-end old new greatest zero is within = is.below 0 (omega arith)
IsCountedFrom-end old new greatest (suc size) is within = is.counted (suc size) (omega arith) within

-- ---- while all items are counted in, one by one

-- how many hypotheses of each size there are, of so many failure modes
pub record HasCounts (monitors doubt count : ℕ) (of_size : List ℕ) : Type 0 where
  pub length_is : length of_size ≡ 69
  pub exact : (size : ℕ) → size ≤ 68 → get_or of_size size 0 ≡ counted monitors doubt count size

-- of no monitor and no failure mode there is one, without members
pub HasCounts-start : (doubt : ℕ) (of_size : List ℕ) → of_size ≡ set (replicate 69 0) 0 1 → HasCounts 0 doubt 0 of_size
HasCounts-start doubt of_size is = record {
  length_is = ap length is;
  exact = λ size few. ap (λ xs. get_or xs size 0) is ∙ by size few;
}
  where
    by : (size : ℕ) → size ≤ 68 → get_or (set (replicate 69 0) 0 1) size 0 ≡ counted 0 doubt 0 size
    by zero few = sym (counted-none 0 doubt 0)
    by (suc size) few =
        get_or-set_other (replicate 69 0) 0 (suc size) 1 0 (λ same. omega (arith, same))
        ∙ get_or-replicate 69 (suc size) 0 0 (omega (arith, few))
        ∙ sym (cond_both (leb (suc size) doubt) 0 0 (λ n. n ≡ 0) (λ low. refl) (λ high. refl))

module _ (monitors doubt count : ℕ) (old new : List ℕ) (has : HasCounts monitors doubt count old) (same_length : length new ≡ length old) where
  -- one failure mode more
  pub HasCounts-failure : ((size : ℕ) → size ≤ 68 → get_or new size 0 ≡ with_one_more (λ other. get_or old other 0) size) → HasCounts monitors doubt (count + 1) new
  HasCounts-failure more = record {
    length_is = same_length ∙ has.length_is;
    exact = λ size few. more size few ∙ by size few ∙ ap (λ n. counted monitors doubt n size) (sym (add-one count));
  }
    where
      by : (size : ℕ) → size ≤ 68 → with_one_more (λ other. get_or old other 0) size ≡ counted monitors doubt (suc count) size
      by zero few = has.exact 0 few ∙ counted-none monitors doubt count
      by (suc size) few = λ i. has.exact size (omega (arith, few)) i + has.exact (suc size) few i

-- one monitor more
pub HasCounts-monitor : (monitors doubt : ℕ) (old new : List ℕ) → HasCounts monitors doubt 0 old → length new ≡ length old → doubt ≤ 68
    → ((size : ℕ) → size ≤ doubt → get_or new size 0 ≡ with_one_more (λ other. get_or old other 0) size) → ((size : ℕ) → doubt < size → get_or new size 0 ≡ get_or old size 0)
    → HasCounts (monitors + 1) doubt 0 new
HasCounts-monitor monitors doubt old new has same_length small more other = record {
  length_is = same_length ∙ has.length_is;
  exact = λ size few.
      ⊎_elim (λ high. other size high ∙ has.exact size few ∙ none monitors size high ∙ sym (none (suc monitors) size high) ∙ next size)
      (λ not_high. let low : size ≤ doubt = omega (arith, not_high) in more size low ∙ by size low ∙ next size) (cases_lt doubt size);
}
  where
    next : (size : ℕ) → counted (suc monitors) doubt 0 size ≡ counted (monitors + 1) doubt 0 size
    next size = ap (λ n. counted n doubt 0 size) (sym (add-one monitors))

    some : (n size : ℕ) → size ≤ doubt → counted n doubt 0 size ≡ choices size n
    some n size low = cond-true (leb size doubt) (choices size n) 0 (le-leb size doubt low)

    none : (n size : ℕ) → doubt < size → counted n doubt 0 size ≡ 0
    none n size high = cond-false (leb size doubt) (choices size n) 0 (lt-leb size doubt high)

    by : (size : ℕ) → size ≤ doubt → with_one_more (λ other. get_or old other 0) size ≡ counted (suc monitors) doubt 0 size
    by zero low = has.exact 0 (omega arith) ∙ counted-none monitors doubt 0 ∙ sym (counted-none (suc monitors) doubt 0)
    by (suc size) low =
        (λ i. (has.exact size (omega (arith, low, small)) ∙ some monitors size (omega (arith, low))) i + (has.exact (suc size) (omega (arith, low, small)) ∙ some monitors (suc size) low) i)
        ∙ sym (some (suc monitors) (suc size) low)

-- the numbers fit
pub HasCounts-small : (monitors doubt count : ℕ) (of_size : List ℕ) → monitors ≤ 512 → doubt ≤ 4 → count ≤ 64 → HasCounts monitors doubt count of_size → All (λ n. n < 2 ^ 127) of_size
HasCounts-small monitors doubt count of_size few_monitors few_doubts few has k d within =
    omega (arith, get_or_default of_size k d 0 within, has.exact k (omega (arith, within, has.length_is)), counted-fit monitors doubt few_monitors few_doubts count k few)

-- the sum grows by the number of each size
pub total-next : (monitors doubt count : ℕ) (of_size : List ℕ) (size total : ℕ) → monitors ≤ 512 → doubt ≤ 4 → count ≤ 64 → HasCounts monitors doubt count of_size → size ≤ 68
    → (total ≡ counted_below monitors doubt count size) × (total ≤ size * 2 ^ 100)
    → (total + get_or of_size size 0 ≡ counted_below monitors doubt count (size + 1)) × (total + get_or of_size size 0 ≤ (size + 1) * 2 ^ 100)
total-next monitors doubt count of_size size total few_monitors few_doubts few has within so_far = (
  (λ i. so_far.0 i + has.exact size within i) ∙ ap (counted_below monitors doubt count) (sym (add-one size)),
  omega (arith, so_far.1, has.exact size within, counted-fit monitors doubt few_monitors few_doubts count size few),
)
