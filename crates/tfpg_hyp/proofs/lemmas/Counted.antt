-- How many hypotheses there are.
use Rattle.std.proofs.Common.{◌≡◌, ℕ, suc, zero, min, ◌+◌, ◌-◌, ◌*◌, ◌^◌, ◌<◌, ◌≤◌, leb, Bool, true, false, cond, List, [], ◌∷◌, length, map, refl, arith, sym, ◌∙◌, ap}
use Rattle.std.proofs.Math.Nat.{pow-le-pow_right, pow-suc}
use Rattle.std.proofs.lemmas.Bool.{cond-true, cond-false, le-leb, lt-leb, leb-true, cond_both}
use Rattle.std.proofs.lemmas.Nat.{mul-le}
use Rattle.std.proofs.lemmas.List.{length-append, length-map, nil_from_length}
use Rattle.tfpg_base.proofs.lemmas.lists.Sequences.{min-cases}
use Rattle.tfpg_hyp.specs.inside.Choices.{doubted, doubting, with_first, chosen, chosen_below, choices, counted, counted_below}

-- ---- as many as are listed

pub length-doubted : (size : ℕ) (nodes : List ℕ) → length (doubted size nodes) ≡ choices size (length nodes)
length-doubted zero nodes = refl
length-doubted (suc size) [] = refl
length-doubted (suc size) (node ∷ others) =
    length-append (map (λ more. node ∷ more) (doubted size others)) (doubted (suc size) others)
    ∙ (λ i. length-map (doubted size others) (λ more. node ∷ more) i + length (doubted (suc size) others))
    ∙ (λ i. length-doubted size others i + length-doubted (suc size) others i)

module _ (nodes : List ℕ) (doubt : ℕ) where
  length-kept : (test : Bool) (size : ℕ) → length (cond test (map doubting (doubted size nodes)) []) ≡ cond test (choices size (length nodes)) 0
  length-kept true size = length-map (doubted size nodes) doubting ∙ length-doubted size nodes
  length-kept false size = refl

  pub length-chosen : (count size least : ℕ) → length (chosen nodes doubt count size least) ≡ counted (length nodes) doubt count size
  length-chosen zero size least = length-kept (leb size doubt) size
  length-chosen (suc count) zero least = refl
  length-chosen (suc count) (suc size) least =
      length-append (map (with_first least) (chosen nodes doubt count size (least + 1))) (chosen nodes doubt count (suc size) (least + 1))
      ∙ (λ i. length-map (chosen nodes doubt count size (least + 1)) (with_first least) i + length (chosen nodes doubt count (suc size) (least + 1)))
      ∙ (λ i. length-chosen count size (least + 1) i + length-chosen count (suc size) (least + 1) i)

  pub length-chosen_below : (count size : ℕ) → length (chosen_below nodes doubt count size) ≡ counted_below (length nodes) doubt count size
  length-chosen_below count zero = refl
  length-chosen_below count (suc size) =
      length-append (chosen_below nodes doubt count size) (chosen nodes doubt count size 0) ∙ (λ i. length-chosen_below count size i + length-chosen count size 0 i)

-- ---- no hypothesis has more members than there are

module _ (monitors doubt : ℕ) where
  -- not more than the failure modes and the doubts that there may be
  pub counted-past : (count size : ℕ) → count + doubt < size → counted monitors doubt count size ≡ 0
  counted-past zero size past = cond-false (leb size doubt) (choices size monitors) 0 (lt-leb size doubt (omega arith))
  counted-past (suc count) zero past = absurd (omega arith)
  counted-past (suc count) (suc size) past = omega (arith, counted-past count size (omega arith), counted-past count (suc size) (omega arith))

pub chosen-past : (nodes : List ℕ) (doubt count size least : ℕ) → count + doubt < size → chosen nodes doubt count size least ≡ []
chosen-past nodes doubt count size least past = nil_from_length (chosen nodes doubt count size least) (length-chosen nodes doubt count size least ∙ counted-past (length nodes) doubt count size past)

-- ---- not too many

module _ (size : ℕ) (before : (monitors : ℕ) → monitors ≤ 512 → choices size monitors ≤ 512 ^ size) where
  choices-row : (monitors : ℕ) → monitors ≤ 512 → choices (suc size) monitors ≤ monitors * 512 ^ size
  choices-row zero few = omega arith
  choices-row (suc monitors) few = omega (arith, before monitors (omega arith), choices-row monitors (omega arith))

choices-small : (size monitors : ℕ) → monitors ≤ 512 → choices size monitors ≤ 512 ^ size
choices-small zero monitors few = omega arith
choices-small (suc size) monitors few =
    omega (arith, choices-row size (choices-small size) monitors few, mul-le monitors (512 ^ size) 512 (512 ^ size) few (omega arith), pow-suc 512 size)

-- few doubts of few monitors are less than 2^37
choices-fit : (size monitors : ℕ) → monitors ≤ 512 → size ≤ 4 → choices size monitors ≤ 68719476736
choices-fit size monitors few small = omega (arith, choices-small size monitors few, pow-le-pow_right {n = 512} (omega arith) small)

-- there is one hypothesis without members
pub counted-none : (monitors doubt count : ℕ) → counted monitors doubt count 0 ≡ 1
counted-none monitors doubt zero = cond-true (leb 0 doubt) 1 0 (le-leb 0 doubt (omega arith))
counted-none monitors doubt (suc count) = refl

module _ (monitors doubt : ℕ) (few_monitors : monitors ≤ 512) (few_doubts : doubt ≤ 4) where
  counted-small : (count size : ℕ) → counted monitors doubt count size ≤ 2 ^ count * 68719476736
  counted-small zero size =
      cond_both (leb size doubt) (choices size monitors) 0 (λ n. n ≤ 2 ^ 0 * 68719476736)
      (λ few. choices-fit size monitors few_monitors (omega (arith, leb-true size doubt few, few_doubts))) (λ many. omega arith)
  counted-small (suc count) zero = omega (arith, counted-small count 0, pow-suc 2 count, counted-none monitors doubt count)
  counted-small (suc count) (suc size) = omega (arith, pow-suc 2 count, counted-small count size, counted-small count (suc size))

  -- a hundred bits count them where there are at most 64 failure modes
  pub counted-fit : (count size : ℕ) → count ≤ 64 → counted monitors doubt count size ≤ 2 ^ 100
  counted-fit count size few = omega (arith, counted-small count size, pow-le-pow_right {n = 2} (omega arith) few)

-- ---- larger sizes add nothing

module _ (monitors doubt count : ℕ) where
  counted_below-past : (more : ℕ) → counted_below monitors doubt count (count + doubt + 1 + more) ≡ counted_below monitors doubt count (count + doubt + 1)
  counted_below-past zero = let same : count + doubt + 1 + 0 ≡ count + doubt + 1 = omega arith in ap (counted_below monitors doubt count) same
  counted_below-past (suc more) =
      let next : count + doubt + 1 + suc more ≡ suc (count + doubt + 1 + more) = omega arith in
      ap (counted_below monitors doubt count) next ∙ omega (arith, counted_below-past more, counted-past monitors doubt count (count + doubt + 1 + more) (omega arith))

  -- the sizes up to all failure modes and all doubts are enough
  pub counted-least : (k : ℕ) → counted_below monitors doubt count (min k (count + doubt) + 1) ≡ counted_below monitors doubt count (k + 1)
  counted-least k =
      min-cases (λ n. counted_below monitors doubt count (n + 1) ≡ counted_below monitors doubt count (k + 1)) k (count + doubt) (λ few. refl)
      (λ many. let e : count + doubt + 1 + (k - (count + doubt)) ≡ k + 1 = omega (arith, many) in
      sym (sym (ap (counted_below monitors doubt count) e) ∙ counted_below-past (k - (count + doubt))))
