-- Whether bytes are equal.
use Rattle.std.proofs.Common.{◌≡◌, ◌≢◌, ℕ, true, false, List, refl, sym, ◌∙◌, subst, ◌<◌, length, get_or, Some, None, position}
use Rattle.std.specs.Str.{bytes_eq}
use Rattle.std.specs.Cmp.Lexicographic.{nat_list_eq_equiv}
use Rattle.std.proofs.lemmas.Slice.Eq.{bytes_eq-Decides}
use Rattle.std.proofs.lemmas.Bool.{false≢true, false_from_ne_true}
use Rattle.std.specs.List.{All, AllPairs}
use Rattle.std.proofs.lemmas.List.Elements.{All-weaker}
use Rattle.tfpg_base.proofs.lemmas.lists.Positions.{position-at, position-All_fail}

-- equal bytes, the other way round
pub bytes_eq-swapped : (xs ys : List ℕ) → bytes_eq xs ys ≡ bytes_eq ys xs
bytes_eq-swapped xs ys = nat_list_eq_equiv.symm xs ys

-- bytes that are not equal differ
pub bytes_eq-false : (xs ys : List ℕ) → bytes_eq xs ys ≡ false → xs ≢ ys
bytes_eq-false xs ys fails same = false≢true (sym fails ∙ (bytes_eq-Decides xs ys).1 same)

-- bytes that pass the test are equal
pub bytes_eq-true : (xs ys : List ℕ) → bytes_eq xs ys ≡ true → xs ≡ ys
bytes_eq-true xs ys passes = (bytes_eq-Decides xs ys).0 passes

-- bytes that are not equal fail it
pub bytes_eq-differ : (xs ys : List ℕ) → xs ≢ ys → bytes_eq xs ys ≡ false
bytes_eq-differ xs ys differ = false_from_ne_true (bytes_eq xs ys) (λ passes. differ (bytes_eq-true xs ys passes))

-- bytes pass it with themselves
pub bytes_eq-same : (xs : List ℕ) → bytes_eq xs xs ≡ true
bytes_eq-same xs = (bytes_eq-Decides xs xs).1 refl

-- bytes differ where one thing holds of these and another of those, and no bytes have both
pub bytes_eq-apart : (P Q : List ℕ → Type 0) (xs ys : List ℕ) → P xs → Q ys → ((zs : List ℕ) → P zs → Q zs → ⊥) → bytes_eq xs ys ≡ false
bytes_eq-apart P Q xs ys p q apart = bytes_eq-differ xs ys (λ same. apart ys (subst P same p) q)

module _ {X : Type 0} (bytes : X → List ℕ) where
  -- among items with bytes that differ, each stands first at its own index
  pub position-bytes : (xs : List X) (number : ℕ) (d : X) → AllPairs (λ a b. bytes a ≢ bytes b) xs → number < length xs
      → position (λ x. bytes_eq (bytes x) (bytes (get_or xs number d))) xs ≡ Some number
  position-bytes xs number d differ within =
      position-at (λ x. bytes_eq (bytes x) (bytes (get_or xs number d))) xs number d within
      (bytes_eq-same (bytes (get_or xs number d)))
      (λ earlier before. bytes_eq-differ (bytes (get_or xs earlier d)) (bytes (get_or xs number d))
      (differ earlier number d before within))

  -- bytes that differ from those of each item are found at none
  pub position-bytes_none : (word : List ℕ) (xs : List X) → All (λ x. bytes x ≢ word) xs → position (λ x. bytes_eq (bytes x) word) xs ≡ None
  position-bytes_none word xs differ =
      position-All_fail (λ x. bytes_eq (bytes x) word) xs
      (All-weaker (λ x. bytes x ≢ word) (λ x. bytes_eq (bytes x) word ≡ false)
      (λ x other. bytes_eq-differ (bytes x) word other) xs differ)
