-- A list without repetition is at most as long as a list that has all its items.
use Rattle.std.proofs.Common.{◌≡◌, ◌≢◌, ℕ, zero, suc, ◌<◌, ◌≤◌, List, [], ◌∷◌, ◌++◌, length, ap, subst, ⊎_elim, arith, length-append}
use Rattle.std.specs.Prelude.{All, AllPairs, Contains, slice_index_or}
use Rattle.std.proofs.lemmas.List.Elements.{All-nil, All-cons, All-head, All-tail}
use Rattle.tfpg_base.proofs.lemmas.lists.Elements.{AllPairs-head, AllPairs-tail, Contains-middle_cases}

module _ {X : Type 0} where
  -- where an item stands
  record Around (xs : List X) (x : X) : Type 0 where
    front : List X
    back : List X
    is : xs ≡ front ++ x ∷ back

  around_at : (xs : List X) (x : X) (k : ℕ) → k < length xs → slice_index_or xs k x ≡ x → Around xs x
  around_at [] x k within is = absurd (omega arith)
  around_at (y ∷ xs) x zero within is = record { front = []; back = xs; is = ap (λ z. z ∷ xs) is }
  around_at (y ∷ xs) x (suc k) within is =
      let others = around_at xs x k (omega arith) is in
      record { front = y ∷ others.front; back = others.back; is = ap (λ zs. y ∷ zs) others.is }

  -- what stands in a list and is not the item in its middle stands before or after it
  pub within_others : (xs : List X) (x : X) (front back : List X) → All (Contains (front ++ x ∷ back)) xs → All (λ (y : X). x ≢ y) xs → All (Contains (front ++ back)) xs
  within_others [] x front back has differ = All-nil (Contains (front ++ back))
  within_others (y ∷ xs) x front back has differ =
      All-cons (Contains (front ++ back)) y xs
      (⊎_elim (λ same. absurd (All-head (λ (z : X). x ≢ z) y xs differ same)) (λ rest. rest)
      (Contains-middle_cases front back x y (All-head (Contains (front ++ x ∷ back)) y xs has)))
      (within_others xs x front back (All-tail (Contains (front ++ x ∷ back)) y xs has) (All-tail (λ (z : X). x ≢ z) y xs differ))

  pub length-le_contained : (xs ys : List X) → AllPairs ◌≢◌ xs → All (Contains ys) xs → length xs ≤ length ys
  length-le_contained [] ys pairs has = omega arith
  length-le_contained (x ∷ xs) ys pairs has =
      let own = All-head (Contains ys) x xs has in
      let index = around_at ys x own.0 own.1 own.2 in
      let rest : length xs ≤ length (index.front ++ index.back) =
      length-le_contained xs (index.front ++ index.back) (AllPairs-tail ◌≢◌ x xs pairs)
      (within_others xs x index.front index.back (subst (λ (zs : List X). All (Contains zs) xs) index.is (All-tail (Contains ys) x xs has)) (AllPairs-head ◌≢◌ x xs pairs)) in
      omega (arith, rest, ap length index.is, length-append index.front (x ∷ index.back), length-append index.front index.back)
