-- What is read of a list after an element was written or added.
use Rattle.std.proofs.Common.{◌≡◌, ◌≢◌, ℕ, zero, suc, ◌+◌, ◌<◌, ◌⊎◌, ⊎_elim, List, [], ◌∷◌, ◌++◌, length, get_or, set, Some, refl, ap, sym, ◌∙◌, subst, arith, ◌≤◌, inl, inr}
use Rattle.std.specs.Prelude.{slice_get, slice_index}
use Rattle.std.proofs.lemmas.List.{get_or_append_left, get_or_push, set_past, set-get_or, get_or-set_same, get_or-set_other}
use Rattle.std.proofs.lemmas.Option.{same_Some, none-some, get_or_from_slice_get}
use Rattle.std.proofs.lemmas.Bool.{cases_eq, cases_lt}

module _ {X : Type 0} where
  -- at another index than the one written nothing changed
  pub slice_get-set_other : (xs : List X) (i j : ℕ) (y : X) → j ≢ i → slice_get (set xs i y) j ≡ slice_get xs j
  slice_get-set_other [] i j y other = refl
  slice_get-set_other (x ∷ xs) zero zero y other = absurd (other refl)
  slice_get-set_other (x ∷ xs) zero (suc j) y other = refl
  slice_get-set_other (x ∷ xs) (suc i) zero y other = refl
  slice_get-set_other (x ∷ xs) (suc i) (suc j) y other = slice_get-set_other xs i j y (λ same. other (ap suc same))

  -- at the index written what was written is read
  pub slice_get-set_same : (xs : List X) (i : ℕ) (y : X) → i < length xs → slice_get (set xs i y) i ≡ Some y
  slice_get-set_same [] i y inside = absurd (omega arith)
  slice_get-set_same (x ∷ xs) zero y inside = refl
  slice_get-set_same (x ∷ xs) (suc i) y inside = slice_get-set_same xs i y (omega arith)

  -- within the first of two lists stands what stands there in it
  pub slice_get-append_left : (xs ys : List X) (i : ℕ) → i < length xs → slice_get (xs ++ ys) i ≡ slice_get xs i
  slice_get-append_left [] ys i within = absurd (omega arith)
  slice_get-append_left (x ∷ xs) ys zero within = refl
  slice_get-append_left (x ∷ xs) ys (suc i) within = slice_get-append_left xs ys i (omega arith)

  -- the first item of the second list
  pub slice_get-after : (xs : List X) (y : X) (ys : List X) → slice_get (xs ++ y ∷ ys) (length xs) ≡ Some y
  slice_get-after [] y ys = refl
  slice_get-after (x ∷ xs) y ys = slice_get-after xs y ys

  -- before a new last element nothing changed
  pub slice_get-push_before : (xs : List X) (y : X) (i : ℕ) → i < length xs → slice_get (xs ++ y ∷ []) i ≡ slice_get xs i
  slice_get-push_before xs y i within = slice_get-append_left xs (y ∷ []) i within

  -- at its index the new last element is read
  pub slice_get-push_last : (xs : List X) (y : X) → slice_get (xs ++ y ∷ []) (length xs) ≡ Some y
  slice_get-push_last xs y = slice_get-after xs y []

  -- also where its index is a number that the length equals
  pub slice_get-push_at : (xs : List X) (y : X) (i : ℕ) → i ≡ length xs → slice_get (xs ++ y ∷ []) i ≡ Some y
  slice_get-push_at xs y i last = ap (slice_get (xs ++ y ∷ [])) last ∙ slice_get-push_last xs y

-- what holds of each element and of one more
pub each_get_or-push : {X : Type 0} (d : X) (P : ℕ → X → Type 0) (xs ys : List X) (x : X) (n : ℕ) → ys ≡ xs ++ x ∷ [] → length xs ≡ n
    → ((k : ℕ) → k < n → P k (get_or xs k d)) → P n x → (k : ℕ) → k < n + 1 → P k (get_or ys k d)
each_get_or-push d P xs ys x n are count each one k within =
    subst (λ zs. P k (get_or zs k d)) (sym are) (⊎_elim
    (λ less. subst (P k) (sym (get_or_append_left xs (x ∷ []) d k (omega (arith, less)))) (each k less))
    (λ same. subst (λ m. P m (get_or (xs ++ x ∷ []) m d)) same (subst (P n) (sym (get_or_push xs x d n count)) one))
    (let cases : (k < n) ⊎ (n ≡ k) = grind arith in cases))

module _ {X : Type 0} where
  -- what is read of a list with a new last item
  pub slice_get-push_cases : (xs : List X) (y : X) (i : ℕ) (x : X) → slice_get (xs ++ y ∷ []) i ≡ Some x
      → (slice_get xs i ≡ Some x) ⊎ ((i ≡ length xs) × (y ≡ x))
  slice_get-push_cases [] y zero x at = inr (refl, same_Some y x at)
  slice_get-push_cases [] y (suc i) x at = absurd (none-some x at)
  slice_get-push_cases (z ∷ xs) y zero x at = inl at
  slice_get-push_cases (z ∷ xs) y (suc i) x at = ⊎_elim
      (λ (old : slice_get xs i ≡ Some x). inl old)
      (λ (last : (i ≡ length xs) × (y ≡ x)). inr (ap suc last.0, last.1))
      (slice_get-push_cases xs y i x at)

  -- after the first of two lists stands what stands in the other
  pub slice_get-append_right : (xs ys : List X) (i : ℕ) → slice_get (xs ++ ys) (length xs + i) ≡ slice_get ys i
  slice_get-append_right [] ys i = let same : 0 + i ≡ i = omega arith in ap (slice_get ys) same
  slice_get-append_right (x ∷ xs) ys i =
      let same : suc (length xs) + i ≡ suc (length xs + i) = omega arith in
      ap (slice_get (x ∷ (xs ++ ys))) same ∙ slice_get-append_right xs ys i

  -- what is at an index of the first list is there in both
  pub slice_get-append_some : (xs ys : List X) (i : ℕ) (x : X) → slice_get xs i ≡ Some x → slice_get (xs ++ ys) i ≡ Some x
  slice_get-append_some [] ys i x at = absurd (none-some x at)
  slice_get-append_some (z ∷ xs) ys zero x at = at
  slice_get-append_some (z ∷ xs) ys (suc i) x at = slice_get-append_some xs ys i x at

  -- a write that writes back what was there undoes another
  pub set_back : (xs : List X) (i : ℕ) (x y : X) → slice_get xs i ≡ Some x → set (set xs i y) i x ≡ xs
  set_back [] i x y at = absurd (none-some x at)
  set_back (z ∷ xs) zero x y at = ap (λ (first : X). first ∷ xs) (sym (same_Some z x at))
  set_back (z ∷ xs) (suc i) x y at = ap (λ (others : List X). z ∷ others) (set_back xs i x y at)

  -- an item of two lists stands in the one or in the other
  pub slice_get-append_cases : (xs ys : List X) (i : ℕ) (x : X) → slice_get (xs ++ ys) i ≡ Some x → (slice_get xs i ≡ Some x) ⊎ ((j : ℕ) × (slice_get ys j ≡ Some x))
  slice_get-append_cases [] ys i x at = inr (i, at)
  slice_get-append_cases (z ∷ xs) ys zero x at = inl at
  slice_get-append_cases (z ∷ xs) ys (suc i) x at = slice_get-append_cases xs ys i x at

-- a write of a lesser number raises none
pub slice_index-set_le : (xs : List ℕ) (i w : ℕ) → w ≤ slice_index xs i → (j : ℕ) → slice_index (set xs i w) j ≤ slice_index xs j
slice_index-set_le xs i w low j =
    ⊎_elim
    (λ (same : j ≡ i). ⊎_elim
    (λ (inside : i < length xs). rw same (let e = get_or-set_same xs i w 0 inside in omega arith))
    (λ (past : length xs ≤ i). let e = ap (λ (ys : List ℕ). slice_index ys j) (set_past xs i w past) in omega arith)
    (cases_lt i (length xs)))
    (λ (other : j ≢ i). let e = get_or-set_other xs i j w 0 other in omega arith)
    (cases_eq j i)

-- a write of what stands there changes nothing
pub set-slice_get : {X : Type 0} (xs : List X) (i : ℕ) (x : X) → slice_get xs i ≡ Some x → set xs i x ≡ xs
set-slice_get xs i x at = ap (set xs i) (sym (get_or_from_slice_get xs i x x at)) ∙ set-get_or xs i x

module _ {X : Type 0} where
  -- what is read one further on in a list with one more at its head
  pub get_or-cons_next : (x : X) (xs : List X) (n : ℕ) (d : X) → get_or (x ∷ xs) (n + 1) d ≡ get_or xs n d
  get_or-cons_next x xs n d = let number : n + 1 ≡ suc n = omega arith in ap (λ m. get_or (x ∷ xs) m d) number
