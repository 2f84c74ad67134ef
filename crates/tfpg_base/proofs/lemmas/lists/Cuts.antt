-- Lists that are cut in two ways.
use Rattle.std.proofs.Common.{◌≡◌, ◌⊎◌, List, [], ◌∷◌, ◌++◌, refl, sym, inl, inr, ◌-◌, get_or, ap, ◌∙◌, ℕ, zero, suc, ◌+◌, ◌<◌, ◌≤◌, length, take, drop, Some, arith, add-one}
use Rattle.std.specs.Prelude.{slice_get}
use Rattle.std.proofs.lemmas.List.{append-nil, length-append, length-take, take-take, take_at, get_or-take}
use Rattle.std.proofs.lemmas.Option.{none-some, same_Some, slice_get_read, slice_get-get_or}

-- the first cut is not after the other
pub record Past {X : Type 0} (xs ys front back : List X) : Type 0 where
  pub mid : List X
  pub front_is : front ≡ xs ++ mid
  pub rest_is : ys ≡ mid ++ back

-- the other cut is within the first list
pub record Within {X : Type 0} (xs ys front back : List X) : Type 0 where
  pub here : X
  pub mid : List X
  pub xs_is : xs ≡ front ++ here ∷ mid
  pub back_is : back ≡ here ∷ (mid ++ ys)

-- Of two cuts of one list, the one is not after the other, or is within its front.
pub cut_twice : {X : Type 0} (xs ys front back : List X) → xs ++ ys ≡ front ++ back → Past xs ys front back ⊎ Within xs ys front back
cut_twice [] ys front back same = inl (record { mid = front; front_is = refl; rest_is = same })
cut_twice (x ∷ xs) ys [] back same = inr (record { here = x; mid = xs; xs_is = refl; back_is = sym same })
cut_twice (x ∷ xs) ys (f ∷ front) back same =
    let head : f ≡ x = cc in
    let tail : xs ++ ys ≡ front ++ back = cc in
    elim (cut_twice xs ys front back tail) [
      | inl past ↦ let is : front ≡ xs ++ past.mid = past.front_is in
          let whole : f ∷ front ≡ x ∷ (xs ++ past.mid) = cc in
          inl (record { mid = past.mid; front_is = whole; rest_is = past.rest_is })
      | inr within ↦ let is : xs ≡ front ++ within.here ∷ within.mid = within.xs_is in
          let whole : x ∷ xs ≡ f ∷ (front ++ within.here ∷ within.mid) = cc in
          inr (record { here = within.here; mid = within.mid; xs_is = whole; back_is = within.back_is })
    ]

-- a list with an element in it is not empty
pub append_cons-not_nil : {X : Type 0} (xs : List X) (y : X) (ys : List X) → [] ≡ xs ++ y ∷ ys → ⊥
append_cons-not_nil [] y ys same = cc
append_cons-not_nil (x ∷ xs) y ys same = cc

module _ {X : Type 0} where
  -- what is read after the first so many
  pub slice_get-drop : (n : ℕ) (xs : List X) (i : ℕ) → slice_get (drop n xs) i ≡ slice_get xs (n + i)
  slice_get-drop zero xs i = ap (slice_get xs) (omega arith)
  slice_get-drop (suc n) [] i = refl
  slice_get-drop (suc n) (x ∷ xs) i =
      let next : suc n + i ≡ suc (n + i) = omega arith in
      slice_get-drop n xs i ∙ ap (slice_get (x ∷ xs)) (sym next)

  -- what is read among the first so many
  pub slice_get-take : (n : ℕ) (xs : List X) (i : ℕ) → i < n → slice_get (take n xs) i ≡ slice_get xs i
  slice_get-take zero xs i before = absurd (omega arith)
  slice_get-take (suc n) [] i before = refl
  slice_get-take (suc n) (x ∷ xs) zero before = refl
  slice_get-take (suc n) (x ∷ xs) (suc i) before = slice_get-take n xs i (omega arith)

  -- what there is among the first so many, there is among all, and its index is before so many
  pub slice_get-taken : (n : ℕ) (xs : List X) (i : ℕ) (x : X) → slice_get (take n xs) i ≡ Some x → (i < n) × (slice_get xs i ≡ Some x)
  slice_get-taken zero xs i x at = absurd (none-some x at)
  slice_get-taken (suc n) [] i x at = absurd (none-some x at)
  slice_get-taken (suc n) (y ∷ xs) zero x at = (omega arith, at)
  slice_get-taken (suc n) (y ∷ xs) (suc i) x at = let rest = slice_get-taken n xs i x at in (omega (arith, rest.0), rest.1)

  -- one item more among the first
  pub take-item : (xs : List X) (n : ℕ) (x : X) → slice_get xs n ≡ Some x → take (suc n) xs ≡ take n xs ++ x ∷ []
  take-item [] n x at = absurd (none-some x at)
  take-item (y ∷ xs) zero x at = ap (λ z. z ∷ []) (same_Some y x at)
  take-item (y ∷ xs) (suc n) x at = ap (λ zs. y ∷ zs) (take-item xs n x at)

  -- the same, as code counts
  pub take-next : (xs : List X) (n : ℕ) (x : X) → slice_get xs n ≡ Some x → take (n + 1) xs ≡ take n xs ++ x ∷ []
  take-next xs n x at = ap (λ m. take m xs) (add-one n) ∙ take-item xs n x at

  -- a list is what stands before an item, the item and what stands after it
  pub cut_at : (xs : List X) (n : ℕ) (x : X) → slice_get xs n ≡ Some x → xs ≡ take n xs ++ x ∷ drop (suc n) xs
  cut_at [] n x at = absurd (none-some x at)
  cut_at (y ∷ xs) zero x at = ap (λ z. z ∷ xs) (same_Some y x at)
  cut_at (y ∷ xs) (suc n) x at = ap (λ zs. y ∷ zs) (cut_at xs n x at)

-- The front ends before the last item: what comes after the front but for that item.
pub record Before {X : Type 0} (xs front : List X) : Type 0 where
  pub rest : List X
  pub is : xs ≡ front ++ rest

module _ {X : Type 0} where
  whole_is : (x y : X) (mid back : List X) → x ∷ [] ≡ y ∷ (mid ++ back) → y ∷ mid ≡ x ∷ []
  whole_is x y [] back same = let head : x ≡ y = cc in ap (λ z. z ∷ []) (sym head)
  whole_is x y (z ∷ mid) back same = cc

  -- A front of a list with one more item is all of it, or ends before that item.
  pub cut_last : (xs : List X) (x : X) (front back : List X) → xs ++ x ∷ [] ≡ front ++ back → (front ≡ xs ++ x ∷ []) ⊎ Before xs front
  cut_last xs x front back same = elim (cut_twice xs (x ∷ []) front back same) [
    | inl past ↦ by past.mid past.front_is past.rest_is
    | inr within ↦ inr (record { rest = within.here ∷ within.mid; is = within.xs_is })
  ]
    where
      by : (mid : List X) → front ≡ xs ++ mid → x ∷ [] ≡ mid ++ back → (front ≡ xs ++ x ∷ []) ⊎ Before xs front
      by [] front_is rest_is = inr (record { rest = []; is = sym (append-nil front ∙ front_is ∙ append-nil xs) })
      by (y ∷ mid) front_is rest_is = inl (front_is ∙ ap (λ zs. xs ++ zs) (whole_is x y mid back rest_is))

  -- where the first so many of a list are a given list, it has so many
  pub front_is_within : (xs given : List X) → take (length given) xs ≡ given → length given ≤ length xs
  front_is_within xs given same = omega (arith, ap length same, length-take (length given) xs)

  -- where they are a given list and one more item, those but one are the given list
  pub front_before : (xs given : List X) (x : X) → take (length given + 1) xs ≡ given ++ x ∷ [] → take (length given) xs ≡ given
  front_before xs given x same =
      sym (take-take (length given) (length given + 1) xs (omega arith)) ∙ ap (take (length given)) same ∙ take_at given (x ∷ []) (length given) refl

  -- the same front, by the length of the list with the one more
  pub front_with : (xs given : List X) (x : X) → take (length given + 1) xs ≡ given ++ x ∷ [] → take (length (given ++ x ∷ [])) xs ≡ given ++ x ∷ []
  front_with xs given x same =
      let more : length (given ++ x ∷ []) ≡ length given + 1 = omega (arith, length-append given (x ∷ [])) in
      ap (λ (n : ℕ). take n xs) more ∙ same

module _ {X : Type 0} where
  -- all but the last of a list with one more at its head
  pub take_but_last-cons : (x : X) (xs : List X) → 0 < length xs → take (length (x ∷ xs) - 1) (x ∷ xs) ≡ x ∷ take (length xs - 1) xs
  take_but_last-cons x xs h =
      let e : length (x ∷ xs) - 1 ≡ suc (length xs - 1) = omega arith in
      rw e refl

  -- the last of a list with one more at its head
  pub get_or-last_cons : (x : X) (xs : List X) (d : X) → 0 < length xs → get_or (x ∷ xs) (length (x ∷ xs) - 1) d ≡ get_or xs (length xs - 1) d
  get_or-last_cons x xs d h =
      let e : length (x ∷ xs) - 1 ≡ suc (length xs - 1) = omega arith in
      rw e refl

  -- a list with one at its head is not empty
  pub cons-not_nil : (x : X) (xs : List X) → x ∷ xs ≡ [] → ⊥
  cons-not_nil x xs e = cc

  -- the same, as code reads the item at an index
  pub cut_read : (xs before : List X) (index : ℕ) (x : X) → before ≡ take index xs → index < length xs → x ≡ get_or xs index x
      → xs ≡ before ++ x ∷ drop (index + 1) xs
  cut_read xs before index x are within at =
      cut_at xs index x (slice_get_read xs (length xs) index x refl within at)
      ∙ (λ i. sym are i ++ x ∷ drop (sym (add-one index) i) xs)

  -- the first so many of a list with more items go on from those of the list
  pub take-append : (n : ℕ) (xs ys : List X) → (more : List X) × (take n (xs ++ ys) ≡ take n xs ++ more)
  take-append zero xs ys = ([], refl)
  take-append (suc n) [] ys = (take (suc n) ys, refl)
  take-append (suc n) (x ∷ xs) ys = let rest = take-append n xs ys in (rest.0, ap (λ zs. x ∷ zs) rest.1)

  -- the last of the first so many, as code reads it, stands at its index in the list
  pub slice_get-last_taken : (xs ys : List X) (n : ℕ) (x : X) → suc n ≤ length xs → ys ≡ take (suc n) xs → x ≡ get_or ys (suc n - 1) x → slice_get xs n ≡ Some x
  slice_get-last_taken xs ys n x within are is =
      let number : suc n - 1 ≡ n = omega arith in
      let there : x ≡ get_or xs n x =
      is ∙ ap (λ (m : ℕ). get_or ys m x) number ∙ ap (λ (zs : List X). get_or zs n x) are ∙ get_or-take (suc n) xs n x (omega arith) in
      slice_get-get_or xs n x (omega arith) ∙ ap Some (sym there)
