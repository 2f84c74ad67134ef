-- What stands in the list of those that pass a test, or of the values that there are.
use Rattle.std.proofs.Common.{◌≡◌, ℕ, zero, suc, ◌<◌, ◌≤◌, Bool, true, false, cond, List, [], ◌∷◌, length, filter, filter_map, Option, Some, None, slice_get, inl, inr, ⊎_elim, refl, sym, ap, ◌∙◌, arith}
use Rattle.std.specs.List.{All, Contains, cons_option}
use Rattle.std.proofs.lemmas.List.Elements.{All-nil, All-cons}
use Rattle.std.proofs.lemmas.Option.{slice_get_within}
use Rattle.tfpg_base.proofs.lemmas.lists.Elements.{Contains-head, Contains-tail, Contains-nil, Contains-cons_cases, All-at, Contains-at, slice_get-contains}

-- an element at an index that passes is among those that pass
pub Contains-filter : {X : Type 0} (p : X → Bool) (xs : List X) (index : ℕ) (x : X) → slice_get xs index ≡ Some x → p x ≡ true → Contains (filter p xs) x
Contains-filter p [] index x at passes = absurd (omega (arith, slice_get_within [] index x at))
Contains-filter p (y ∷ ys) zero x at passes = by (p y) (ap p same ∙ passes)
  where
    same : y ≡ x
    same = cc

    by : (b : Bool) → b ≡ true → Contains (cond b (y ∷ filter p ys) (filter p ys)) x
    by true is = (0, omega arith, same)
    by false is = absurd cc
Contains-filter p (y ∷ ys) (suc index) x at passes = by (p y) (Contains-filter p ys index x at passes)
  where
    by : (b : Bool) → Contains (filter p ys) x → Contains (cond b (y ∷ filter p ys) (filter p ys)) x
    by true more = Contains-tail y (filter p ys) x more
    by false more = more

-- and each of those stands at an index and passes
pub Contains-filter_only : {X : Type 0} (p : X → Bool) (xs : List X) (x : X) → Contains (filter p xs) x → (index : ℕ) × (slice_get xs index ≡ Some x) × (p x ≡ true)
Contains-filter_only p [] x member = absurd (Contains-nil x member)
Contains-filter_only p (y ∷ ys) x member = by (p y) refl member (Contains-filter_only p ys x)
  where
    by : (b : Bool) → p y ≡ b → Contains (cond b (y ∷ filter p ys) (filter p ys)) x
        → (Contains (filter p ys) x → (index : ℕ) × (slice_get ys index ≡ Some x) × (p x ≡ true))
        → (index : ℕ) × (slice_get (y ∷ ys) index ≡ Some x) × (p x ≡ true)
    by true passes among rest = elim (Contains-cons_cases y (filter p ys) x among) [
      | inl same ↦ (0, ap Some same, ap p (sym same) ∙ passes)
      | inr more ↦ (let found = rest more in (suc found.0, found.1, found.2))
    ]
    by false fails among rest = let found = rest among in (suc found.0, found.1, found.2)

module _ {X Y : Type 0} (f : X → Option Y) where
  -- the value of an element stands among the values
  pub Contains-filter_map : (xs : List X) (x : X) (y : Y) → Contains xs x → f x ≡ Some y → Contains (filter_map f xs) y
  Contains-filter_map [] x y member at = absurd (Contains-nil x member)
  Contains-filter_map (first ∷ others) x y member at = elim (Contains-cons_cases first others x member) [
    | inl same ↦ here (f first) (ap f same ∙ at)
    | inr more ↦ further (f first) (Contains-filter_map others x y more at)
  ]
    where
      here : (o : Option Y) → o ≡ Some y → Contains (cons_option o (filter_map f others)) y
      here None is = absurd cc
      here (Some z) is = (0, omega arith, cc)

      further : (o : Option Y) → Contains (filter_map f others) y → Contains (cons_option o (filter_map f others)) y
      further None among = among
      further (Some z) among = Contains-tail z (filter_map f others) y among

  -- and what stands there is the value of an element
  pub Contains-filter_map_only : (xs : List X) (y : Y) → Contains (filter_map f xs) y → (x : X) × Contains xs x × (f x ≡ Some y)
  Contains-filter_map_only [] y member = absurd (Contains-nil y member)
  Contains-filter_map_only (first ∷ others) y member = by (f first) refl member (Contains-filter_map_only others y)
    where
      by : (o : Option Y) → f first ≡ o → Contains (cons_option o (filter_map f others)) y → (Contains (filter_map f others) y → (x : X) × Contains others x × (f x ≡ Some y))
          → (x : X) × Contains (first ∷ others) x × (f x ≡ Some y)
      by None at among rest = let found = rest among in (found.0, Contains-tail first others found.0 found.1, found.2)
      by (Some z) at among rest = elim (Contains-cons_cases z (filter_map f others) y among) [
        | inl same ↦ (first, Contains-head first others, at ∙ ap Some same)
        | inr more ↦ (let found = rest more in (found.0, Contains-tail first others found.0 found.1, found.2))
      ]

  -- the value of an element stands at an index among the values
  pub slice_get-filter_map : (xs : List X) (x : X) (y : Y) → Contains xs x → f x ≡ Some y → (index : ℕ) × (slice_get (filter_map f xs) index ≡ Some y)
  slice_get-filter_map xs x y member is = let found = Contains-filter_map xs x y member is in (found.0, slice_get-contains (filter_map f xs) y found)

  -- and at each index stands the value of an element
  pub slice_get-filter_map_only : (xs : List X) (index : ℕ) (y : Y) → slice_get (filter_map f xs) index ≡ Some y → (x : X) × Contains xs x × (f x ≡ Some y)
  slice_get-filter_map_only xs index y is = Contains-filter_map_only xs y (Contains-at (filter_map f xs) index y is)

  -- there are no more values than elements
  pub length-filter_map : (xs : List X) → length (filter_map f xs) ≤ length xs
  length-filter_map [] = omega arith
  length-filter_map (x ∷ xs) = by (f x) (length-filter_map xs)
    where
      by : (o : Option Y) → length (filter_map f xs) ≤ length xs → length (cons_option o (filter_map f xs)) ≤ length (x ∷ xs)
      by None few = omega arith
      by (Some y) few = omega arith

  -- where there are as many, each element has a value
  pub each_from_length-filter_map : (xs : List X) → length xs ≤ length (filter_map f xs) → (x : X) → Contains xs x → (y : Y) × (f x ≡ Some y)
  each_from_length-filter_map [] many x member = absurd (Contains-nil x member)
  each_from_length-filter_map (first ∷ xs) many x member = by (f first) refl many (λ enough there. each_from_length-filter_map xs enough x there)
    where
      by : (o : Option Y) → f first ≡ o → length (first ∷ xs) ≤ length (cons_option o (filter_map f xs))
          → (length xs ≤ length (filter_map f xs) → Contains xs x → (y : Y) × (f x ≡ Some y)) → (y : Y) × (f x ≡ Some y)
      by None own enough again = absurd (omega (arith, length-filter_map xs, enough))
      by (Some z) own enough again = ⊎_elim (λ here. (z, ap f (sym here) ∙ own)) (λ there. again (omega arith) there) (Contains-cons_cases first xs x member)

  -- where there are fewer, not each has one
  pub not_each_from_length-filter_map : (xs : List X) → length (filter_map f xs) < length xs → ((x : X) → Contains xs x → (y : Y) × (f x ≡ Some y)) → ⊥
  not_each_from_length-filter_map [] few each = omega arith
  not_each_from_length-filter_map (first ∷ xs) few each =
      let own = each first (Contains-head first xs) in
      not_each_from_length-filter_map xs (let same : length (filter_map f (first ∷ xs)) ≡ suc (length (filter_map f xs)) = ap (λ o. length (cons_option o (filter_map f xs))) own.1 in omega arith)
      (λ x member. each x (Contains-tail first xs x member))

  -- what holds of each value that is had holds of all of them
  pub All-filter_map : (P : Y → Type 0) → ((x : X) (y : Y) → f x ≡ Some y → P y) → (xs : List X) → All P (filter_map f xs)
  All-filter_map P each [] = All-nil P
  All-filter_map P each (x ∷ xs) = by (f x) refl (All-filter_map P each xs)
    where
      by : (o : Option Y) → f x ≡ o → All P (filter_map f xs) → All P (cons_option o (filter_map f xs))
      by None at rest = rest
      by (Some y) at rest = All-cons P y (filter_map f xs) (each x y at) rest

-- what holds of each item holds of those of some numbers
pub All-filter_map-slice_get : {X : Type 0} (P : X → Type 0) (xs : List X) → All P xs → (numbers : List ℕ) → All P (filter_map (slice_get xs) numbers)
All-filter_map-slice_get P xs all numbers = All-filter_map (slice_get xs) P (λ number x at. All-at P xs number x all at) numbers
