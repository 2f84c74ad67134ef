-- The first index at which a test passes.
use Rattle.std.proofs.Common.{◌≡◌, ℕ, zero, suc, ◌+◌, ◌<◌, Bool, true, false, cond, not, nat_lt, List, [], ◌∷◌, ◌++◌, length, map, get_or, Option, Some, None, position, All, refl, ap, sym, ◌∙◌, arith, ◌||◌, take_all}
use Rattle.std.specs.List.{position_or_len, AllByRecursion, list_any, prefix_len, before_first}
use Rattle.std.specs.Option.{option_map}
use Rattle.std.proofs.lemmas.List.{length-map, append-nil}
use Rattle.std.proofs.lemmas.List.Elements.{All-from_recursion, All-head, All-tail}
use Rattle.std.proofs.lemmas.Bool.Decides.{nat_tests}
use Rattle.std.proofs.lemmas.Bool.{lt-ltb, ltb-false}
use Rattle.tfpg_base.proofs.lemmas.lists.Sequences.{nat_lt-suc}

cond_first : (m n : ℕ) → 0 < m → cond (nat_lt 0 m) (Some n) None ≡ Some n
cond_first m n some = grind (arith, nat_tests)

cond_next : (n m : ℕ) → cond (nat_lt (1 + n) (suc m)) (Some (1 + n)) None ≡ option_map suc (cond (nat_lt n m) (Some n) None)
cond_next n m = grind (arith, nat_tests)

-- the first index of a list with one more at its head
pub position-cons : {X : Type 0} (p : X → Bool) (x : X) (xs : List X) → position p (x ∷ xs) ≡ cond (p x) (Some 0) (option_map suc (position p xs))
position-cons p x xs = by (p x) (position_or_len p xs) (length xs)
  where
    by : (b : Bool) (n m : ℕ) → cond (nat_lt (cond (not b) (1 + n) 0) (suc m)) (Some (cond (not b) (1 + n) 0)) None ≡ cond b (Some 0) (option_map suc (cond (nat_lt n m) (Some n) None))
    by true n m = cond_first (suc m) 0 (omega arith)
    by false n m = cond_next n m

not_first : (b : Bool) (o : Option ℕ) → cond b (Some 0) (option_map suc o) ≡ None → (b ≡ false) × (o ≡ None)
not_first true o e = cc
not_first false None e = (refl, refl)
not_first false (Some n) e = cc

module _ {X : Type 0} where
  -- two tests that agree pass first at one index
  pub position-agrees : (p q : X → Bool) → ((x : X) → p x ≡ q x) → (xs : List X) → position p xs ≡ position q xs
  position-agrees p q same xs = λ i. position (λ x. same x i) xs

  position_or_len-map : {Y : Type 0} (p : Y → Bool) (f : X → Y) (xs : List X) → position_or_len p (map f xs) ≡ position_or_len (λ x. p (f x)) xs
  position_or_len-map p f [] = refl
  position_or_len-map p f (x ∷ xs) = ap (λ n. cond (not (p (f x))) (1 + n) 0) (position_or_len-map p f xs)

  -- the index of an image is the index of the first whose image passes
  pub position-map : {Y : Type 0} (p : Y → Bool) (f : X → Y) (xs : List X) → position p (map f xs) ≡ position (λ x. p (f x)) xs
  position-map p f xs =
      λ i. cond (nat_lt (position_or_len-map p f xs i) (length-map xs f i)) (Some (position_or_len-map p f xs i)) None

  -- one more that does not pass changes nothing
  pub position-push_no : (p : X → Bool) (xs : List X) (y : X) → p y ≡ false → position p (xs ++ y ∷ []) ≡ position p xs
  position-push_no p [] y fails = position-cons p y [] ∙ ap (λ b. cond b (Some 0) None) fails
  position-push_no p (x ∷ xs) y fails =
      position-cons p x (xs ++ y ∷ []) ∙ ap (λ o. cond (p x) (Some 0) (option_map suc o)) (position-push_no p xs y fails) ∙ sym (position-cons p x xs)

  -- one more that is the first to pass stands at the end
  pub position-push_yes : (p : X → Bool) (xs : List X) (y : X) → position p xs ≡ None → p y ≡ true → position p (xs ++ y ∷ []) ≡ Some (length xs)
  position-push_yes p [] y none passes = position-cons p y [] ∙ ap (λ b. cond b (Some 0) None) passes
  position-push_yes p (x ∷ xs) y none passes =
      let later = not_first (p x) (position p xs) (sym (position-cons p x xs) ∙ none) in
      position-cons p x (xs ++ y ∷ []) ∙ (λ i. cond (later.0 i) (Some 0) (option_map suc (position-push_yes p xs y later.1 passes i)))

-- where the first of a list fails and there is no index among the others, there is none
pub position-cons_none : {X : Type 0} (p : X → Bool) (x : X) (xs : List X) → position p (x ∷ xs) ≡ None → (p x ≡ false) × (position p xs ≡ None)
position-cons_none p x xs none = not_first (p x) (position p xs) (sym (position-cons p x xs) ∙ none)

each_fails : {X : Type 0} (p : X → Bool) (xs : List X) → position p xs ≡ None → AllByRecursion (λ x. p x ≡ false) xs
each_fails p [] none = tt
each_fails p (x ∷ xs) none = let first = position-cons_none p x xs none in (first.0, each_fails p xs first.1)

-- where there is no index, each fails
pub All-none : {X : Type 0} (p : X → Bool) (xs : List X) → position p xs ≡ None → All (λ x. p x ≡ false) xs
All-none p xs none = All-from_recursion _ xs (each_fails p xs none)

-- where each fails, there is no index
pub position-All_fail : {X : Type 0} (p : X → Bool) (xs : List X) → All (λ x. p x ≡ false) xs → position p xs ≡ None
position-All_fail p [] fail = refl
position-All_fail p (x ∷ xs) fail =
    position-cons p x xs
    ∙ (λ i. cond (All-head (λ y. p y ≡ false) x xs fail i) (Some 0) (option_map suc (position-All_fail p xs (All-tail (λ y. p y ≡ false) x xs fail) i)))

-- where what stands at a number passes and nothing before it does, this is the first index
pub position-at : {X : Type 0} (p : X → Bool) (xs : List X) (number : ℕ) (d : X) → number < length xs
    → p (get_or xs number d) ≡ true
    → ((earlier : ℕ) → earlier < number → p (get_or xs earlier d) ≡ false) → position p xs ≡ Some number
position-at p [] number d within passes fail = absurd (omega arith)
position-at p (x ∷ xs) zero d within passes fail =
    position-cons p x xs ∙ ap (λ b. cond b (Some 0) (option_map suc (position p xs))) passes
position-at p (x ∷ xs) (suc number) d within passes fail =
    position-cons p x xs
    ∙ (λ i. cond (fail 0 (omega arith) i) (Some 0)
    (option_map suc (position-at p xs number d (omega arith) passes (λ earlier before. fail (suc earlier) (omega arith)) i)))

module _ {X : Type 0} (p : X → Bool) where
  -- the first that passes stands within the list exactly where one passes
  pub position_or_len-within : (xs : List X) → nat_lt (position_or_len p xs) (length xs) ≡ list_any p xs
  position_or_len-within [] = refl
  position_or_len-within (x ∷ xs) =
      elim (p x) as (λ b. nat_lt (cond (not b) (1 + prefix_len (λ y. not (p y)) xs) 0) (suc (length xs)) ≡ (b || list_any p xs)) [
        | true ↦ lt-ltb 0 (suc (length xs)) (omega arith)
        | false ↦ nat_lt-suc (prefix_len (λ y. not (p y)) xs) (length xs) ∙ position_or_len-within xs
      ]

  -- where none passes, all stand before the first that does
  pub before_first-none : (xs : List X) → list_any p xs ≡ false → before_first p xs ≡ xs
  before_first-none xs none =
      take_all (position_or_len p xs) xs (ltb-false (position_or_len p xs) (length xs) (position_or_len-within xs ∙ none))

module _ {X : Type 0} (p : X → Bool) (added : Bool) (xs : List X) (y : X) where
  -- one item that may be added and does not pass changes nothing
  pub position-with_no : p y ≡ false → position p (xs ++ cond added (y ∷ []) []) ≡ position p xs
  position-with_no fails = by added
    where
      by : (b : Bool) → position p (xs ++ cond b (y ∷ []) []) ≡ position p xs
      by true = position-push_no p xs y fails
      by false = ap (position p) (append-nil xs)

  -- one item that may be added and is the first to pass stands at the end where it is added
  pub position-with_yes : position p xs ≡ None → p y ≡ true → position p (xs ++ cond added (y ∷ []) []) ≡ cond added (Some (length xs)) None
  position-with_yes none passes = by added
    where
      by : (b : Bool) → position p (xs ++ cond b (y ∷ []) []) ≡ cond b (Some (length xs)) None
      by true = position-push_yes p xs y none passes
      by false = ap (position p) (append-nil xs) ∙ none
