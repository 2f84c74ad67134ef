-- The first of a list that passes a test, and its index.
use Rattle.std.proofs.Common.{◌≡◌, ℕ, zero, suc, ◌≤◌, Bool, true, false, cond, leb, List, [], ◌∷◌, ◌++◌, ◌+◌, ◌<◌, length, get_or, take, drop, Option, Some, None, position, All, Contains, refl, sym, ap, subst, ◌∙◌, inl, inr, arith, map}
use Rattle.std.specs.Prelude.{find, option_map, option_and_then, is_none, is_some, slice_get}
use Rattle.std.proofs.lemmas.Bool.{false≢true, le-leb}
use Rattle.std.proofs.lemmas.Bool.Decides.{leb_tells}
use Rattle.std.proofs.lemmas.List.{at_drop_more}
use Rattle.std.proofs.lemmas.List.Elements.{All-contains}
use Rattle.std.proofs.lemmas.Option.{same_Some}
use Rattle.tfpg_base.proofs.lemmas.lists.Elements.{Contains-head, Contains-tail}
use Rattle.tfpg_base.proofs.lemmas.lists.Positions.{position-cons, All-none, position-All_fail}
use Rattle.tfpg_base.proofs.lemmas.lists.Sequences.{leb-suc}

-- no index before this one
abbrev pub is_from : ℕ → Option ℕ → Bool
is_from start None = true
is_from start (Some index) = leb start index

from_start : (index : Option ℕ) → true ≡ is_from 0 index
from_start None = refl
from_start (Some index) = sym (le-leb 0 index (omega arith))

zero_first : (start : ℕ) → false ≡ leb (suc start) 0
zero_first start = elim (leb_tells (suc start) 0) [
  | inl le ↦ absurd (omega (arith, le.1))
  | inr lt ↦ sym lt.0
]

module _ {X : Type 0} (p : X → Bool) where
  -- what is found is what stands at the index
  pub find-position : (xs : List X) → find p xs ≡ option_and_then (slice_get xs) (position p xs)
  find-position [] = refl
  find-position (x ∷ xs) = by (p x) (position p xs) (find-position xs) ∙ ap (option_and_then (slice_get (x ∷ xs))) (sym (position-cons p x xs))
    where
      by : (b : Bool) (index : Option ℕ) → find p xs ≡ option_and_then (slice_get xs) index
          → cond b (Some x) (find p xs) ≡ option_and_then (slice_get (x ∷ xs)) (cond b (Some 0) (option_map suc index))
      by true index rest = refl
      by false None rest = rest
      by false (Some n) rest = rest

  -- something that passes stands at an index
  abbrev PassesAt : List X → ℕ → Type 0
  PassesAt xs n = (x : X) × (slice_get xs n ≡ Some x) × (p x ≡ true)

  -- what stands at the index passes
  pub position-passes : (xs : List X) (n : ℕ) → position p xs ≡ Some n → PassesAt xs n
  position-passes [] n e = absurd cc
  position-passes (x ∷ xs) n e = by (p x) refl (position p xs) (position-passes xs) (sym (position-cons p x xs) ∙ e)
    where
      by : (b : Bool) → p x ≡ b → (index : Option ℕ) → ((m : ℕ) → index ≡ Some m → PassesAt xs m) → cond b (Some 0) (option_map suc index) ≡ Some n → PassesAt (x ∷ xs) n
      by true passes index later at = let is : 0 ≡ n = cc in subst (PassesAt (x ∷ xs)) is (x, refl, passes)
      by false fails None later at = absurd cc
      by false fails (Some m) later at = let is : suc m ≡ n = cc in subst (PassesAt (x ∷ xs)) is (later m refl)

  -- where nothing is found, there is no index
  pub position-find_none : (xs : List X) → find p xs ≡ None → position p xs ≡ None
  position-find_none xs none = by (position p xs) refl
    where
      by : (index : Option ℕ) → position p xs ≡ index → index ≡ None
      by None e = refl
      by (Some n) e =
          let there = position-passes xs n e in
          let found : find p xs ≡ Some there.0 = find-position xs ∙ ap (option_and_then (slice_get xs)) e ∙ there.1 in
          absurd cc

  -- where something passes, the index is there, and not after it
  pub position-upto : (xs : List X) (n : ℕ) (x : X) → slice_get xs n ≡ Some x → p x ≡ true → (index : ℕ) × (position p xs ≡ Some index) × (index ≤ n)
  position-upto [] n x there passes = absurd cc
  position-upto (y ∷ xs) zero x there passes =
      let same : y ≡ x = cc in
      (0, position-cons p y xs ∙ ap (λ b. cond b (Some 0) (option_map suc (position p xs))) (ap p same ∙ passes), omega arith)
  position-upto (y ∷ xs) (suc n) x there passes = by (p y) refl (position-upto xs n x there passes)
    where
      by : (b : Bool) → p y ≡ b → (index : ℕ) × (position p xs ≡ Some index) × (index ≤ n) → (index : ℕ) × (position p (y ∷ xs) ≡ Some index) × (index ≤ suc n)
      by true is later = (0, position-cons p y xs ∙ ap (λ b. cond b (Some 0) (option_map suc (position p xs))) is, omega arith)
      by false is later = (suc later.0, position-cons p y xs ∙ (λ i. cond (is i) (Some 0) (option_map suc (later.1 i))), omega (arith, later.2))

  -- what comes after leaves the index
  pub position-append : (xs ys : List X) (n : ℕ) → position p xs ≡ Some n → position p (xs ++ ys) ≡ Some n
  position-append [] ys n e = absurd cc
  position-append (x ∷ xs) ys n e =
      position-cons p x (xs ++ ys) ∙ by (p x) (position p xs) (position p (xs ++ ys)) (position-append xs ys) (sym (position-cons p x xs) ∙ e)
    where
      by : (b : Bool) (index longer : Option ℕ) → ((m : ℕ) → index ≡ Some m → longer ≡ Some m) → cond b (Some 0) (option_map suc index) ≡ Some n
          → cond b (Some 0) (option_map suc longer) ≡ Some n
      by true index longer kept at = at
      by false None longer kept at = absurd cc
      by false (Some m) longer kept at = ap (option_map suc) (kept m refl) ∙ at

  -- Nothing is found among so many first ones exactly where the index is not among theirs.
  pub find-take_none : (xs : List X) (count : ℕ) → is_none (find p (take count xs)) ≡ is_from count (position p xs)
  find-take_none xs zero = from_start (position p xs)
  find-take_none [] (suc count) = refl
  find-take_none (x ∷ xs) (suc count) =
      by (p x) (position p xs) (find p (take count xs)) (find-take_none xs count) ∙ ap (is_from (suc count)) (sym (position-cons p x xs))
    where
      by : (b : Bool) (index : Option ℕ) (found : Option X) → is_none found ≡ is_from count index
          → is_none (cond b (Some x) found) ≡ is_from (suc count) (cond b (Some 0) (option_map suc index))
      by true index found rest = zero_first count
      by false None found rest = rest
      by false (Some n) found rest = rest ∙ leb-suc count n

  -- where each fails, nothing is found
  pub find-All_fail : (xs : List X) → All (λ x. p x ≡ false) xs → find p xs ≡ None
  find-All_fail xs fail = find-position xs ∙ ap (option_and_then (slice_get xs)) (position-All_fail p xs fail)

  -- where an element passes, something is found
  pub find-Contains : (xs : List X) (x : X) → Contains xs x → p x ≡ true → is_some (find p xs) ≡ true
  find-Contains xs x member passes = by (find p xs) refl
    where
      by : (found : Option X) → find p xs ≡ found → is_some found ≡ true
      by None none =
          let fails = All-contains (λ y. p y ≡ false) xs x (All-none p xs (position-find_none xs none)) member in
          absurd (false≢true (sym fails ∙ passes))
      by (Some y) there = refl

module _ {X : Type 0} (p : X → Bool) where
  -- what is found stands in the list and passes
  pub find-passes : (xs : List X) (x : X) → find p xs ≡ Some x → Contains xs x × (p x ≡ true)
  find-passes [] x at = absurd cc
  find-passes (y ∷ ys) x at = by (p y) refl at (find-passes ys x)
    where
      by : (b : Bool) → p y ≡ b → cond b (Some y) (find p ys) ≡ Some x → (find p ys ≡ Some x → Contains ys x × (p x ≡ true)) → Contains (y ∷ ys) x × (p x ≡ true)
      by true passes is rest =
          let same : y ≡ x = same_Some y x is in
          (subst (Contains (y ∷ ys)) same (Contains-head y ys), ap p (sym same) ∙ passes)
      by false fails is rest = let found = rest is in (Contains-tail y ys x found.0, found.1)

module _ {X : Type 0} (test : X → Bool) (xs : List X) (i : ℕ) (d : X) (within : i < length xs) where
  -- from an index on, what fails there is skipped
  pub find-past : test (get_or xs i d) ≡ false → find test (drop i xs) ≡ find test (drop (i + 1) xs)
  find-past fails = at_drop_more (find test) xs i d within ∙ ap (λ b. cond b (Some (get_or xs i d)) (find test (drop (i + 1) xs))) fails

  -- and what passes there is found
  pub find-here : test (get_or xs i d) ≡ true → find test (drop i xs) ≡ Some (get_or xs i d)
  find-here passes = at_drop_more (find test) xs i d within ∙ ap (λ b. cond b (Some (get_or xs i d)) (find test (drop (i + 1) xs))) passes

-- an item that passes, and before which none does, is the one found
pub find_first : {X : Type 0} (test : X → Bool) (xs : List X) (k : ℕ) (x : X) → slice_get xs k ≡ Some x → test x ≡ true
    → ((j : ℕ) (y : X) → j < k → slice_get xs j ≡ Some y → test y ≡ false) → find test xs ≡ Some x
find_first test [] k x at passes before = absurd cc
find_first test (y ∷ ys) zero x at passes before =
    let same : y ≡ x = cc in
    ap (λ (b : Bool). cond b (Some y) (find test ys)) (ap test same ∙ passes) ∙ ap Some same
find_first test (y ∷ ys) (suc k) x at passes before =
    ap (λ (b : Bool). cond b (Some y) (find test ys)) (before 0 y (omega arith) refl)
    ∙ find_first test ys k x at passes (λ j z lt there. before (suc j) z (omega (arith, lt)) there)

module _ {X Y : Type 0} (f : X → Y) (test : Y → Bool) (rest : List Y) (fail : (x : X) → test (f x) ≡ false) where
  -- images that all fail are passed over
  pub find-map_fail : (xs : List X) → find test (map f xs ++ rest) ≡ find test rest
  find-map_fail [] = refl
  find-map_fail (x ∷ xs) = (λ i. cond (fail x i) (Some (f x)) (find test (map f xs ++ rest))) ∙ find-map_fail xs
