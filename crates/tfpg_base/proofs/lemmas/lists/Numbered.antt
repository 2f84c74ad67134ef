-- The numbers of the items that pass a test.
use Rattle.std.proofs.Common.{◌≡◌, ℕ, zero, suc, ◌+◌, ◌<◌, ◌≤◌, Bool, true, false, cond, List, [], ◌∷◌, ◌++◌, length, filter, get_or, take, count_by, All, Contains, IsSomeAnd, Option, Some, None, position, slice_get, refl, ap, sym, subst, ◌∙◌, arith, ◌&&◌}
use Rattle.std.specs.Prelude.{map, filter_map, option_and_then, option_map}
use Rattle.std.specs.List.{find, list_all, cons_option, AllByRecursion}
use Rattle.std.proofs.lemmas.List.{take_all}
use Rattle.std.proofs.lemmas.List.Sums.{sum_by-cons}
use Rattle.std.proofs.lemmas.List.Elements.{All-from_recursion, All-contains, All-get_or, All-same, Contains-get_or}
use Rattle.std.proofs.lemmas.Option.{slice_get_within, slice_get-get_or, get_or_from_slice_get}
use Rattle.tfpg_base.specs.Choice.{numbers_from}
use Rattle.tfpg_base.proofs.lemmas.lists.Elements.{All-from_members}
use Rattle.tfpg_base.proofs.lemmas.lists.Passing.{Contains-filter, Contains-filter_only}
use Rattle.tfpg_base.proofs.lemmas.lists.Positions.{position-cons}

module _ {X : Type 0} (p : X → Bool) where
  -- one more item that passes has the next number
  pub numbers_from-push : (n : ℕ) (xs : List X) (y : X) → numbers_from n p (xs ++ y ∷ []) ≡ numbers_from n p xs ++ cond (p y) ((n + length xs) ∷ []) []
  numbers_from-push n [] y = by (p y)
    where
      by : (b : Bool) → cond b (n ∷ []) [] ≡ cond b ((n + 0) ∷ []) []
      by true = ap (λ m. m ∷ []) (omega arith)
      by false = refl
  numbers_from-push n (x ∷ xs) y = by (p x) (numbers_from-push (n + 1) xs y ∙ ap (λ m. numbers_from (n + 1) p xs ++ cond (p y) (m ∷ []) []) (omega arith))
    where
      by : (b : Bool) → numbers_from (n + 1) p (xs ++ y ∷ []) ≡ numbers_from (n + 1) p xs ++ cond (p y) ((n + suc (length xs)) ∷ []) []
          → cond b (n ∷ numbers_from (n + 1) p (xs ++ y ∷ [])) (numbers_from (n + 1) p (xs ++ y ∷ [])) ≡ cond b (n ∷ numbers_from (n + 1) p xs) (numbers_from (n + 1) p xs) ++ cond (p y) ((n + suc (length xs)) ∷ []) []
      by true e = ap (λ ms. n ∷ ms) e
      by false e = e

  below_by_recursion : (n m : ℕ) (xs : List X) → n + length xs ≤ m → AllByRecursion (λ number. number < m) (numbers_from n p xs)
  below_by_recursion n m [] fits = tt
  below_by_recursion n m (x ∷ xs) fits = by (p x) (omega arith) (below_by_recursion (n + 1) m xs (omega arith))
    where
      by : (b : Bool) → n < m → AllByRecursion (λ number. number < m) (numbers_from (n + 1) p xs)
          → AllByRecursion (λ number. number < m) (cond b (n ∷ numbers_from (n + 1) p xs) (numbers_from (n + 1) p xs))
      by true here rest = (here, rest)
      by false here rest = rest

  -- each number is that of an item
  pub All-below-numbers_from : (xs : List X) → All (λ number. number < length xs) (numbers_from 0 p xs)
  All-below-numbers_from xs = All-from_recursion _ (numbers_from 0 p xs) (below_by_recursion 0 (length xs) xs (omega arith))

  -- the first of these numbers to pass a test of the items is that of the first item to pass both
  pub find-numbers_from : (t : X → Bool) (q : ℕ → Bool) (n : ℕ) (xs : List X) → ((i : ℕ) (x : X) → slice_get xs i ≡ Some x → q (n + i) ≡ t x)
      → find q (numbers_from n p xs) ≡ option_map (λ i. n + i) (position (λ x. t x && p x) xs)
  find-numbers_from t q n [] same = refl
  find-numbers_from t q n (x ∷ xs) same =
      by (p x) (t x) (ap q (omega arith) ∙ same 0 x refl)
      (find-numbers_from t q (n + 1) xs (λ i y at. ap q (omega arith) ∙ same (suc i) y at) ∙ shifted (position (λ y. t y && p y) xs))
      ∙ ap (option_map (λ i. n + i)) (sym (position-cons (λ y. t y && p y) x xs))
    where
      shifted : (o : Option ℕ) → option_map (λ i. n + 1 + i) o ≡ option_map (λ i. n + i) (option_map suc o)
      shifted None = refl
      shifted (Some i) = ap Some (omega arith)

      by : (b c : Bool) → q n ≡ c → find q (numbers_from (n + 1) p xs) ≡ option_map (λ i. n + i) (option_map suc (position (λ y. t y && p y) xs))
          → find q (cond b (n ∷ numbers_from (n + 1) p xs) (numbers_from (n + 1) p xs)) ≡ option_map (λ i. n + i) (cond (c && b) (Some 0) (option_map suc (position (λ y. t y && p y) xs)))
      by true true e rest = ap (λ d. cond d (Some n) (find q (numbers_from (n + 1) p xs))) e ∙ ap Some (omega arith)
      by true false e rest = ap (λ d. cond d (Some n) (find q (numbers_from (n + 1) p xs))) e ∙ rest
      by false true e rest = rest
      by false false e rest = rest

-- The item of a number that is counted from another one, and passes.
pub record IsItemOf {X : Type 0} (p : X → Bool) (first : ℕ) (xs : List X) (number : ℕ) : Type 0 where
  pub item : X
  pub index : ℕ
  pub counted : number ≡ first + index
  pub at : slice_get xs index ≡ Some item
  pub passes : p item ≡ true

module _ {X : Type 0} (p : X → Bool) where
  -- an item of the rest is an item of the whole
  later : (first : ℕ) (x : X) (xs : List X) (number : ℕ) → IsItemOf p (first + 1) xs number → IsItemOf p first (x ∷ xs) number
  later first x xs number of = record { item = of.item; index = suc of.index; counted = omega (arith, of.counted); at = of.at; passes = of.passes }

  -- each of the numbers is that of an item that passes
  pub item_of : (first : ℕ) (xs : List X) (k number : ℕ) → slice_get (numbers_from first p xs) k ≡ Some number → IsItemOf p first xs number
  item_of first [] k number at = absurd (omega (arith, slice_get_within {A = ℕ} [] k number at))
  item_of first (x ∷ xs) k number at = by (p x) refl k at (λ index there. later first x xs number (item_of (first + 1) xs index number there))
    where
      by : (b : Bool) → p x ≡ b → (index : ℕ) → slice_get (cond b (first ∷ numbers_from (first + 1) p xs) (numbers_from (first + 1) p xs)) index ≡ Some number
          → ((index : ℕ) → slice_get (numbers_from (first + 1) p xs) index ≡ Some number → IsItemOf p first (x ∷ xs) number)
          → IsItemOf p first (x ∷ xs) number
      by true passes zero there rest =
          let same : first ≡ number = cc in
          record { item = x; index = 0; counted = omega arith; at = refl; passes = passes }
      by true passes (suc index) there rest = rest index there
      by false fails index there rest = rest index there

  -- no number stands twice
  pub one_index : (first : ℕ) (xs : List X) (one other number : ℕ) → slice_get (numbers_from first p xs) one ≡ Some number
      → slice_get (numbers_from first p xs) other ≡ Some number → one ≡ other
  one_index first [] one other number at there = absurd (omega (arith, slice_get_within {A = ℕ} [] one number at))
  one_index first (x ∷ xs) one other number at there = by (p x) one other at there (one_index (first + 1) xs)
    where
      above : (index : ℕ) → slice_get (numbers_from (first + 1) p xs) index ≡ Some number → Some first ≡ Some number → ⊥
      above index more is =
          let same : first ≡ number = cc in
          let of = item_of (first + 1) xs index number more in
          omega (arith, of.counted, same)

      by : (b : Bool) (one other : ℕ) → slice_get (cond b (first ∷ numbers_from (first + 1) p xs) (numbers_from (first + 1) p xs)) one ≡ Some number
          → slice_get (cond b (first ∷ numbers_from (first + 1) p xs) (numbers_from (first + 1) p xs)) other ≡ Some number
          → ((one other number : ℕ) → slice_get (numbers_from (first + 1) p xs) one ≡ Some number → slice_get (numbers_from (first + 1) p xs) other ≡ Some number → one ≡ other)
          → one ≡ other
      by true zero zero here there rest = refl
      by true zero (suc other) here there rest = absurd (above other there here)
      by true (suc one) zero here there rest = absurd (above one here there)
      by true (suc one) (suc other) here there rest = ap suc (rest one other number here there)
      by false one other here there rest = rest one other number here there

  -- the number of each item that passes is among them
  pub number_of : (first : ℕ) (xs : List X) (index : ℕ) (x : X) → slice_get xs index ≡ Some x → p x ≡ true
      → (k : ℕ) × (slice_get (numbers_from first p xs) k ≡ Some (first + index))
  number_of first [] index x at passes = absurd (omega (arith, slice_get_within {A = X} [] index x at))
  number_of first (y ∷ ys) zero x at passes = by (p y) (ap p same ∙ passes)
    where
      same : y ≡ x
      same = cc

      by : (b : Bool) → b ≡ true → (k : ℕ) × (slice_get (cond b (first ∷ numbers_from (first + 1) p ys) (numbers_from (first + 1) p ys)) k ≡ Some (first + 0))
      by true is = (0, ap Some (omega arith))
      by false is = cc
  number_of first (y ∷ ys) (suc index) x at passes = by (p y) (number_of (first + 1) ys index x at passes)
    where
      by : (b : Bool) → (k : ℕ) × (slice_get (numbers_from (first + 1) p ys) k ≡ Some (first + 1 + index))
          → (k : ℕ) × (slice_get (cond b (first ∷ numbers_from (first + 1) p ys) (numbers_from (first + 1) p ys)) k ≡ Some (first + suc index))
      by true more = (suc more.0, more.1 ∙ ap Some (omega arith))
      by false more = (more.0, more.1 ∙ ap Some (omega arith))

-- values that there are are those of the optional values
filter_map-of_map : {X Y : Type 0} (f : X → Option Y) (xs : List X) → filter_map f xs ≡ filter_map (λ (o : Option Y). o) (map f xs)
filter_map-of_map f [] = refl
filter_map-of_map f (x ∷ xs) = λ i. cons_option (f x) (filter_map-of_map f xs i)

module _ {X Y : Type 0} (p : X → Bool) (f : X → Option Y) where
  mapped_from : (n : ℕ) (xs : List X) (h : ℕ → Option X) → ((i : ℕ) → h (n + i) ≡ slice_get xs i)
      → map f (filter p xs) ≡ map (λ number. option_and_then f (h number)) (numbers_from n p xs)
  mapped_from n [] h same = refl
  mapped_from n (x ∷ xs) h same =
      by (p x) (let start : n ≡ n + 0 = omega arith in ap (option_and_then f) (sym (ap h start ∙ same 0)))
      (mapped_from (n + 1) xs h (λ i. let next : n + 1 + i ≡ n + suc i = omega arith in ap h next ∙ same (suc i)))
    where
      by : (b : Bool) → f x ≡ option_and_then f (h n) → map f (filter p xs) ≡ map (λ number. option_and_then f (h number)) (numbers_from (n + 1) p xs)
          → map f (cond b (x ∷ filter p xs) (filter p xs)) ≡ map (λ number. option_and_then f (h number)) (cond b (n ∷ numbers_from (n + 1) p xs) (numbers_from (n + 1) p xs))
      by true here rest = λ i. here i ∷ rest i
      by false here rest = rest

  by_zero : (xs : List X) (i : ℕ) → slice_get xs (0 + i) ≡ slice_get xs i
  by_zero xs i = let same : 0 + i ≡ i = omega arith in ap (slice_get xs) same

  -- what is had of each, and where it is not
  pub mapped_by_number : (xs : List X) → map f (filter p xs) ≡ map (λ number. option_and_then f (slice_get xs number)) (numbers_from 0 p xs)
  mapped_by_number xs = mapped_from 0 xs (slice_get xs) (by_zero xs)

  -- what is had of each, where it is
  pub filtered_by_number : (xs : List X) → filter_map f (filter p xs) ≡ filter_map (λ number. option_and_then f (slice_get xs number)) (numbers_from 0 p xs)
  filtered_by_number xs =
      filter_map-of_map f (filter p xs) ∙ ap (filter_map (λ (o : Option Y). o)) (mapped_by_number xs)
      ∙ sym (filter_map-of_map (λ number. option_and_then f (slice_get xs number)) (numbers_from 0 p xs))

-- there are as many numbers as items that pass
pub length-numbers_from : {X : Type 0} (p : X → Bool) (n : ℕ) (xs : List X) → length (numbers_from n p xs) ≡ count_by p xs
length-numbers_from p n [] = refl
length-numbers_from p n (x ∷ xs) = by (p x) (length-numbers_from p (n + 1) xs) ∙ sym (sum_by-cons (λ y. cond (p y) 1 0) x xs)
  where
    by : (b : Bool) → length (numbers_from (n + 1) p xs) ≡ count_by p xs
        → length (cond b (n ∷ numbers_from (n + 1) p xs) (numbers_from (n + 1) p xs)) ≡ cond b 1 0 + count_by p xs
    by true same = omega (arith, same)
    by false same = omega (arith, same)

module _ {X : Type 0} (p : X → Bool) (xs : List X) where
  -- the number of an item that passes stands among the numbers of those
  pub number_among : (x : X) → Contains (filter p xs) x → (number : ℕ) × Contains (numbers_from 0 p xs) number × (slice_get xs number ≡ Some x)
  number_among x member =
      let found = Contains-filter_only p xs x member in
      let at = number_of p 0 xs found.0 x found.1 found.2 in
      let there : slice_get (numbers_from 0 p xs) at.0 ≡ Some found.0 = at.1 ∙ ap Some (omega arith) in (
        found.0,
        (at.0, slice_get_within (numbers_from 0 p xs) at.0 found.0 there, get_or_from_slice_get (numbers_from 0 p xs) at.0 found.0 found.0 there),
        found.1,
      )

  -- the number among them is that of an item that passes
  pub item_among : (number : ℕ) → Contains (numbers_from 0 p xs) number → (x : X) × Contains (filter p xs) x × (slice_get xs number ≡ Some x)
  item_among number member =
      let of = item_of p 0 xs member.0 number (slice_get-get_or (numbers_from 0 p xs) member.0 number member.1 ∙ ap Some member.2) in
      let same : of.index ≡ number = omega (arith, of.counted) in
      let at : slice_get xs number ≡ Some of.item = ap (slice_get xs) (sym same) ∙ of.at in
      (of.item, Contains-filter p xs number of.item at of.passes, at)

  module _ (P : X → Type 0) where
    -- what holds at one of the numbers holds of an item that passes
    pub some_by_number : (number : ℕ) → Contains (numbers_from 0 p xs) number → IsSomeAnd (slice_get xs number) P → (x : X) × Contains (filter p xs) x × P x
    some_by_number number member holds =
        let found = item_among number member in
        (found.0, found.1, subst (λ there. IsSomeAnd there P) found.2 holds)

    -- what holds at none of the numbers holds of no item that passes
    none_by_numbers : All (λ number. IsSomeAnd (slice_get xs number) P → ⊥) (numbers_from 0 p xs) → (x : X) → Contains (filter p xs) x → P x → ⊥
    none_by_numbers none x member holds =
        let at = number_among x member in
        All-contains (λ number. IsSomeAnd (slice_get xs number) P → ⊥) (numbers_from 0 p xs) at.0 none at.1 (subst (λ there. IsSomeAnd there P) (sym at.2) holds)

    -- what holds at all of the numbers holds of all items that pass
    all_by_numbers : All (λ number. IsSomeAnd (slice_get xs number) P) (numbers_from 0 p xs) → All P (filter p xs)
    all_by_numbers all =
        All-from_members P (filter p xs)
        (λ x member.
        let at = number_among x member in
        subst (λ there. IsSomeAnd there P) at.2 (All-contains (λ number. IsSomeAnd (slice_get xs number) P) (numbers_from 0 p xs) at.0 all at.1))

    -- and what holds of all items that pass holds at each of the numbers
    each_by_number : All P (filter p xs) → (number : ℕ) → Contains (numbers_from 0 p xs) number → IsSomeAnd (slice_get xs number) P
    each_by_number all number member =
        let found = item_among number member in
        subst (λ there. IsSomeAnd there P) (sym found.2) (All-contains P (filter p xs) found.0 all found.1)

    -- A loop over the numbers, which goes by their indexes.
    module _ (numbers : List ℕ) (own : numbers ≡ numbers_from 0 p xs) where
      -- the number at an index is that of an item
      pub number_within : (index : ℕ) → index < length numbers → get_or numbers index 0 < length xs
      number_within index within =
          All-get_or (λ number. number < length xs) numbers index 0 within (All-same (λ number. number < length xs) numbers (numbers_from 0 p xs) own (All-below-numbers_from p xs))

      -- what holds at an index holds of some item
      pub some_at_index : (index : ℕ) → index < length numbers → IsSomeAnd (slice_get xs (get_or numbers index 0)) P → (x : X) × Contains (filter p xs) x × P x
      some_at_index index within holds =
          some_by_number (get_or numbers index 0) (subst (λ ns. Contains ns (get_or numbers index 0)) own (Contains-get_or numbers index 0 within)) holds

      -- what holds at no index holds of no item
      pub none_at_indexes : (index : ℕ) → length numbers ≤ index → All (λ number. IsSomeAnd (slice_get xs number) P → ⊥) (take index numbers)
          → (x : X) × Contains (filter p xs) x × P x → ⊥
      none_at_indexes index past none some =
          none_by_numbers (subst (All (λ number. IsSomeAnd (slice_get xs number) P → ⊥)) (take_all index numbers past ∙ own) none) some.0 some.1 some.2

      -- what fails at an index does not hold of all items
      pub not_all_at_index : (index : ℕ) → index < length numbers → (IsSomeAnd (slice_get xs (get_or numbers index 0)) P → ⊥) → All P (filter p xs) → ⊥
      not_all_at_index index within fails all =
          fails (each_by_number all (get_or numbers index 0) (subst (λ ns. Contains ns (get_or numbers index 0)) own (Contains-get_or numbers index 0 within)))

      -- what holds at all indexes holds of all items
      pub all_at_indexes : (index : ℕ) → length numbers ≤ index → All (λ number. IsSomeAnd (slice_get xs number) P) (take index numbers) → All P (filter p xs)
      all_at_indexes index past all = all_by_numbers (subst (All (λ number. IsSomeAnd (slice_get xs number) P)) (take_all index numbers past ∙ own) all)

-- where an item in the middle passes, fewer before it pass than do
pub numbers_from-middle : {X : Type 0} (p : X → Bool) (n : ℕ) (xs : List X) (y : X) (ys : List X) → p y ≡ true
    → length (numbers_from n p xs) < length (numbers_from n p (xs ++ y ∷ ys))
numbers_from-middle p n [] y ys passes =
    subst (λ b. 0 < length (cond b (n ∷ numbers_from (n + 1) p ys) (numbers_from (n + 1) p ys))) (sym passes)
    (omega arith)
numbers_from-middle p n (x ∷ xs) y ys passes = by (p x) (numbers_from-middle p (n + 1) xs y ys passes)
  where
    by : (b : Bool) → length (numbers_from (n + 1) p xs) < length (numbers_from (n + 1) p (xs ++ y ∷ ys))
        → length (cond b (n ∷ numbers_from (n + 1) p xs) (numbers_from (n + 1) p xs))
        < length (cond b (n ∷ numbers_from (n + 1) p (xs ++ y ∷ ys)) (numbers_from (n + 1) p (xs ++ y ∷ ys)))
    by true fewer = omega arith
    by false fewer = fewer

-- what a test says of all items that pass another, by their numbers
pub list_all-numbers_from : {X : Type 0} (p test : X → Bool) (q : ℕ → Bool) (n : ℕ) (xs : List X) → ((i : ℕ) (x : X) → slice_get xs i ≡ Some x → q (n + i) ≡ test x)
    → list_all q (numbers_from n p xs) ≡ list_all test (filter p xs)
list_all-numbers_from p test q n [] same = refl
list_all-numbers_from p test q n (x ∷ xs) same =
    by (p x) (ap q (omega arith) ∙ same 0 x refl) (list_all-numbers_from p test q (n + 1) xs (λ i y at. ap q (omega arith) ∙ same (suc i) y at))
  where
    by : (b : Bool) → q n ≡ test x → list_all q (numbers_from (n + 1) p xs) ≡ list_all test (filter p xs)
        → list_all q (cond b (n ∷ numbers_from (n + 1) p xs) (numbers_from (n + 1) p xs)) ≡ list_all test (cond b (x ∷ filter p xs) (filter p xs))
    by true here rest = λ i. here i && rest i
    by false here rest = rest
