-- Laws of the elements of a list: which stand in it, and what holds of each two.
use Rattle.std.proofs.Common.{◌≡◌, ℕ, suc, zero, List, [], ◌∷◌, ◌++◌, ◌<◌, ◌≤◌, length, ◌∙◌, ◌||◌, ◌&&◌, Bool, true, false, ap, get_or, take, drop, Some, None, slice_get, ◌⊎◌, inl, inr, refl, subst, length-append, arith, ◌+◌, cond, eqb, fold, sym, count_by, nat_lt}
use Rattle.std.specs.List.{All, AllPairs, Contains, list_any, list_all, AllByRecursion}
use Rattle.std.proofs.lemmas.List.{get_or_append_left, take-append-drop, get_or-take, get_or_default, length-take}
use Rattle.std.proofs.lemmas.List.Elements.{All-tail, All-contains, Contains-get_or, Contains-append_left, Contains-append_right, Contains-append_cases, All-nil, All-cons}
use Rattle.std.proofs.lemmas.Option.{get_or_from_slice_get, slice_get_within, slice_get-get_or}
use Rattle.std.proofs.lemmas.List.Folds.{list_any_at}
use Rattle.std.proofs.lemmas.List.Sums.{AllPass-from_list_all, sum_by-cons}
pub use Rattle.std.proofs.lemmas.List.Kept.{AllPairs-cons}
use Rattle.std.proofs.lemmas.Bool.{or_parts, lt-ltb}

module _ {X : Type 0} where
  -- what heads a list stands in it
  pub Contains-head : (first : X) (others : List X) → Contains (first ∷ others) first
  Contains-head first others = (0, omega arith, refl)

  -- what stands in the rest of a list stands in it
  pub Contains-tail : (first : X) (others : List X) (x : X) → Contains others x → Contains (first ∷ others) x
  Contains-tail first others x member = Contains-append_right (first ∷ []) others x member

  -- what stands in a list heads it or stands in its rest
  pub Contains-cons_cases : (first : X) (others : List X) (x : X) → Contains (first ∷ others) x → (first ≡ x) ⊎ Contains others x
  Contains-cons_cases first others x (zero, within, is) = inl is
  Contains-cons_cases first others x (suc index, within, is) = inr (index, omega arith, is)

  -- nothing stands in an empty list
  pub Contains-nil : (x : X) → Contains [] x → ⊥
  Contains-nil x member = omega (arith, member.1)

  -- what stands in a list of one is that one
  pub Contains-one : (x y : X) → Contains (x ∷ []) y → x ≡ y
  Contains-one x y member = elim (Contains-cons_cases x [] y member) [ inl same ↦ same | inr none ↦ absurd (Contains-nil y none) ]

  -- what stands in a front of a list stands in it
  pub Contains-take : (xs : List X) (n : ℕ) (x : X) → Contains (take n xs) x → Contains xs x
  Contains-take xs n x found = subst (λ ys. Contains ys x) (take-append-drop n xs) (Contains-append_left (take n xs) (drop n xs) x found)

  -- what holds of each element holds of the one at a number
  pub All-at : (P : X → Type 0) (xs : List X) (number : ℕ) (x : X) → All P xs → slice_get xs number ≡ Some x → P x
  All-at P xs number x all at = subst P (get_or_from_slice_get xs number x x at) (all number x (slice_get_within xs number x at))

  -- what holds of each element holds of each of a front
  pub All-front : (P : X → Type 0) (front rest : List X) → All P (front ++ rest) → All P front
  All-front P front rest all index d within =
      subst P (get_or_append_left front rest d index within) (all index d (omega (arith, length-append front rest)))

  -- and of each of the rest
  pub All-back : (P : X → Type 0) (front rest : List X) → All P (front ++ rest) → All P rest
  All-back P [] rest all = all
  All-back P (first ∷ front) rest all = All-back P front rest (All-tail P first (front ++ rest) all)

  -- what holds of each member holds of each element
  pub All-from_members : (P : X → Type 0) (xs : List X) → ((x : X) → Contains xs x → P x) → All P xs
  All-from_members P xs each index d within = each (get_or xs index d) (Contains-get_or xs index d within)

  -- what relates each two relates the head to each of the rest
  pub AllPairs-head : (R : X → X → Type 0) (first : X) (others : List X) → AllPairs R (first ∷ others) → All (R first) others
  AllPairs-head R first others pairs index d within = pairs 0 (suc index) d (omega arith) (omega arith)

  -- what relates each two relates each two of the rest
  pub AllPairs-tail : (R : X → X → Type 0) (first : X) (others : List X) → AllPairs R (first ∷ others) → AllPairs R others
  AllPairs-tail R first others pairs i j d before within = pairs (suc i) (suc j) d (omega arith) (omega arith)

  -- what relates each two relates each two of a front
  pub AllPairs-front : (R : X → X → Type 0) (front rest : List X) → AllPairs R (front ++ rest) → AllPairs R front
  AllPairs-front R front rest pairs i j d before within =
      let at_i : get_or (front ++ rest) i d ≡ get_or front i d = get_or_append_left front rest d i (omega arith) in
      let at_j : get_or (front ++ rest) j d ≡ get_or front j d = get_or_append_left front rest d j within in
      subst (λ (a : X). R a (get_or front j d)) at_i
      (subst (λ (b : X). R (get_or (front ++ rest) i d) b) at_j (pairs i j d before (omega (arith, within, length-append front rest))))

module _ {X : Type 0} where
  -- what is at an index of a list stands in it
  pub Contains-at : (xs : List X) (index : ℕ) (x : X) → slice_get xs index ≡ Some x → Contains xs x
  Contains-at xs index x at = (index, slice_get_within xs index x at, get_or_from_slice_get xs index x x at)

  -- what a list contains is at its index
  pub slice_get-contains : (xs : List X) (x : X) (found : Contains xs x) → slice_get xs found.0 ≡ Some x
  slice_get-contains xs x found = slice_get-get_or xs found.0 x found.1 ∙ ap Some found.2

  -- what relates each two relates those at two indexes
  pub AllPairs-at : (R : X → X → Type 0) (xs : List X) (i j : ℕ) (x y : X) → AllPairs R xs → slice_get xs i ≡ Some x → slice_get xs j ≡ Some y → i < j → R x y
  AllPairs-at R xs i j x y pairs at_i at_j before =
      let related = pairs i j x before (slice_get_within xs j y at_j) in
      subst (λ z. R z y) (get_or_from_slice_get xs i x x at_i) (subst (λ z. R (get_or xs i x) z) (get_or_from_slice_get xs j y x at_j) related)

  -- what holds of the item of each index holds of all
  pub All-from_indexes : (P : X → Type 0) (xs : List X) → ((index : ℕ) (x : X) → slice_get xs index ≡ Some x → P x) → All P xs
  All-from_indexes P xs each = λ index d within. each index (get_or xs index d) (slice_get-get_or xs index d within)

  -- some item passes where the test passes some
  pub list_any-found : (p : X → Bool) (xs : List X) → list_any p xs ≡ true → (x : X) × Contains xs x × (p x ≡ true)
  list_any-found p [] is = absurd cc
  list_any-found p (x ∷ xs) is = by (p x) refl is (λ any. list_any-found p xs any)
    where
      by : (passes : Bool) → p x ≡ passes → (passes || list_any p xs) ≡ true
          → (list_any p xs ≡ true → (y : X) × Contains xs y × (p y ≡ true)) → (y : X) × Contains (x ∷ xs) y × (p y ≡ true)
      by true here any rest = (x, Contains-head x xs, here)
      by false here any rest = let found = rest any in (found.0, Contains-tail x xs found.0 found.1, found.2)

  -- where an item passes, the test passes some
  pub list_any-passes : (p : X → Bool) (xs : List X) (x : X) → Contains xs x → p x ≡ true → list_any p xs ≡ true
  list_any-passes p xs x member passes = list_any_at p xs member.0 x member.1 (ap p member.2 ∙ passes)

  -- where not all pass, some item fails
  pub list_all-fails : (p : X → Bool) (xs : List X) → list_all p xs ≡ false → (x : X) × Contains xs x × (p x ≡ false)
  list_all-fails p [] fails = absurd cc
  list_all-fails p (x ∷ xs) fails = by (p x) refl fails (list_all-fails p xs)
    where
      by : (passes : Bool) → p x ≡ passes → (passes && list_all p xs) ≡ false
          → (list_all p xs ≡ false → (y : X) × Contains xs y × (p y ≡ false)) → (y : X) × Contains (x ∷ xs) y × (p y ≡ false)
      by true here some rest = let found = rest some in (found.0, Contains-tail x xs found.0 found.1, found.2)
      by false here some rest = (x, Contains-head x xs, here)

  -- where all pass, each item does
  pub list_all-each : (p : X → Bool) (xs : List X) (x : X) → list_all p xs ≡ true → Contains xs x → p x ≡ true
  list_all-each p xs x all member = All-contains (λ y. p y ≡ true) xs x (AllPass-from_list_all p xs all) member

module _ {X : Type 0} where
  -- an item in the middle of a list stands in it
  pub Contains-middle : (xs : List X) (x : X) (ys : List X) → Contains (xs ++ x ∷ ys) x
  Contains-middle xs x ys = Contains-append_right xs (x ∷ ys) x (Contains-head x ys)

  -- what holds of each element holds of the one in the middle
  pub All-middle : (P : X → Type 0) (xs : List X) (y : X) (ys : List X) → All P (xs ++ y ∷ ys) → P y
  All-middle P xs y ys all = All-contains P (xs ++ y ∷ ys) y all (Contains-middle xs y ys)

  -- what relates each two relates each two of the rest after a front
  pub AllPairs-back : (R : X → X → Type 0) (xs ys : List X) → AllPairs R (xs ++ ys) → AllPairs R ys
  AllPairs-back R [] ys pairs = pairs
  AllPairs-back R (z ∷ zs) ys pairs = AllPairs-back R zs ys (AllPairs-tail R z (zs ++ ys) pairs)

  -- what relates each two relates each of a front to each of the rest
  pub AllPairs-across : (R : X → X → Type 0) (xs ys : List X) (x y : X) → AllPairs R (xs ++ ys) → Contains xs x → Contains ys y → R x y
  AllPairs-across R [] ys x y pairs in_xs in_ys = absurd (Contains-nil x in_xs)
  AllPairs-across R (z ∷ zs) ys x y pairs in_xs in_ys = elim (Contains-cons_cases z zs x in_xs) [
    | inl is ↦ subst (λ w. R w y) is (All-contains (R z) (zs ++ ys) y (AllPairs-head R z (zs ++ ys) pairs) (Contains-append_right zs ys y in_ys))
    | inr rest ↦ AllPairs-across R zs ys x y (AllPairs-tail R z (zs ++ ys) pairs) rest in_ys
  ]

  -- where there is no item at an index, the list ends before it
  pub slice_get-none : (xs : List X) (i : ℕ) → slice_get xs i ≡ None → length xs ≤ i
  slice_get-none [] i none = omega arith
  slice_get-none (x ∷ xs) zero none = absurd cc
  slice_get-none (x ∷ xs) (suc i) none = omega (arith, slice_get-none xs i none)

  -- within a list there is an item at each index
  pub slice_get-there : (xs : List X) (n : ℕ) → n < length xs → (x : X) × (slice_get xs n ≡ Some x)
  slice_get-there [] n within = absurd (omega arith)
  slice_get-there (x ∷ xs) zero within = (x, refl)
  slice_get-there (x ∷ xs) (suc n) within = slice_get-there xs n (omega arith)

module _ {X : Type 0} (xs : List X) (y : X) (ys : List X) where
  -- there are fewer items before one in the middle than there are
  pub length-middle : length xs < length (xs ++ y ∷ ys)
  length-middle = omega (arith, length-append xs (y ∷ ys))

  -- what relates each two relates each before it to it
  pub AllPairs-middle : (R : X → X → Type 0) → AllPairs R (xs ++ y ∷ ys) → All (λ x. R x y) xs
  AllPairs-middle R pairs = All-from_members (λ x. R x y) xs (λ x member. AllPairs-across R xs (y ∷ ys) x y pairs member (Contains-head y ys))

module _ {X : Type 0} where
  -- what stands in a list of one that a test chooses is that one, and the test passes
  pub Contains-cond : (chosen : Bool) (only x : X) → Contains (cond chosen (only ∷ []) []) x → (chosen ≡ true) × (only ≡ x)
  Contains-cond true only x member = (refl, Contains-one only x member)
  Contains-cond false only x member = absurd (Contains-nil x member)

  -- an item that a bit chooses stands once where the bit is 1, and else not at all
  pub length-cond_bit : (bit : ℕ) (x : X) → bit < 2 → length (cond (eqb bit 1) (x ∷ []) []) ≡ bit
  length-cond_bit zero x small = refl
  length-cond_bit (suc zero) x small = refl
  length-cond_bit (suc (suc bit)) x small = absurd (omega arith)

-- where there is an item at an index of a list, there is one in each list of the same length
pub slice_get-same_length : {X Y : Type 0} (xs : List X) (ys : List Y) (index : ℕ) (y : Y) → length ys ≡ length xs → slice_get ys index ≡ Some y → (x : X) × (slice_get xs index ≡ Some x)
slice_get-same_length xs ys index y same at = slice_get-there xs index (omega (arith, slice_get_within ys index y at, same))

module _ {X : Type 0} (front back : List X) (x other : X) where
  -- what stands in a list with one more in its middle is that one, or stands in the list
  pub Contains-middle_cases : Contains (front ++ x ∷ back) other → (x ≡ other) ⊎ Contains (front ++ back) other
  Contains-middle_cases member = elim (Contains-append_cases front (x ∷ back) other member) [
    | inl before ↦ inr (Contains-append_left front back other before)
    | inr after ↦ elim (Contains-cons_cases x back other after) [
      | inl same ↦ inl same
      | inr later ↦ inr (Contains-append_right front back other later)
    ]
  ]

  -- and what stands in the list stands there too
  pub Contains-middle_keeps : Contains (front ++ back) other → Contains (front ++ x ∷ back) other
  Contains-middle_keeps member = elim (Contains-append_cases front back other member) [
    | inl before ↦ Contains-append_left front (x ∷ back) other before
    | inr after ↦ Contains-append_right front (x ∷ back) other (Contains-tail x back other after)
  ]

module _ {X Y : Type 0} (f : X → Y) where
  last_of : (held : Y) (x : X) (xs : List X) → (y : X) × Contains (x ∷ xs) y × (f y ≡ fold (λ last z. f z) held (x ∷ xs))
  last_of held x [] = (x, Contains-head x [], refl)
  last_of held x (next ∷ xs) =
      let later = last_of (f x) next xs in
      (later.0, Contains-tail x (next ∷ xs) later.0 later.1, later.2)

  -- of a list that is not empty, what is kept last along it is the value of one of its elements
  pub fold-last : (held : Y) (xs : List X) → 1 ≤ length xs → (x : X) × Contains xs x × (f x ≡ fold (λ last y. f y) held xs)
  fold-last held [] some = absurd (omega (arith, some))
  fold-last held (x ∷ xs) some = last_of held x xs

-- what holds of each of some items and of one more holds of each of all, by recursion
pub AllByRecursion-push : {X : Type 0} (P : X → Type 0) (xs : List X) (x : X) → AllByRecursion P xs → P x → AllByRecursion P (xs ++ x ∷ [])
AllByRecursion-push P [] x are is = (is, tt)
AllByRecursion-push P (first ∷ others) x are is = (are.0, AllByRecursion-push P others x are.1 is)

-- what relates each two relates each item before an index to the one there
pub AllPairs-before : {X : Type 0} (R : X → X → Type 0) (xs : List X) (i : ℕ) (d : X) → AllPairs R xs → i < length xs → All (λ x. R x (get_or xs i d)) (take i xs)
AllPairs-before R xs i d pairs within = λ k e below.
    let less : k < i = omega (arith, length-take i xs) in
    subst (λ x. R x (get_or xs i d)) (sym (get_or-take i xs k e less))
    (subst (λ x. R (get_or xs k e) x) (get_or_default xs i e d within) (pairs k i e less within))

-- a list of one element
pub one_element : {X : Type 0} (xs : List X) → length xs ≡ 1 → (x : X) × (xs ≡ x ∷ [])
one_element [] h = absurd (omega arith)
one_element (x ∷ []) h = (x, refl)
one_element (x ∷ y ∷ xs) h = absurd (omega arith)

module _ {X : Type 0} (test : X → Bool) where
  -- one passes where some do
  pub list_any-count : (xs : List X) → list_any test xs ≡ nat_lt 0 (count_by test xs)
  list_any-count [] = refl
  list_any-count (x ∷ xs) = by (test x) (count_by test xs) (list_any-count xs) ∙ ap (nat_lt 0) (sym (sum_by-cons (λ y. cond (test y) 1 0) x xs))
    where
      by : (b : Bool) (n : ℕ) → list_any test xs ≡ nat_lt 0 n → (b || list_any test xs) ≡ nat_lt 0 (cond b 1 0 + n)
      by true n e = sym (lt-ltb 0 (1 + n) (omega arith))
      by false n e = e ∙ ap (nat_lt 0) (omega arith)

  -- where none passes, each fails
  pub All-list_any_none : (xs : List X) → list_any test xs ≡ false → All (λ x. test x ≡ false) xs
  All-list_any_none [] none = All-nil (λ x. test x ≡ false)
  All-list_any_none (x ∷ xs) none =
      let parts = or_parts (test x) (list_any test xs) none in
      All-cons (λ y. test y ≡ false) x xs parts.0 (All-list_any_none xs parts.1)

  -- one passes one of two tests where one passes the first or one the second
  pub list_any-or : (other : X → Bool) (xs : List X)
      → list_any (λ x. test x || other x) xs ≡ (list_any test xs || list_any other xs)
  list_any-or other [] = refl
  list_any-or other (x ∷ xs) = by (test x) (other x) (list_any test xs) (list_any other xs) (list_any (λ y. test y || other y) xs) (list_any-or other xs)
    where
      by : (b c d e f : Bool) → f ≡ (d || e) → ((b || c) || f) ≡ ((b || d) || (c || e))
      by true c d e f same = refl
      by false true true e f same = refl
      by false true false e f same = refl
      by false false true e f same = same
      by false false false e f same = same
