-- The items that pass a test, and how many they are, with one item more.
use Rattle.std.proofs.Common.{◌≡◌, ◌+◌, Bool, true, false, cond, List, [], ◌∷◌, ◌++◌, All, filter, count_by, refl, ap, ◌∙◌, ℕ, zero, suc, ◌<◌, ◌≤◌, length, get_or, take, subst, arith}
use Rattle.std.proofs.lemmas.Bool.{cond-true, cond-false}
use Rattle.std.proofs.lemmas.List.{append-nil, take-take}
use Rattle.std.proofs.lemmas.List.Sums.{sum_by_push, sum_by-cons, count_by_more_yes, sum_by-take-le}
use Rattle.std.proofs.lemmas.List.Elements.{All-head, All-tail, filter-append}

module _ {X : Type 0} (p : X → Bool) where
  -- one item more that passes
  pub filter-push_yes : (xs : List X) (x : X) → p x ≡ true → filter p (xs ++ x ∷ []) ≡ filter p xs ++ x ∷ []
  filter-push_yes xs x passes = filter-append p xs (x ∷ []) ∙ ap (λ ys. filter p xs ++ ys) (cond-true (p x) (x ∷ []) [] passes)

  -- one item more that fails
  pub filter-push_no : (xs : List X) (x : X) → p x ≡ false → filter p (xs ++ x ∷ []) ≡ filter p xs
  filter-push_no xs x fails =
      filter-append p xs (x ∷ []) ∙ ap (λ ys. filter p xs ++ ys) (cond-false (p x) (x ∷ []) [] fails) ∙ append-nil (filter p xs)

  -- how many pass, with one item more
  pub count_by-push : (xs : List X) (x : X) → count_by p (xs ++ x ∷ []) ≡ count_by p xs + (cond (p x) 1 0)
  count_by-push xs x = sum_by_push (λ y. cond (p y) 1 0) xs x

  -- where all pass, all are kept
  pub filter-all : (xs : List X) → All (λ x. p x ≡ true) xs → filter p xs ≡ xs
  filter-all [] all = refl
  filter-all (x ∷ xs) all =
      λ i. cond (All-head (λ y. p y ≡ true) x xs all i) (x ∷ filter-all xs (All-tail (λ y. p y ≡ true) x xs all) i) (filter p xs)

module _ {X : Type 0} (test : X → Bool) where
  -- an index whose item passes, after so many that do
  abbrev pub PassesAfter : List X → ℕ → X → Type 0
  PassesAfter xs count default = (index : ℕ) × (index < length xs) × (test (get_or xs index default) ≡ true) × (count_by test (take index xs) ≡ count)

  -- Of more than so many that pass, one stands after so many.
  pub passes_after : (xs : List X) (count : ℕ) (default : X) → count < count_by test xs → PassesAfter xs count default
  passes_after [] count default more = absurd (omega arith)
  passes_after (x ∷ xs) count default more =
      by (test x) refl count (subst (λ n. count < n) (sum_by-cons (λ y. cond (test y) 1 0) x xs) more) (λ before fewer. passes_after xs before default fewer)
    where
      later : (b : Bool) → test x ≡ b → (before : ℕ) → PassesAfter xs before default
          → PassesAfter (x ∷ xs) (cond b 1 0 + before) default
      later b is before found = (suc found.0, omega (arith, found.1), found.2, sum_by-cons (λ y. cond (test y) 1 0) x (take found.0 xs) ∙ (λ i. cond (is i) 1 0 + found.3 i))

      by : (b : Bool) → test x ≡ b → (before : ℕ) → before < cond b 1 0 + count_by test xs
          → ((n : ℕ) → n < count_by test xs → PassesAfter xs n default) → PassesAfter (x ∷ xs) before default
      by true is zero more_so rest = (0, omega arith, is, refl)
      by true is (suc before) more_so rest =
          subst (λ n. PassesAfter (x ∷ xs) n default) (omega arith) (later true is before (rest before (omega arith)))
      by false is before more_so rest = subst (λ n. PassesAfter (x ∷ xs) n default) (omega arith) (later false is before (rest before (omega arith)))

  -- An item that passes is not counted before its index, and is after it.
  pub count_by-take_lt : (xs : List X) (default : X) (index later : ℕ) → index < later → later ≤ length xs
      → test (get_or xs index default) ≡ true → count_by test (take index xs) < count_by test (take later xs)
  count_by-take_lt xs default index later before within passes =
      let more = count_by_more_yes test xs index default (omega arith) passes in
      let fewer = sum_by-take-le (λ y. cond (test y) 1 0) (take later xs) (index + 1) in
      let front = take-take (index + 1) later xs (omega arith) in
      let counted : count_by test (take (index + 1) xs) ≤ count_by test (take later xs) =
      subst (λ ys. count_by test ys ≤ count_by test (take later xs)) front fewer in
      omega (arith, more, counted)
