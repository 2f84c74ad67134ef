-- Items of which no two are the same: how many numbers below a limit there are, and a list of each item once.
use Rattle.std.proofs.Common.{◌≡◌, ◌≢◌, ◌⊎◌, ℕ, ◌<◌, ◌≤◌, Bool, true, false, cond, List, [], ◌∷◌, length, get_or, refl, ap, sym, ◌∙◌, subst, inl, inr, arith}
use Rattle.std.specs.Prelude.{AllPairs, All, Contains, eqb}
use Rattle.std.specs.List.{list_any}
use Rattle.std.proofs.lemmas.List.Folds.{Any-from_list_any}
use Rattle.std.proofs.lemmas.Bool.{eqb-true, cases_lt}
use Rattle.std.proofs.lemmas.Bool.Decides.{Decides-eqb}
use Rattle.std.proofs.lemmas.List.Elements.{All-nil, All-cons}
use Rattle.std.proofs.lemmas.Map.Made.{IsDistinct-from_AllPairs}
use Rattle.std.proofs.lemmas.Map.Steps.{length-le_from_distinct_below}
use Rattle.tfpg_base.proofs.lemmas.lists.Elements.{AllPairs-cons, Contains-head, Contains-tail, Contains-cons_cases, list_any-found, list_any-passes}

-- Numbers below n of which no two are the same are at most n.
pub length-le_distinct : (xs : List ℕ) (n : ℕ) → AllPairs (λ a b. a ≢ b) xs → All (λ x. x < n) xs → length xs ≤ n
length-le_distinct xs n apart below =
    length-le_from_distinct_below xs n (IsDistinct-from_AllPairs Decides-eqb xs apart)
    (λ q found.
    let some = Any-from_list_any (eqb q) xs found in
    let same : q ≡ some.1 = eqb-true q some.1 some.4 in
    let here : get_or xs some.0 some.1 < n = below some.0 some.1 some.2 in
    subst (λ (m : ℕ). m < n) (some.3 ∙ sym same) here)

-- ---- each item once

module _ {X : Type 0} (same : X → X → Bool) (exact : (x y : X) → same x y ≡ true → x ≡ y) (itself : (x : X) → same x x ≡ true) where
  -- the list, of each item the last time that it stands there
  abbrev pub once : List X → List X
  once [] = []
  once (x ∷ xs) = cond (list_any (same x) xs) (once xs) (x ∷ once xs)

  -- each item of the list stands there
  pub in_once : (xs : List X) (x : X) → Contains xs x → Contains (once xs) x
  in_once [] x has = absurd (omega (arith, has.1))
  in_once (y ∷ xs) x has = by (λ there. in_once xs x there) (list_any (same y) xs) refl (Contains-cons_cases y xs x has)
    where
      by : (Contains xs x → Contains (once xs) x) → (b : Bool) → list_any (same y) xs ≡ b → (y ≡ x) ⊎ Contains xs x → Contains (cond b (once xs) (y ∷ once xs)) x
      by next true at (inl is) =
          let found = list_any-found (same y) xs at in
          next (subst (Contains xs) (sym (exact y found.0 found.2) ∙ is) found.1)
      by next true at (inr there) = next there
      by next false at (inl is) = subst (Contains (y ∷ once xs)) is (Contains-head y (once xs))
      by next false at (inr there) = Contains-tail y (once xs) x (next there)

  -- and what stands there is an item of the list
  pub from_once : (xs : List X) (x : X) → Contains (once xs) x → Contains xs x
  from_once [] x has = has
  from_once (y ∷ xs) x has = by (λ there. from_once xs x there) (list_any (same y) xs) has
    where
      by : (Contains (once xs) x → Contains xs x) → (b : Bool) → Contains (cond b (once xs) (y ∷ once xs)) x → Contains (y ∷ xs) x
      by next true there = Contains-tail y xs x (next there)
      by next false there =
          elim (Contains-cons_cases y (once xs) x there) [
            | inl is ↦ subst (Contains (y ∷ xs)) is (Contains-head y xs)
            | inr later ↦ Contains-tail y xs x (next later)
          ]

  -- an item that does not stand in a list differs from each of those in it
  none_later : (y : X) (xs all : List X) → list_any (same y) all ≡ false → ((x : X) → Contains xs x → Contains all x) → All (λ (x : X). y ≢ x) xs
  none_later y [] all none in_all = All-nil (λ (x : X). y ≢ x)
  none_later y (x ∷ xs) all none in_all =
      All-cons (λ (z : X). y ≢ z) x xs
      (λ is. (let there : list_any (same y) all ≡ true = list_any-passes (same y) all x (in_all x (Contains-head x xs)) (ap (same y) (sym is) ∙ itself y) in absurd cc))
      (none_later y xs all none (λ z has. in_all z (Contains-tail x xs z has)))

  -- No two items there are the same.
  pub once_differ : (xs : List X) → AllPairs ◌≢◌ (once xs)
  once_differ [] = λ i j d less within. absurd (omega (arith, within))
  once_differ (y ∷ xs) = by (once_differ xs) (list_any (same y) xs) refl
    where
      by : AllPairs ◌≢◌ (once xs) → (b : Bool) → list_any (same y) xs ≡ b → AllPairs ◌≢◌ (cond b (once xs) (y ∷ once xs))
      by others true at = others
      by others false at = AllPairs-cons ◌≢◌ y (once xs) (none_later y (once xs) xs at (λ x has. from_once xs x has)) others

-- of items no two of which are the same, those at two indexes differ
pub get_or-differ : {X : Type 0} (xs : List X) (d : X) (i j : ℕ) → AllPairs (λ a b. a ≢ b) xs → i < length xs → j < length xs → i ≢ j → get_or xs i d ≢ get_or xs j d
get_or-differ xs d i j apart in_i in_j other same = elim (cases_lt i j) [
  | inl less ↦ apart i j d less in_j same
  | inr least ↦ apart j i d (omega (arith, least, other)) in_i (sym same)
]
