-- Lists in which each element is related to all later ones.
use Rattle.std.proofs.Common.{◌≡◌, ◌≢◌, ℕ, ◌+◌, map, ◌<◌, ◌≤◌, List, [], ◌∷◌, ◌++◌, ⊎_elim, refl, arith, sym, ◌∙◌, subst, get_or, ap}
use Rattle.std.specs.List.{AllPairs, Contains}
use Rattle.std.proofs.lemmas.List.Elements.{All-contains, Contains-append_cases}
pub use Rattle.tfpg_base.specs.Set.{Rises}
use Rattle.tfpg_base.proofs.lemmas.lists.Elements.{AllPairs-head, AllPairs-tail, AllPairs-cons, All-from_members, Contains-head, Contains-tail, Contains-cons_cases, Contains-nil}
use Rattle.tfpg_base.proofs.lemmas.lists.Images.{Contains-map_only}
use Rattle.std.specs.List.Sorted.{IsNonDecreasingBy}
use Rattle.std.specs.Ordering.{nat_cmp, ordering_index}
use Rattle.std.proofs.Math.Nat.{le_antisymm}
use Rattle.std.proofs.lemmas.Bool.{cases_lt}
use Rattle.std.proofs.lemmas.Bool.Decides.{nat_tests}

module _ {X : Type 0} (R : X → X → Type 0) where
  -- nothing is related in an empty list
  pub AllPairs-nil : AllPairs R []
  AllPairs-nil = λ i j d before within. absurd (omega arith)

  -- one list after the other, where each element of the one is related to each of the other
  pub AllPairs-append : (xs ys : List X) → AllPairs R xs → AllPairs R ys → ((x y : X) → Contains xs x → Contains ys y → R x y) → AllPairs R (xs ++ ys)
  AllPairs-append [] ys first second across = second
  AllPairs-append (x ∷ xs) ys first second across =
      AllPairs-cons R x (xs ++ ys)
      (All-from_members (R x) (xs ++ ys)
      (λ y member. ⊎_elim (λ own. All-contains (R x) xs y (AllPairs-head R x xs first) own) (λ other. across x y (Contains-head x xs) other) (Contains-append_cases xs ys y member)))
      (AllPairs-append xs ys (AllPairs-tail R x xs first) second (λ y z in_xs in_ys. across y z (Contains-tail x xs y in_xs) in_ys))

  module _ (asymmetric : (x y : X) → R x y → R y x → ⊥) where
    -- what stands in the rest of the one list stands in the rest of the other
    in_rest : (x y : X) (xs ys : List X) → x ≡ y → AllPairs R (x ∷ xs) → ((z : X) → Contains (x ∷ xs) z → Contains (y ∷ ys) z) → (z : X) → Contains xs z → Contains ys z
    in_rest x y xs ys same pairs to z member =
        let after : R x z = All-contains (R x) xs z (AllPairs-head R x xs pairs) member in
        ⊎_elim (λ is. absurd (asymmetric x z after (subst (λ w. R w x) (same ∙ is) (subst (λ w. R x w) (sym (same ∙ is)) after)))) (λ rest. rest)
        (Contains-cons_cases y ys z (to z (Contains-tail x xs z member)))

    -- Two lists in order with the same elements are equal.
    pub same_in_order : (xs ys : List X) → AllPairs R xs → AllPairs R ys → ((x : X) → Contains xs x → Contains ys x) → ((x : X) → Contains ys x → Contains xs x) → xs ≡ ys
    same_in_order [] [] first second to from = refl
    same_in_order [] (y ∷ ys) first second to from = absurd (Contains-nil y (from y (Contains-head y ys)))
    same_in_order (x ∷ xs) [] first second to from = absurd (Contains-nil x (to x (Contains-head x xs)))
    same_in_order (x ∷ xs) (y ∷ ys) first second to from =
        let heads : x ≡ y = ⊎_elim (λ is. sym is)
        (λ x_later. ⊎_elim (λ is. is) (λ y_later. absurd (asymmetric x y (All-contains (R x) xs y (AllPairs-head R x xs first) y_later) (All-contains (R y) ys x (AllPairs-head R y ys second) x_later)))
        (Contains-cons_cases x xs y (from y (Contains-head y ys))))
        (Contains-cons_cases y ys x (to x (Contains-head x xs))) in
        let rests = same_in_order xs ys (AllPairs-tail R x xs first) (AllPairs-tail R y ys second) (in_rest x y xs ys heads first to) (in_rest y x ys xs (sym heads) second from) in
        cc

-- a member of a rising list is no less than its head
pub least_first : (first : ℕ) (others : List ℕ) (index : ℕ) → Rises (first ∷ others) → Contains (first ∷ others) index → first ≤ index
least_first first others index rising member =
    ⊎_elim (λ is. omega (arith, is)) (λ after. omega (arith, All-contains (λ later. first < later) others index (AllPairs-head ◌<◌ first others rising) after)) (Contains-cons_cases first others index member)

-- Rising lists with the same members are equal.
pub same_from_members : (xs ys : List ℕ) → Rises xs → Rises ys → ((index : ℕ) → Contains xs index → Contains ys index) → ((index : ℕ) → Contains ys index → Contains xs index) → xs ≡ ys
same_from_members xs ys rises_x rises_y to from = same_in_order (λ earlier later. earlier < later) (λ x y above below. omega arith) xs ys rises_x rises_y to from

-- No two numbers of a rising list are the same.
pub Rises-differ : (members : List ℕ) → Rises members → AllPairs ◌≢◌ members
Rises-differ members rising i j d before within same = omega (arith, rising i j d before within, same)

-- a rising list further up rises
pub Rises-shifted : (by : ℕ) (xs : List ℕ) → Rises xs → Rises (map (λ x. by + x) xs)
Rises-shifted by [] rising = rising
Rises-shifted by (first ∷ others) rising =
    AllPairs-cons ◌<◌ (by + first) (map (λ x. by + x) others)
    (All-from_members (λ later. by + first < later) (map (λ x. by + x) others)
    (λ later member. let old = Contains-map_only (λ x. by + x) others later member in
    omega (arith, old.2, All-contains (λ y. first < y) others old.0 (AllPairs-head ◌<◌ first others rising) old.1)))
    (Rises-shifted by others (AllPairs-tail ◌<◌ first others rising))

-- ---- binary searches

-- a greater number compares no less
index_rises : (low high with : ℕ) → low ≤ high → ordering_index (nat_cmp low with) ≤ ordering_index (nat_cmp high with)
index_rises low high with le = grind (arith, nat_tests)

-- comparisons of rising keys with a number rise, as a binary search asks
pub comparisons_rise : {X : Type 0} (key : X → ℕ) (xs : List X) (with : ℕ) → AllPairs (λ a b. key a < key b) xs → IsNonDecreasingBy (λ x. ordering_index (nat_cmp (key x) with)) xs
comparisons_rise key xs with rising i j d le within =
    index_rises (key (get_or xs i d)) (key (get_or xs j d)) with
    (⊎_elim (λ less. omega (arith, rising i j d less within)) (λ no_less. omega (arith, ap (λ k. key (get_or xs k d)) (le_antisymm le no_less)))
    (cases_lt i j))
