-- The members of a rising list that are below a number.
use Rattle.std.proofs.Common.{◌≡◌, ℕ, ◌+◌, ◌<◌, ◌≤◌, ltb, List, [], ◌∷◌, ◌++◌, ⊎_elim, refl, arith, sym, ◌∙◌, ap}
use Rattle.std.specs.List.{Contains, filter}
use Rattle.std.proofs.lemmas.Bool.{lt-ltb, le-ltb, cases_eq, cond-true, cond-false, cond_both, ltb-true, ltb-false}
use Rattle.std.proofs.lemmas.List.Elements.{All-contains}
use Rattle.tfpg_base.proofs.lemmas.lists.Elements.{AllPairs-head, AllPairs-tail, Contains-head, Contains-tail, Contains-cons_cases, Contains-nil}
use Rattle.tfpg_base.proofs.lemmas.lists.Ordered.{Rises}

-- the members below a number
abbrev pub below : ℕ → List ℕ → List ℕ
below end xs = filter (λ x. ltb x end) xs

-- where the head is below the number it is kept
below-cons : (end x : ℕ) (xs : List ℕ) → x < end → below end (x ∷ xs) ≡ x ∷ below end xs
below-cons end x xs less = cond-true (ltb x end) _ _ (lt-ltb x end less)

-- else it is left out
below-cons_past : (end x : ℕ) (xs : List ℕ) → end ≤ x → below end (x ∷ xs) ≡ below end xs
below-cons_past end x xs past = cond-false (ltb x end) _ _ (le-ltb x end past)

-- nothing is below 0
pub below-zero : (xs : List ℕ) → below 0 xs ≡ []
below-zero [] = refl
below-zero (x ∷ xs) = below-cons_past 0 x xs (omega arith) ∙ below-zero xs

-- none of the members is below the number
below-past : (end : ℕ) (xs : List ℕ) → ((x : ℕ) → Contains xs x → end ≤ x) → below end xs ≡ []
below-past end [] past = refl
below-past end (x ∷ xs) past = below-cons_past end x xs (past x (Contains-head x xs)) ∙ below-past end xs (λ y member. past y (Contains-tail x xs y member))

-- all members are below the number
pub below-all : (end : ℕ) (xs : List ℕ) → ((x : ℕ) → Contains xs x → x < end) → below end xs ≡ xs
below-all end [] all = refl
below-all end (x ∷ xs) all = below-cons end x xs (all x (Contains-head x xs)) ∙ ap (λ ys. x ∷ ys) (below-all end xs (λ y member. all y (Contains-tail x xs y member)))

-- A number that is no member adds nothing.
pub below-absent : (end : ℕ) (xs : List ℕ) → (Contains xs end → ⊥) → below (end + 1) xs ≡ below end xs
below-absent end [] absent = refl
below-absent end (x ∷ xs) absent =
    let rest = below-absent end xs (λ member. absent (Contains-tail x xs end member)) in
    cond_both (ltb x end) (x ∷ below end xs) (below end xs) (λ ys. below (end + 1) (x ∷ xs) ≡ ys)
    (λ less. below-cons (end + 1) x xs (omega (arith, ltb-true x end less)) ∙ ap (λ ys. x ∷ ys) rest)
    (λ not_less. ⊎_elim (λ is. absurd (absent (0, omega arith, is)))
    (λ differs. below-cons_past (end + 1) x xs (omega (arith, ltb-false x end not_less, differs)) ∙ rest)
    (cases_eq x end))

-- A member is added at the end.
pub below-member : (end : ℕ) (xs : List ℕ) → Rises xs → Contains xs end → below (end + 1) xs ≡ below end xs ++ end ∷ []
below-member end [] rising member = absurd (Contains-nil end member)
below-member end (x ∷ xs) rising member =
    ⊎_elim
    (λ is.
    let later = λ (y : ℕ) (m : Contains xs y). All-contains (λ z. x < z) xs y (AllPairs-head ◌<◌ x xs rising) m in
    below-cons (end + 1) x xs (omega (arith, is))
    ∙ ap (λ ys. x ∷ ys) (below-past (end + 1) xs (λ y m. omega (arith, is, later y m)))
    ∙ ap (λ y. y ∷ []) is
    ∙ sym (ap (λ ys. ys ++ end ∷ []) (below-cons_past end x xs (omega (arith, is)) ∙ below-past end xs (λ y m. omega (arith, is, later y m)))))
    (λ rest.
    let less = All-contains (λ z. x < z) xs end (AllPairs-head ◌<◌ x xs rising) rest in
    below-cons (end + 1) x xs (omega (arith, less))
    ∙ ap (λ ys. x ∷ ys) (below-member end xs (AllPairs-tail ◌<◌ x xs rising) rest)
    ∙ sym (ap (λ ys. ys ++ end ∷ []) (below-cons end x xs less)))
    (Contains-cons_cases x xs end member)
