-- The greatest of a number and of those that the items of a list have.
use Rattle.std.proofs.Common.{ℕ, ◌≤◌, List, [], ◌∷◌, max, inl, inr, ap, arith}
use Rattle.std.specs.Prelude.{Contains, fold}
use Rattle.tfpg_base.proofs.lemmas.lists.Elements.{Contains-head, Contains-tail, Contains-nil, Contains-cons_cases}

module _ {X : Type 0} (value : X → ℕ) where
  -- it is not less than the number,
  pub fold-max_start : (start : ℕ) (xs : List X) → start ≤ fold (λ (most : ℕ) (x : X). max most (value x)) start xs
  fold-max_start start [] = omega arith
  fold-max_start start (x ∷ xs) = omega (arith, fold-max_start (max start (value x)) xs)

  -- nor than that of any item,
  pub fold-max_member : (start : ℕ) (xs : List X) (x : X) → Contains xs x → value x ≤ fold (λ (most : ℕ) (y : X). max most (value y)) start xs
  fold-max_member start [] x member = absurd (Contains-nil x member)
  fold-max_member start (first ∷ xs) x member = elim (Contains-cons_cases first xs x member) [
    | inl same ↦ omega (arith, fold-max_start (max start (value first)) xs, ap value same)
    | inr more ↦ fold-max_member (max start (value first)) xs x more
  ]

  -- and it is at most what they are all at most
  pub fold-max_upto : (start limit : ℕ) (xs : List X) → start ≤ limit → ((x : X) → Contains xs x → value x ≤ limit) → fold (λ (most : ℕ) (x : X). max most (value x)) start xs ≤ limit
  fold-max_upto start limit [] upto each = upto
  fold-max_upto start limit (x ∷ xs) upto each =
      fold-max_upto (max start (value x)) limit xs (omega (arith, upto, each x (Contains-head x xs))) (λ y member. each y (Contains-tail x xs y member))
