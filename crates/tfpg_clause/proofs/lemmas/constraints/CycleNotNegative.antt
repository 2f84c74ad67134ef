-- The sum of the bounds of a cycle that is met.
use Rattle.std.proofs.Common.{◌≡◌, ℕ, List, [], ◌∷◌, ap, arith}
use Rattle.std.specs.Prelude.{ℤ, pos, ◌+ℤ◌, ◌-ℤ◌, ◌≤ℤ◌, fold, All}
use Rattle.std.proofs.lemmas.Int.{ints}
use Rattle.std.proofs.lemmas.List.Elements.{All-tail}
use Rattle.tfpg_base.specs.declared.constraint.Constraint.{Constraint}
use Rattle.tfpg_base.specs.Constraint.{Meets, value_of}
use Rattle.tfpg_base.specs.ConstraintCycle.{IsChainTo, IsCycle, sum_of}

-- the sum from a total on
abbrev sum_from : ℤ → List Constraint → ℤ
sum_from total constraints = fold (λ sum constraint. sum +ℤ constraint.most) total constraints

module _ (times : List ℕ) where
  -- along a chain the values fall by no more than the sum of the bounds
  along : (total : ℤ) (end : ℕ) (first : Constraint) (others : List Constraint) → IsChainTo end (first ∷ others)
      → All (Meets times) (first ∷ others)
      → (total +ℤ (value_of times first.left -ℤ value_of times end)) ≤ℤ sum_from total (first ∷ others)
  along total end first [] chain met =
      omega (arith, ints, met 0 first (omega arith), ap (value_of times) chain)
  along total end first (second ∷ others) chain met =
      let rest = along (total +ℤ first.most) end second others chain.1 (All-tail (Meets times) first (second ∷ others) met) in
      let same : value_of times first.right ≡ value_of times second.left = ap (value_of times) chain.0 in
      omega (arith, ints, met 0 first (omega arith), same, rest)

  -- The bounds of a cycle whose constraints are met have a sum of at least 0.
  pub not_negative : (constraints : List Constraint) → IsCycle constraints → All (Meets times) constraints → pos 0 ≤ℤ sum_of constraints
  not_negative [] cycle met = absurd cycle
  not_negative (first ∷ others) cycle met =
      omega (arith, ints, along (pos 0) first.left first others cycle met)
