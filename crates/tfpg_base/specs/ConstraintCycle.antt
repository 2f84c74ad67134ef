-- Constraints that chain into a cycle, and the sum of their bounds. Where the sum is below 0 no times meet them all.
use Rattle.std.specs.Prelude.{◌≡◌, ◌≢◌, ℕ, ℤ, pos, ◌+ℤ◌, ◌<ℤ◌, List, [], ◌∷◌, fold, AllPairs}
use Rattle.tfpg_base.specs.declared.constraint.Constraint.{Constraint}

-- Each right side is the next left side, and the last right side is this one.
abbrev pub IsChainTo : ℕ → List Constraint → Type 0
IsChainTo end [] = ⊥
IsChainTo end (last ∷ []) = last.right ≡ end
IsChainTo end (first ∷ second ∷ others) = (first.right ≡ second.left) × IsChainTo end (second ∷ others)

-- The constraints chain into a cycle.
abbrev pub IsCycle : List Constraint → Type 0
IsCycle [] = ⊥
IsCycle (first ∷ others) = IsChainTo first.left (first ∷ others)

-- No left side stands twice.
abbrev pub HasDistinctLefts : List Constraint → Type 0
HasDistinctLefts constraints = AllPairs (λ earlier later. earlier.left ≢ later.left) constraints

-- the sum of their bounds
abbrev pub sum_of : List Constraint → ℤ
sum_of constraints = fold (λ total constraint. total +ℤ constraint.most) (pos 0) constraints

-- The constraints chain into a cycle, and the sum of their bounds is below 0.
pub record IsNegativeCycle (constraints : List Constraint) : Type 0 where
  pub chained : IsCycle constraints
  pub negative : sum_of constraints <ℤ pos 0
