-- Solutions of what a system demands: a time for each variable, between its bounds, that meet every pick.
use Rattle.std.specs.Prelude.{◌≡◌, ℕ, ◌<◌, ◌≤◌, List, length, slice_index, All}
use Rattle.tfpg_base.specs.Constraint.{Meets}
use Rattle.tfpg_diff.specs.VariableBounds.{VariableBounds}
use Rattle.tfpg_diff.specs.Demands.{Demands, Bounded}

-- The time lies between the bounds.
pub record IsBetween (bounds : VariableBounds) (time : ℕ) : Type 0 where
  pub above : bounds.floor ≤ time
  pub below : time ≤ bounds.ceiling

-- There is a time for each variable; it lies between its bounds, and the times meet the constraint of each pick.
pub record IsSolution (demands : Demands) (times : List ℕ) : Type 0 where
  pub complete : length times ≡ length demands.bounds
  pub between : (variable : ℕ) (bounds : VariableBounds) → Bounded demands variable bounds →
      IsBetween bounds (slice_index times variable)
  pub met : All (λ pick. Meets times pick.constraint) demands.picks

-- A solution that gives each variable the greatest time that any solution gives it.
pub record IsLatest (demands : Demands) (times : List ℕ) : Type 0 where
  pub solution : IsSolution demands times
  pub greatest : (other : List ℕ) → IsSolution demands other →
      (variable : ℕ) → variable < length times → slice_index other variable ≤ slice_index times variable

-- No times meet all demands.
abbrev pub HasNoSolution : Demands → Type 0
HasNoSolution demands = (times : List ℕ) → IsSolution demands times → ⊥

-- Some times meet all demands.
abbrev pub HasSolution : Demands → Type 0
HasSolution demands = (times : List ℕ) × IsSolution demands times
