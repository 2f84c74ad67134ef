-- What a system demands of its variables: their bounds and the picks, each as a constraint with the tag that a cycle names
-- it by. Number 0 is the constant zero, and the variable `v` is the number `v + 1`.
use Rattle.std.specs.Prelude.{◌≡◌, ◌⊎◌, ℕ, pos, List, Contains, Some, slice_get}
use Rattle.tfpg_base.specs.Bounds.{at_most, at_least}
use Rattle.tfpg_diff.specs.declared.why.Why.TheVariants.{Given}
use Rattle.tfpg_diff.specs.VariableBounds.{VariableBounds}
use Rattle.tfpg_diff.specs.declared.pick.Pick.{Pick}
use Rattle.tfpg_diff.specs.declared.demand.Demand.{Demand}

-- The bounds of each variable, and the stack of picks, the first pick first.
pub record Demands : Type 0 where
  pub bounds : List VariableBounds
  pub picks : List Pick

-- the demands of these bounds and picks
abbrev pub demands_of : List VariableBounds → List Pick → Demands
demands_of bounds picks = record { bounds = bounds; picks = picks }

-- The upper bound of a variable, as a demand: it is at most that.
abbrev pub ceiling_of : ℕ → VariableBounds → Demand
ceiling_of variable bounds = record { constraint = at_most variable (pos bounds.ceiling); why = bounds.ceiling_why }

-- The lower bound of a variable, as a demand: it is at least that.
abbrev pub floor_of : ℕ → VariableBounds → Demand
floor_of variable bounds = record { constraint = at_least variable bounds.floor; why = bounds.floor_why }

-- A pick: its constraint, with its tag.
abbrev pub demand_of_pick : Pick → Demand
demand_of_pick pick = record { constraint = pick.constraint; why = Given pick.tag }

-- These are the bounds of that variable.
abbrev pub Bounded : Demands → ℕ → VariableBounds → Type 0
Bounded demands variable bounds = slice_get demands.bounds variable ≡ Some bounds

-- It is the upper bound of a variable, the lower bound of one, or a pick.
abbrev pub Demanded : Demands → Demand → Type 0
Demanded demands demand =
    ((variable : ℕ) × (bounds : VariableBounds) × Bounded demands variable bounds × (demand ≡ ceiling_of variable bounds))
    ⊎ (((variable : ℕ) × (bounds : VariableBounds) × Bounded demands variable bounds × (demand ≡ floor_of variable bounds))
    ⊎ ((pick : Pick) × Contains demands.picks pick × (demand ≡ demand_of_pick pick)))
