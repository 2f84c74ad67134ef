-- What it means that times meet a difference constraint.
use Rattle.std.specs.Prelude.{ℕ, zero, suc, ℤ, pos, ◌-ℤ◌, ◌≤ℤ◌, List, slice_index}
use Rattle.tfpg_base.specs.declared.constraint.Constraint.{Constraint}

-- the value of a number of a constraint, where these are the times of the nodes: number 0 is the constant zero, and number n + 1 the time of node n
abbrev pub value_of : List ℕ → ℕ → ℤ
value_of times zero = pos 0
value_of times (suc node) = pos (slice_index times node)

-- These times meet the constraint.
abbrev pub Meets : List ℕ → Constraint → Type 0
Meets times constraint = (value_of times constraint.left -ℤ value_of times constraint.right) ≤ℤ constraint.most
