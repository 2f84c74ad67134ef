-- Constraints on the times of nodes, as difference constraints.
use Rattle.std.specs.Prelude.{ℕ, ◌+◌, ℤ, pos, neg_ℤ}
use Rattle.tfpg_base.specs.declared.constraint.Constraint.{Constraint}

-- the time of the node is at most this
abbrev pub at_most : ℕ → ℤ → Constraint
at_most node bound = record { left = node + 1; right = 0; most = bound }

-- the time of the node is at least this
abbrev pub at_least : ℕ → ℕ → Constraint
at_least node least = record { left = 0; right = node + 1; most = neg_ℤ (pos least) }

-- the one node's time is at most so much after the other's
abbrev pub at_most_after : ℕ → ℕ → ℕ → Constraint
at_most_after node source bound = record { left = node + 1; right = source + 1; most = pos bound }

-- the one node's time is at least so much after the other's
abbrev pub at_least_after : ℕ → ℕ → ℕ → Constraint
at_least_after node source least = record { left = source + 1; right = node + 1; most = neg_ℤ (pos least) }
