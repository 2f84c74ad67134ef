-- What contracts see of the bounds of a variable.
use Rattle.std.specs.Prelude.{ℕ}
use Rattle.tfpg_diff.specs.declared.why.Why.{Why}

-- The greatest lower bound and the least upper bound so far, each with what a cycle names it by.
pub record VariableBounds : Type 0 where
  pub floor : ℕ
  pub floor_why : Why
  pub ceiling : ℕ
  pub ceiling_why : Why
