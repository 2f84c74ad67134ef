use Rattle.std.specs.List.{AllWithin}
use Rattle.tfpg_base.specs.Constraint.{Meets}
use Rattle.tfpg_clause.proofs.meets.meets_each.Given as goal

abbrev pub invariant-loop-constraint : goal.invariant-loop-constraint
invariant-loop-constraint l = AllWithin (Meets l.times) l.constraints 0 l.constraint-index
