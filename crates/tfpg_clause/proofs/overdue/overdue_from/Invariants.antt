use Rattle.std.proofs.Common.{ℕ, ◌<◌}
use Rattle.tfpg_clause.specs.inside.Overdue.{IsExcusedBySome}
use Rattle.tfpg_clause.proofs.overdue.overdue_from.Given as goal

abbrev pub invariant-loop-edge : goal.invariant-loop-edge
invariant-loop-edge l = (hi : ℕ) → hi < l.latest → IsExcusedBySome l.graph l.times l.edges hi
