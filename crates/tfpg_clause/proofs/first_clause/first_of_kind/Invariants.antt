use Rattle.std.proofs.Common.{ℕ, ◌<◌}
use Rattle.tfpg_clause.specs.inside.FirstSpan.{MeetsEach, clauses_of}
use Rattle.tfpg_clause.proofs.first_clause.first_of_kind.Given as goal

abbrev pub invariant-loop-subject : goal.invariant-loop-subject
invariant-loop-subject l = (other : ℕ) → other < l.subject → MeetsEach l.times (clauses_of l.graph l.log l.kind other)
