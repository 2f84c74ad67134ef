use Rattle.std.proofs.Common.{◌<◌}
use Rattle.tfpg_clause.specs.declared.clause_kind.ClauseKind.{ClauseKind}
use Rattle.tfpg_clause.specs.inside.FirstSpan.{MeetsKind}
use Rattle.tfpg_clause.proofs.lemmas.first_violated.FirstOfAll.{index_of_kind}
use Rattle.tfpg_clause.proofs.first_clause.first_violated.Given as goal

abbrev pub invariant-loop-kind : goal.invariant-loop-kind
invariant-loop-kind l = (other : ClauseKind) → index_of_kind other < l.kind-index → MeetsKind l.graph l.log l.times other
