use Rattle.std.proofs.Common.{slice_get}
use Rattle.tfpg_clause.proofs.lemmas.first_violated.MustsBySpan.{no_or_must}
use Rattle.tfpg_clause.proofs.must_violated.or_must_violated.Goals as goal

pub returns-in_err-or_target : goal.returns-in_err-or_target
returns-in_err-or_target c =
    rw c.from_residual.ensures
    (no_or_must c.args.graph.now c.args.log.now c.args.times.now
    (slice_get c.args.graph.now.edges c.args.edge) c.in_err-or_target.ensures.value)
