use Rattle.std.proofs.Common.{slice_get}
use Rattle.tfpg_graph.specs.Graph.{is_and}
use Rattle.tfpg_log.specs.Log.{now_of}
use Rattle.tfpg_clause.proofs.lemmas.first_violated.ClausesBySpan.{and_may_found_first, no_and_may}
use Rattle.tfpg_clause.proofs.lemmas.alternatives.ClauseFound.{target_there}
use Rattle.tfpg_clause.proofs.may_violated.and_may_violated.Goals as goal

pub returns-in_err-target : goal.returns-in_err-target
returns-in_err-target c =
    rw c.from_residual.ensures
    (no_and_may c.args.graph.now c.args.log.now c.args.times.now (now_of c.args.log.now)
    (slice_get c.args.graph.now.edges c.args.edge) c.in_err-target.ensures.value)

pub returns : goal.returns
returns c =
    let there =
    target_there is_and c.args.graph.now c.in_ok-target.target
    (slice_get c.args.graph.now.edges c.args.edge) c.in_ok-target.ensures.value in
    and_may_found_first c.args.graph.now c.args.log.now c.args.times.now
    (now_of c.args.log.now) c.args.edge c.in_ok-target.target c.may_violated.result there.0 there.1
    c.may_violated.ensures
