use Rattle.tfpg_clause.proofs.lemmas.first_violated.Excuses.{excused_by_one, excused_before_later}
use Rattle.tfpg_clause.proofs.overdue.overdue_from.Goals as goal

pub loop-edge-preserved : goal.loop-edge-preserved
loop-edge-preserved c =
    rw c.max-latest.ensures
    (excused_before_later c.args.graph.now c.args.times.now c.args.edges.now c.loop-edge.edge-index c.loop-edge.latest c.in_ok-overdue.overdue c.loop-edge-test.true c.loop-edge.invariant
    c.in_ok-overdue.ensures)

pub returns-in_err-overdue : goal.returns-in_err-overdue
returns-in_err-overdue c =
    rw c.from_residual.ensures
    (λ hi. excused_by_one c.args.graph.now c.args.times.now c.args.edges.now c.loop-edge.edge-index c.loop-edge-test.true hi
    (c.in_err-overdue.ensures hi))
