use Rattle.tfpg_clause.proofs.lemmas.logs.SpanNumbers.{numbered_so, after_now}
use Rattle.tfpg_clause.proofs.lemmas.first_violated.MustsBySpan.{must_met_excused, must_met_late, must_met_before, must_met_before_window}
use Rattle.tfpg_clause.proofs.must_violated.first_overdue.Goals as goal

pub returns-in_err-overdue-clause-met : goal.returns-in_err-overdue-clause-met
returns-in_err-overdue-clause-met c =
    rw c.from_residual.ensures
    (must_met_excused c.args.graph.now c.args.log.now c.args.times.now c.args.must.now.node c.args.must.now.edges.now c.args.must.now.edge c.requires.must.due c.in_err-overdue.ensures)

pub returns-in_err-number-clause-met : goal.returns-in_err-number-clause-met
returns-in_err-number-clause-met c =
    rw c.from_residual-in_err-number.ensures
    (must_met_late c.args.graph.now c.args.log.now c.args.times.now c.args.must.now.node c.args.must.now.edges.now c.args.must.now.edge c.requires.must.due c.in_ok-overdue.overdue c.in_ok-overdue.ensures
    (after_now c.args.log.now c.in_ok-overdue.overdue c.in_err-number.ensures))

pub returns-in-Some-clause-met : goal.returns-in-Some-clause-met
returns-in-Some-clause-met c =
    must_met_before_window c.args.graph.now c.args.log.now c.args.times.now c.args.must.now.node c.args.must.now.edges.now c.args.must.now.edge c.requires.must.due c.in_ok-overdue.overdue
    c.in_ok-overdue.ensures c.in_ok-number.number c.now.result
    (numbered_so c.args.log.now c.in_ok-overdue.overdue c.in_ok-number.number c.in_ok-number.ensures).1 c.now.ensures.now c.in-Some.window
    c.in-Some.ensures.value

pub returns-in-None-clause-met : goal.returns-in-None-clause-met
returns-in-None-clause-met c =
    must_met_before c.args.graph.now c.args.log.now c.args.times.now c.args.must.now.node c.args.must.now.edges.now c.args.must.now.edge c.requires.must.due c.in_ok-overdue.overdue
    c.in_ok-overdue.ensures c.in_ok-number.number c.now.result
    (numbered_so c.args.log.now c.in_ok-overdue.overdue c.in_ok-number.number c.in_ok-number.ensures).1 c.now.ensures.now
    c.in-None.ensures.value
