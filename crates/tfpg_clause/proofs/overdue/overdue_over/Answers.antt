use Rattle.std.proofs.Common.{sym, arith}
use Rattle.tfpg_clause.proofs.lemmas.first_violated.Excuses.{excused_without, excused_in_time, excused_before}
use Rattle.tfpg_clause.proofs.overdue.overdue_over.Goals as goal

pub returns-in_err-tmax : goal.returns-in_err-tmax
returns-in_err-tmax c =
    rw c.from_residual.ensures
    (excused_without c.args.graph.now c.args.times.now c.args.edge c.edge_of-propagation.result c.edge_of-propagation.ensures.value
    (sym c.in_err-tmax.was))

pub returns-then-time_of-overdue : goal.returns-then-time_of-overdue
returns-then-time_of-overdue c =
    excused_in_time c.args.graph.now c.args.times.now c.args.edge c.edge_of-propagation.result c.edge_of-propagation.ensures.value c.in_ok-tmax.tmax c.in_ok-tmax.was
    (omega (arith, c.if-time_of-overdue.true, c.time_of.ensures.time, c.time_of-2.ensures.time))

pub returns : goal.returns
returns c hi before =
    excused_before c.args.graph.now c.args.times.now c.args.edge c.edge_of-propagation.result c.edge_of-propagation.ensures.value c.in_ok-tmax.tmax c.in_ok-tmax.was hi
    (omega (arith, before, c.time_of.ensures.time))
