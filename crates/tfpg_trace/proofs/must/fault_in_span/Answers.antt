use Rattle.std.proofs.Common.{sym, subst}
use Rattle.std.proofs.lemmas.Bool.{both_ways}
use Rattle.tfpg_trace.specs.inside.FirstFaultIn.{IsFirstFaultIn}
use Rattle.tfpg_trace.proofs.lemmas.MustFaults.{never_due, in_time, first_fault}
use Rattle.tfpg_trace.proofs.must.fault_in_span.Goals as goal

pub returns-in_err-due : goal.returns-in_err-due
returns-in_err-due c log number starts =
    subst (IsFirstFaultIn c.args.graph.now log c.args.trace.now c.args.start.now.node number) (sym c.from_residual.ensures)
    (never_due c.args.graph.now log c.args.trace.now c.args.start.now.node number c.args.start.now.span starts.here
    (c.in_err-due.ensures log number starts))

pub returns-then-is_active : goal.returns-then-is_active
returns-then-is_active c log number starts =
    in_time c.args.graph.now log c.args.trace.now c.args.start.now.node number c.args.start.now.span starts.here c.in_ok-due.due
    (c.in_ok-due.ensures log number starts)
    (c.is_active.ensures.0 c.if-is_active.true)

pub returns : goal.returns
returns c log number starts =
    first_fault c.args.graph.now log c.args.trace.now c.args.start.now.node number c.args.start.now.span starts.here c.in_ok-due.due
    (c.in_ok-due.ensures log number starts)
    (λ active. both_ways c.is_active.result c.if-is_active.false (c.is_active.ensures.1 active))
