use Rattle.tfpg_trace.proofs.lemmas.MustFaults.{must_by_some, must_by_all}
use Rattle.tfpg_trace.proofs.due.due_in_span.Goals as goal

pub returns-in-Or : goal.returns-in-Or
returns-in-Or c log number starts =
    must_by_some c.args.graph.now log c.args.trace.now c.args.start.now.node c.args.start.now.span.lo c.args.start.now.span.hi c.in-Or.lag c.due_by_some.result
    c.in-Or.ensures (c.due_by_some.ensures log number starts)

pub returns-in-And : goal.returns-in-And
returns-in-And c log number starts =
    must_by_all c.args.graph.now log c.args.trace.now c.args.start.now.node c.args.start.now.span.lo c.args.start.now.span.hi c.in-And.lag c.due_by_all.result
    c.in-And.ensures (c.due_by_all.ensures log number starts)
