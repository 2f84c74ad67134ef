use Rattle.std.proofs.Common.{sym, ◌∙◌}
use Rattle.tfpg_clause.specs.inside.Alternatives.{due_seen, due_by_number}
use Rattle.tfpg_clause.proofs.lemmas.alternatives.Dues.{latest_more, latest_missing, latest_over}
use Rattle.tfpg_clause.proofs.must.latest_due.Goals as goal

pub returns-in_err-due-clause-value : goal.returns-in_err-due-clause-value
returns-in_err-due-clause-value c =
    let f = due_by_number c.args.site.now.graph.now c.args.site.now.log.now c.args.site.now.span c.args.site.now.horizon in
    c.from_residual.ensures ∙ sym
    (latest_missing f c.args.edges.now c.loop-index.index c.args.hi c.loop-index-test.true c.in_err-due.ensures.value)

pub returns-then-due-hi-clause-value : goal.returns-then-due-hi-clause-value
returns-then-due-hi-clause-value c =
    let f = due_by_number c.args.site.now.graph.now c.args.site.now.log.now c.args.site.now.span c.args.site.now.horizon in
    sym
    (latest_over f c.args.edges.now c.loop-index.index c.args.hi c.loop-index-test.true
    (due_seen c.in_ok-due.due) c.in_ok-due.ensures.value c.if-due-hi.true)

pub loop-index-preserved : goal.loop-index-preserved
loop-index-preserved c =
    let f = due_by_number c.args.site.now.graph.now c.args.site.now.log.now c.args.site.now.span c.args.site.now.horizon in
    rw c.max-latest.ensures
    (latest_more f c.args.edges.now c.loop-index.index c.args.hi c.loop-index-test.true c.loop-index.latest
    (due_seen c.in_ok-due.due) c.in_ok-due.ensures.value c.if-due-hi.false c.loop-index.invariant)
