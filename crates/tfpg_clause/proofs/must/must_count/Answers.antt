use Rattle.std.proofs.Common.{sym}
use Rattle.tfpg_clause.specs.inside.Alternatives.{due_by_number}
use Rattle.tfpg_clause.proofs.lemmas.alternatives.Dues.{must_counted}
use Rattle.tfpg_clause.proofs.must.must_count.Goals as goal

pub returns : goal.returns
returns c target =
    must_counted
    (due_by_number c.args.site.now.graph.now c.args.site.now.log.now c.args.site.now.span c.args.site.now.horizon) c.args.edges.now target c.args.site.now.span c.in_ok-latest_due.field-0 c.args.window
    c.if-window-site.false (sym c.in_ok-latest_due.ensures.value)
