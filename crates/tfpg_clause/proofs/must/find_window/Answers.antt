use Rattle.std.proofs.Common.{slice_get}
use Rattle.tfpg_clause.proofs.lemmas.logs.TimesInRange.{small_window_if}
use Rattle.tfpg_clause.proofs.must.find_window.Goals as goal

pub returns-clause-small : goal.returns-clause-small
returns-clause-small c =
    small_window_if c.args.site.now.log.now
    (slice_get c.args.site.now.graph.now.edges c.args.edge) c.args.site.now.span c.args.site.now.horizon c.window_of.result c.is_always_ordered.ensures c.window_of.ensures
