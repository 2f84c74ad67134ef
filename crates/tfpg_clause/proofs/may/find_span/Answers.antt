use Rattle.tfpg_clause.proofs.lemmas.logs.TimesInRange.{small_span_if}
use Rattle.tfpg_clause.proofs.may.find_span.Goals as goal

pub returns-clause-small : goal.returns-clause-small
returns-clause-small c =
    small_span_if c.args.site.now.log.now c.args.site.now.span c.args.site.now.horizon c.span.result c.is_always_ordered.ensures c.span.ensures
