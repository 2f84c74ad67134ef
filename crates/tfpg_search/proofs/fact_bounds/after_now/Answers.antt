-- Now is in range.
use Rattle.std.proofs.Common.{arith}
use Rattle.tfpg_clause.proofs.lemmas.logs.TimesInRange.{now_in_range}
use Rattle.tfpg_search.proofs.lemmas.facts.StatedBounds.{low_by_now}
use Rattle.tfpg_search.proofs.fact_bounds.after_now.Goals as goal

pub overflow_add-result : goal.overflow_add-result
overflow_add-result c = omega (arith, now_in_range c.args.log.now c.is_always_ordered.ensures, c.now-now.ensures)

pub returns-clause-in_range : goal.returns-clause-in_range
returns-clause-in_range c = omega (arith, now_in_range c.args.log.now c.is_always_ordered.ensures, c.now-now.ensures)

pub returns-clause-greatest : goal.returns-clause-greatest
returns-clause-greatest c graph reach other bound is =
    omega (arith, c.now-now.ensures, low_by_now graph c.args.log.now reach c.args.node c.is_always_ordered.ensures other bound is)
