-- The last alarm says most.
use Rattle.std.proofs.Common.{arith, subst}
use Rattle.tfpg_log.specs.LastAlarm.{IsLastAlarm}
use Rattle.tfpg_clause.proofs.lemmas.logs.TimesInRange.{now_in_range}
use Rattle.tfpg_search.proofs.lemmas.facts.StatedBounds.{left_by_now, low_of_last}
use Rattle.tfpg_search.proofs.fact_bounds.after_alarm.Goals as goal

pub returns-in-Some-clause-greatest : goal.returns-in-Some-clause-greatest
returns-in-Some-clause-greatest c =
    low_of_last c.args.graph.now c.args.log.now c.args.node c.in-Some.event c.in-Some.interval c.in-Some.ensures.1 c.is_always_ordered.ensures
    (subst (IsLastAlarm c.args.log.now c.args.node) c.in-Some.ensures.0 c.last_alarm.ensures)

pub returns-in-Some-clause-in_range : goal.returns-in-Some-clause-in_range
returns-in-Some-clause-in_range c =
    omega (
      arith,
      left_by_now c.args.graph.now c.args.log.now c.args.node c.in-Some.event c.in-Some.interval c.in-Some.ensures.1 c.is_always_ordered.ensures,
      now_in_range c.args.log.now c.is_always_ordered.ensures,
    )
