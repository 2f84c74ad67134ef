-- The first alarm says most.
use Rattle.std.proofs.Common.{sym, ◌∙◌, arith, ◌⊎◌, ◌≡◌, true, None, Option, ℕ, subst}
use Rattle.tfpg_log.specs.Log.{is_ignored}
use Rattle.tfpg_clause.proofs.lemmas.logs.TimesInRange.{now_in_range}
use Rattle.tfpg_search.proofs.lemmas.facts.StatedBounds.{left_by_now, high_of_first, high_of_none, first_there}
use Rattle.tfpg_search.proofs.fact_bounds.high.Goals as goal

pub left_by-requires : goal.left_by-requires
left_by-requires c = first_there c.args.graph.now c.args.log.now c.args.node c.alarm_event.result c.alarm_event.ensures

pub returns-in-Some-clause-least : goal.returns-in-Some-clause-least
returns-in-Some-clause-least c reach other bound is =
    high_of_first c.args.graph.now c.args.log.now c.args.node c.in-Some.event c.in-Some.interval c.in-Some.ensures.1 reach c.is_always_ordered.ensures
    (sym c.alarm_event.ensures ∙ c.in-Some.ensures.0) other bound is

pub returns-in-Some-clause-in_range : goal.returns-in-Some-clause-in_range
returns-in-Some-clause-in_range c =
    omega (
      arith,
      left_by_now c.args.graph.now c.args.log.now c.args.node c.in-Some.event c.in-Some.interval c.in-Some.ensures.1 c.is_always_ordered.ensures,
      now_in_range c.args.log.now c.is_always_ordered.ensures,
    )

pub returns-in-None-clause-least : goal.returns-in-None-clause-least
returns-in-None-clause-least c reach other bound is =
    let nothing = subst (λ (first : Option ℕ). (first ≡ None) ⊎ (is_ignored c.args.log.now c.args.node ≡ true)) c.alarm_event.ensures c.in-None.ensures in
    omega (arith, high_of_none c.args.graph.now c.args.log.now c.args.node nothing reach other bound is)
