use Rattle.std.proofs.Common.{sym, ◌∙◌, arith}
use Rattle.tfpg_log.proofs.lemmas.events.SilenceTimes.{last_is_latest}
use Rattle.tfpg_clause.proofs.lemmas.logs.TimesInRange.{now_in_range}
use Rattle.tfpg_search.proofs.lemmas.facts.StatedBounds.{quiet_by_now}
use Rattle.tfpg_search.proofs.fact_bounds.last_quiet.Goals as goal

pub returns-clause-last : goal.returns-clause-last
returns-clause-last c =
    let here = sym c.quiet_at.ensures ∙ c.in_ok-until.was in (
      here,
      λ number until also. last_is_latest c.args.graph.now c.args.log.now c.args.node c.in_ok-event.event c.in_ok-event.ensures c.is_always_ordered.ensures
          c.in_ok-until.until number until here also,
    )

pub returns-clause-in_range : goal.returns-clause-in_range
returns-clause-in_range c =
    omega (
      arith,
      quiet_by_now c.args.graph.now c.args.log.now c.args.node c.in_ok-event.event c.in_ok-until.until c.is_always_ordered.ensures (sym c.quiet_at.ensures ∙ c.in_ok-until.was),
      now_in_range c.args.log.now c.is_always_ordered.ensures,
    )
