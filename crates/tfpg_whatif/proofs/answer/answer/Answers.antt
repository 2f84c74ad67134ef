use Rattle.std.proofs.Common.{ap, ◌∙◌}
use Rattle.tfpg_log.specs.LogOfLines.{log_after_reply}
use Rattle.tfpg_whatif.proofs.lemmas.LastEvents.{alone_accepted}
use Rattle.tfpg_whatif.proofs.lemmas.Questioned.{asked_after}
use Rattle.tfpg_whatif.proofs.answer.answer.Goals as goal

pub outcomes_at-requires-clause-log : goal.outcomes_at-requires-clause-log
outcomes_at-requires-clause-log g c =
    asked_after c.args.asking.now c.graph.result.now c.in_ok-log.log c.offer.new.self c.in-Accepted.event c.graph.ensures c.offer.ensures.of (c.in_ok-log.ensures ∙ c.log.ensures.log)
    (c.in_ok-refusal.ensures.log ∙ ap (log_after_reply c.in_ok-log.log) c.in-Accepted.is)

pub outcomes_at-requires-clause-last : goal.outcomes_at-requires-clause-last
outcomes_at-requires-clause-last g c =
    alone_accepted c.args.asking.now c.alone-last.result c.in-Accepted.event c.alone-last.ensures.event c.alone-last.ensures.none c.in_ok-log.log c.offer.new.self c.in_ok-refusal.field-0
    c.in_ok-refusal.ensures.log c.in-Accepted.is
