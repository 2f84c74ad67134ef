use Rattle.std.proofs.Common.{refl, ◌∙◌}
use Rattle.tfpg_whatif.proofs.lemmas.LastEvents.{known_before}
use Rattle.tfpg_whatif.proofs.lemmas.Questioned.{next_lent, asked_after}
use Rattle.tfpg_whatif.proofs.question_of.outcomes_after.Goals as goal

pub add-requires-clause-next : goal.add-requires-clause-next
add-requires-clause-next g c =
    next_lent c.args.asking.now.engine.now.graph c.graph.result.now c.args.asking.now.engine.now.log c.log.result.now c.in_ok-log.log c.args.event
    c.graph.ensures c.log.ensures.log c.in_ok-log.ensures c.requires.next

pub outcomes_at-requires-clause-log : goal.outcomes_at-requires-clause-log
outcomes_at-requires-clause-log g c =
    asked_after c.args.asking.now c.graph.result.now c.in_ok-log.log c.add.new.self c.args.event c.graph.ensures c.add.ensures.of (c.in_ok-log.ensures ∙ c.log.ensures.log) c.in_ok-add.ensures.ok

pub outcomes_at-requires-clause-last : goal.outcomes_at-requires-clause-last
outcomes_at-requires-clause-last g c =
    known_before c.args.asking.now (record { event = c.args.event; before = c.args.before }) c.in_ok-log.log c.add.new.self c.args.event c.args.before.now refl refl c.in_ok-add.ensures.ok
    (c.in_ok-log.ensures ∙ c.log.ensures.log) c.requires.before c.requires.at_now
