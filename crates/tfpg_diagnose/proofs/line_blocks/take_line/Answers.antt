use Rattle.std.proofs.Common.{length, refl, sym, ◌∙◌}
use Rattle.std.proofs.lemmas.Bool.{ltb-true, ltb-false}
use Rattle.tfpg_base.specs.declared.limits.TheConstants.{LONGEST_LINE}
use Rattle.tfpg_diagnose.proofs.lemmas.LineBlocks.{brings_refusal, brings_round, counts_refusal, counts_round, long_brought, refusal_brought, round_brought, round_is_of_graph, round_says}
use Rattle.tfpg_diagnose.proofs.line_blocks.take_line.Goals as goal

pub returns-then-is_too_long-clause-brings : goal.returns-then-is_too_long-clause-brings
returns-then-is_too_long-clause-brings g c graph terms before reports =
    long_brought graph terms before c.args.number c.args.text.now c.args.engine.now (ltb-true LONGEST_LINE (length c.args.text.now) (sym c.is_too_long.ensures ∙ c.if-is_too_long.true)) reports c.args.work.now

pub returns-in-Refused-clause-brings : goal.returns-in-Refused-clause-brings
returns-in-Refused-clause-brings g c graph terms before reports =
    let short = ltb-false LONGEST_LINE (length c.args.text.now) (sym c.is_too_long.ensures ∙ c.if-is_too_long.false) in
    let brings = brings_refusal c.args.number c.args.text.now before.rounds c.in-Refused.refusal c.args.engine.now c.event.new.self c.in_ok-refusal.field-0 c.in-Refused.is
    (c.in_ok-refusal.ensures.brings before.rounds reports.represents) in
    refusal_brought graph terms before c.args.number c.args.text.now c.args.engine.now c.event.new.self short reports c.args.work.now c.event.new.work c.in-Refused.refusal brings.0 brings.1
    (counts_refusal c.event.new.self before.rounds c.in-Refused.refusal c.in_ok-refusal.field-0 c.args.work.now c.event.new.work c.in-Refused.is (c.in_ok-refusal.ensures.work before.rounds reports.represents))

pub returns-in-Round-clause-of_graph : goal.returns-in-Round-clause-of_graph
returns-in-Round-clause-of_graph g c =
    let rounds = c.requires.rounds in
    let gives = brings_round c.args.number c.args.text.now rounds c.in-Round.round c.args.engine.now c.event.new.self c.in_ok-refusal.field-0 c.in-Round.is (c.in_ok-refusal.ensures.brings rounds c.requires.represents) in
    round_is_of_graph c.args.number c.args.text.now rounds c.in-Round.round c.args.engine.now c.event.new.self gives c.in_ok-refusal.ensures.graph c.log.result.now c.log.ensures.log c.log.ensures.of
    c.event.new.self.graph refl c.a_round_is_of_its_graph.ensures

pub returns-in-Round-clause-brings : goal.returns-in-Round-clause-brings
returns-in-Round-clause-brings g c graph terms before reports =
    let short = ltb-false LONGEST_LINE (length c.args.text.now) (sym c.is_too_long.ensures ∙ c.if-is_too_long.false) in
    let rounds = before.rounds in
    let gives = brings_round c.args.number c.args.text.now rounds c.in-Round.round c.args.engine.now c.event.new.self c.in_ok-refusal.field-0 c.in-Round.is (c.in_ok-refusal.ensures.brings rounds reports.represents) in
    let says = round_says c.args.number c.args.text.now rounds c.in-Round.round c.args.engine.now c.event.new.self gives c.in_ok-refusal.ensures.graph c.log.result.now c.log.ensures.log c.log.ensures.of
    c.requires.valid c.is_always_ordered.ensures c.rounds_say_which_sets_fit.ensures c.statuses_are_those_of_minimal_sets.ensures in
    round_brought graph terms before c.args.number c.args.text.now c.args.engine.now c.event.new.self short reports c.args.work.now c.event.new.work c.in-Round.round gives says
    c.in_ok-refusal.ensures.graph c.in_ok-refusal.ensures.terms
    (counts_round c.event.new.self rounds c.in-Round.round c.in_ok-refusal.field-0 c.args.work.now c.event.new.work c.in-Round.is (c.in_ok-refusal.ensures.work rounds reports.represents))
