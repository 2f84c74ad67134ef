use Rattle.std.proofs.Common.{Some, length, refl, sym, subst, ◌∙◌}
use Rattle.std.proofs.lemmas.Bool.{ltb-true, ltb-false}
use Rattle.std.specs.Prelude.{flat_map}
use Rattle.tfpg_base.specs.declared.limits.TheConstants.{LONGEST_LINE}
use Rattle.tfpg_graph.specs.Valid.{IsValid}
use Rattle.tfpg_check.specs.Report.{rounds_of}
use Rattle.tfpg_diagnose.proofs.lemmas.Diagnosed.{long_line_diagnosed, refused_line_diagnosed, accepted_line_diagnosed}
use Rattle.tfpg_diagnose.proofs.lemmas.LineBlocks.{brings_refusal, brings_round, round_says}
use Rattle.tfpg_diagnose.proofs.diagnosis.Diagnosis.take.Goals as goal

pub returns-then-is_too_long : goal.returns-then-is_too_long
returns-then-is_too_long g c = λ graph terms lines has number_is.
    long_line_diagnosed graph terms lines c.args.line.now c.args.self.now c.args.self.now c.args.number has number_is (ltb-true LONGEST_LINE (length c.args.line.now) (sym c.is_too_long.ensures ∙ c.if-is_too_long.true)) refl refl

pub returns-in-Refused : goal.returns-in-Refused
returns-in-Refused g c = λ graph terms lines has number_is.
    let rounds = flat_map rounds_of has.blocks in
    let brings = brings_refusal c.args.number c.args.line.now rounds c.in-Refused.field-0 c.args.self.now.engine c.event.new.self c.in_ok-event.field-0 c.in-Refused.is
    (c.in_ok-event.ensures.brings rounds has.reports.represents) in
    refused_line_diagnosed graph terms lines c.args.line.now c.args.self.now (record { engine = c.event.new.self; last = c.args.self.now.last }) c.args.number has number_is (ltb-false LONGEST_LINE (length c.args.line.now) (sym c.is_too_long.ensures ∙ c.if-is_too_long.false))
    c.in-Refused.field-0 brings.0 brings.1 refl

pub returns-in-Round : goal.returns-in-Round
returns-in-Round g c = λ graph terms lines has number_is.
    let rounds = flat_map rounds_of has.blocks in
    let gives = brings_round c.args.number c.args.line.now rounds c.in-Round.round c.args.self.now.engine c.event.new.self c.in_ok-event.field-0 c.in-Round.is
    (c.in_ok-event.ensures.brings rounds has.reports.represents) in
    let says = round_says c.args.number c.args.line.now rounds c.in-Round.round c.args.self.now.engine c.event.new.self gives c.in_ok-event.ensures.graph c.log.result.now c.log.ensures.log c.log.ensures.of
    (subst IsValid (sym has.reports.graph_is) has.valid) c.is_always_ordered.ensures c.rounds_say_which_sets_fit.ensures c.statuses_are_those_of_minimal_sets.ensures in
    accepted_line_diagnosed graph terms lines c.args.line.now c.args.self.now (record { engine = c.event.new.self; last = Some c.in-Round.round }) c.args.number has number_is (ltb-false LONGEST_LINE (length c.args.line.now) (sym c.is_too_long.ensures ∙ c.if-is_too_long.false))
    c.in-Round.round gives says c.in_ok-event.ensures.graph c.in_ok-event.ensures.terms refl
