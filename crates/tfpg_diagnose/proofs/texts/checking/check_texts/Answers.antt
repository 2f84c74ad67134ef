use Rattle.tfpg_diagnose.specs.texts.Checks.{checked_texts}
use Rattle.tfpg_diagnose.proofs.lemmas.JudgedReports.{CheckLaws}
use Rattle.tfpg_diagnose.proofs.lemmas.texts.Opened.{OpenLaws}
use Rattle.tfpg_diagnose.proofs.lemmas.texts.Judged.{accepts_right, refuses_text}
use Rattle.tfpg_diagnose.proofs.texts.checking.check_texts.Goals as goal

pub returns-clause-accepts : goal.returns-clause-accepts
returns-clause-accepts c can =
    let opening : OpenLaws = record {
      no_fault = c.a_text_has_at_most_one_first_fault.ensures.none;
      one_fault = c.a_text_has_at_most_one_first_fault.ensures.one;
      one_count = c.the_table_is_one.ensures.count;
    } in
    let laws : CheckLaws = record {
      no_cause = c.lines_have_at_most_one_cause.ensures.none;
      one_cause = c.lines_have_at_most_one_cause.ensures.one;
      too_many = c.lines_have_at_most_one_cause.ensures.too_many;
      one_line = c.a_report_line_says_one_thing.ensures;
    } in
    accepts_right (checked_texts c.args.graph_text.now c.args.log_text.now c.args.report_text.now) opening laws c.judge_texts.result can c.judge_texts.ensures.fault

pub returns-clause-refuses : goal.returns-clause-refuses
returns-clause-refuses c fault can =
    let opening : OpenLaws = record {
      no_fault = c.a_text_has_at_most_one_first_fault.ensures.none;
      one_fault = c.a_text_has_at_most_one_first_fault.ensures.one;
      one_count = c.the_table_is_one.ensures.count;
    } in
    let laws : CheckLaws = record {
      no_cause = c.lines_have_at_most_one_cause.ensures.none;
      one_cause = c.lines_have_at_most_one_cause.ensures.one;
      too_many = c.lines_have_at_most_one_cause.ensures.too_many;
      one_line = c.a_report_line_says_one_thing.ensures;
    } in
    refuses_text (checked_texts c.args.graph_text.now c.args.log_text.now c.args.report_text.now) opening laws c.judge_texts.result c.judge_texts.ensures.accepted c.judge_texts.ensures.short c.judge_texts.ensures.fault fault can
