use Rattle.tfpg_check.proofs.lemmas.completeness.OneCause.{lines_have_one_cause}
use Rattle.tfpg_check.proofs.lemmas.completeness.TooManyInHead.{lines_of_too_many_have_no_cause}
use Rattle.tfpg_check.proofs.lemmas.readable.ReadReports.{short_reports_have_no_cause}
use Rattle.tfpg_check.proofs.laws.lines_have_at_most_one_cause.Goals as goal

pub returns-clause-one : goal.returns-clause-one
returns-clause-one c = lines_have_one_cause c.a_partial_tree_has_one_present_leaf.ensures.only_one c.a_refutation_is_finished.ensures c.a_report_line_says_one_thing.ensures

pub returns-clause-none : goal.returns-clause-none
returns-clause-none c = short_reports_have_no_cause c.a_report_line_says_one_thing.ensures c.a_round_is_of_its_graph.ensures c.a_report_is_read_in_its_order.ensures.report

pub returns-clause-too_many : goal.returns-clause-too_many
returns-clause-too_many c = lines_of_too_many_have_no_cause c.a_report_line_says_one_thing.ensures
