use Rattle.tfpg_check.proofs.lemmas.readable.ReadReports.{lines_can_be_read}
use Rattle.tfpg_check.proofs.laws.the_lines_of_a_report_can_be_read.Goals as goal

pub returns : goal.returns
returns c = lines_can_be_read c.a_round_is_of_its_graph.ensures c.a_report_is_read_in_its_order.ensures.report
