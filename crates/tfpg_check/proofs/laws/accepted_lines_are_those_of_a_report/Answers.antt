use Rattle.tfpg_check.proofs.lemmas.WholeReports.{one_more_read, whole_report}
use Rattle.tfpg_check.proofs.laws.accepted_lines_are_those_of_a_report.Goals as goal

pub returns-clause-next : goal.returns-clause-next
returns-clause-next c = one_more_read

pub returns-clause-whole : goal.returns-clause-whole
returns-clause-whole c = whole_report
