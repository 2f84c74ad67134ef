use Rattle.tfpg_check.proofs.lemmas.completeness.ReportsRead.{reports_have_no_cause}
use Rattle.tfpg_check.proofs.laws.a_report_has_no_cause.Goals as goal

pub returns : goal.returns
returns c = reports_have_no_cause c.a_report_line_says_one_thing.ensures
