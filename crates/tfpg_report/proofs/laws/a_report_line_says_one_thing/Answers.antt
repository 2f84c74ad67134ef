use Rattle.tfpg_report.proofs.lemmas.reading.LinesSay.{one_line}
use Rattle.tfpg_report.proofs.laws.a_report_line_says_one_thing.Goals as goal

pub returns : goal.returns
returns c = λ graph line other bytes valid says too. one_line graph valid bytes line other says too
