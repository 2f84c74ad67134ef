use Rattle.std.proofs.Common.{refl}
use Rattle.tfpg_diagnose.specs.JudgedReports.{problem_of}
use Rattle.tfpg_diagnose.proofs.lemmas.JudgedReports.{new_judge}
use Rattle.tfpg_diagnose.proofs.report_lines.judge_report.Goals as goal

pub returns-clause-accepted : goal.returns-clause-accepted
returns-clause-accepted g c =
    let problem = problem_of c.args.graph (g.T.LogText.text c.args.log_text) in
    c.judge_lines.ensures.accepted problem (new_judge c.args.graph (g.T.LogText.text c.args.log_text) c.by-judge.result c.is_always_valid.ensures.valid c.requires (c.by-judge.ensures.represents problem refl refl))

pub returns-clause-stopped : goal.returns-clause-stopped
returns-clause-stopped g c =
    let problem = problem_of c.args.graph (g.T.LogText.text c.args.log_text) in
    c.judge_lines.ensures.stopped problem (new_judge c.args.graph (g.T.LogText.text c.args.log_text) c.by-judge.result c.is_always_valid.ensures.valid c.requires (c.by-judge.ensures.represents problem refl refl))
