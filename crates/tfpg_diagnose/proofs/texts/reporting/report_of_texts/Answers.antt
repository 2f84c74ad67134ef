use Rattle.tfpg_diagnose.proofs.lemmas.texts.Opened.{engine_can_open}
use Rattle.tfpg_diagnose.proofs.lemmas.texts.Reported.{no_report_by, reports_can}
use Rattle.tfpg_diagnose.proofs.texts.reporting.report_of_texts.Goals as goal

pub returns-clause-can : goal.returns-clause-can
returns-clause-can c =
    reports_can c.args.graph_text.now c.args.terms c.args.log_text.now c.report_by.result (engine_can_open c.args.graph_text.now c.args.terms c.in_ok-engine.engine c.in_ok-engine.ensures.opened) c.report_by.ensures.few

pub returns-clause-fault : goal.returns-clause-fault
returns-clause-fault c =
    no_report_by c.args.graph_text.now c.args.terms c.args.log_text.now c.report_by.result (engine_can_open c.args.graph_text.now c.args.terms c.in_ok-engine.engine c.in_ok-engine.ensures.opened) c.report_by.ensures.fault
