use Rattle.std.proofs.Common.{sym, subst, subst₂}
use Rattle.std.specs.Prelude.{◌≤◌, IfOk}
use Rattle.tfpg_base.specs.declared.terms.Terms.{Terms}
use Rattle.tfpg_base.specs.Lines.{lines_of}
use Rattle.tfpg_graph.specs.Graph.{Tfpg}
use Rattle.tfpg_answers.specs.Probing.{CanForecast}
use Rattle.tfpg_answers.specs.Forecasts.{HasForecasts, prediction}
use Rattle.tfpg_diagnose.proofs.lemmas.Diagnosed.{own_diagnosed}
use Rattle.tfpg_answers.proofs.predict.forecasts.forecasts_after.Goals as goal

pub predicted_text-requires-clause-diagnosed : goal.predicted_text-requires-clause-diagnosed
predicted_text-requires-clause-diagnosed g c =
    let graph = c.args.diagnosis.now.engine.graph in
    let terms = c.args.diagnosis.now.engine.terms in
    (lines_of c.args.log_text.now, own_diagnosed graph terms (lines_of c.args.log_text.now) c.take_text.new.self (c.in_ok-take_text.ensures graph terms c.requires.new))

pub predicted_text-requires-clause-budget : goal.predicted_text-requires-clause-budget
predicted_text-requires-clause-budget g c =
    let has = c.in_ok-take_text.ensures c.args.diagnosis.now.engine.graph c.args.diagnosis.now.engine.terms c.requires.new in
    subst (λ (terms : Terms). 1 ≤ terms.budget) (sym has.reports.terms_is) c.requires.budget

pub predicted_text-requires-clause-probe : goal.predicted_text-requires-clause-probe
predicted_text-requires-clause-probe g c =
    let has = c.in_ok-take_text.ensures c.args.diagnosis.now.engine.graph c.args.diagnosis.now.engine.terms c.requires.new in
    subst (λ (graph : Tfpg). CanForecast graph c.args.node c.args.asked.now.ahead) (sym has.reports.graph_is) c.requires.probe

pub returns : goal.returns
returns g c =
    let graph = c.args.diagnosis.now.engine.graph in
    let terms = c.args.diagnosis.now.engine.terms in
    let lines = lines_of c.args.log_text.now in
    let has = c.in_ok-take_text.ensures graph terms c.requires.new in
    subst₂ (λ (x : Tfpg) (y : Terms). IfOk c.predicted_text.result (λ text. HasForecasts x (prediction y c.args.asked.now.ahead c.args.asked.now.node.now) c.args.node lines text.items))
    has.reports.graph_is has.reports.terms_is (c.predicted_text.ensures lines (own_diagnosed graph terms lines c.take_text.new.self has))
