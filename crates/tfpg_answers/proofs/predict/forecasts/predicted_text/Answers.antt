use Rattle.std.proofs.Common.{ℕ, List, ◌++◌, ap, subst, ◌∙◌, arith}
use Rattle.tfpg_log.specs.Log.{Logbook, IsLogOf}
use Rattle.tfpg_predict.specs.LeastTime.{lookahead_of}
use Rattle.tfpg_predict.specs.Probed.{IsProbeable}
use Rattle.tfpg_answers.specs.Forecasts.{predict_line, time_ahead}
use Rattle.tfpg_answers.proofs.lemmas.predict.Predictions.{last_askable, last_rising, now_upto, predicted_last, probeable_at}
use Rattle.tfpg_answers.proofs.predict.forecasts.predicted_text.Goals as goal

pub time_ahead-to-requires-clause-now : goal.time_ahead-to-requires-clause-now
time_ahead-to-requires-clause-now g c = omega (arith, c.now-now.ensures, now_upto c.log-log.result.now c.is_always_ordered.ensures)

pub append_forecasts-requires-clause-probeable : goal.append_forecasts-requires-clause-probeable
append_forecasts-requires-clause-probeable g c =
    subst (λ (log : Logbook). IsProbeable (lookahead_of c.args.diagnosis.now.engine.graph log c.args.node c.time_ahead-to.result)) c.log-log.ensures.log
    (probeable_at c.args.diagnosis.now.engine.graph c.log-log.result.now c.args.node c.args.asked.now.ahead c.time_ahead-to.result c.requires.probe c.log-log.ensures.of c.is_always_ordered.ensures
    (c.time_ahead-to.ensures ∙ ap (λ (n : ℕ). time_ahead n c.args.asked.now.ahead) c.now-now.ensures))

pub append_forecasts-requires-clause-askable : goal.append_forecasts-requires-clause-askable
append_forecasts-requires-clause-askable g c =
    last_askable c.args.diagnosis.now.engine.graph c.args.diagnosis.now.engine.terms c.requires.diagnosed.0 c.args.diagnosis.now c.requires.diagnosed.1 _ c.in-Some.is

pub append_forecasts-requires-clause-rising : goal.append_forecasts-requires-clause-rising
append_forecasts-requires-clause-rising g c =
    let graph = c.args.diagnosis.now.engine.graph in
    let has = c.requires.diagnosed.1 in
    last_rising c.a_round_is_of_its_graph.ensures graph c.args.diagnosis.now.engine.terms c.requires.diagnosed.0 c.args.diagnosis.now has
    (subst (IsLogOf graph) (c.log-log.ensures.log ∙ has.reports.log_is) c.log-log.ensures.of) _ c.in-Some.is

pub returns-in_ok-append_forecasts-in-Some : goal.returns-in_ok-append_forecasts-in-Some
returns-in_ok-append_forecasts-in-Some g c = λ lines has.
    let d = c.args.diagnosis.now in
    let asked = c.args.asked.now in
    let to_is = c.time_ahead-to.ensures ∙ ap (λ (n : ℕ). time_ahead n asked.ahead) c.now-now.ensures in
    let old : List ℕ = c.append_predict_line.new.into.items in
    let text : List ℕ = c.append_forecasts.new.into.items in
    predicted_last d.engine.graph d.engine.terms lines d has asked c.args.node c.log-log.result.now (c.log-log.ensures.log ∙ has.reports.log_is) _ old text d.engine.log c.time_ahead-to.result c.in-Some.is
    (c.in_ok-append_predict_line.ensures ∙ (λ i. c.new-text.ensures.items i ++ predict_line asked.node.now (c.now-now.ensures i) (to_is i)))
    c.log-log.ensures.log to_is c.in_ok-append_forecasts-in-Some.ensures
