use Rattle.std.proofs.Common.{List, sym, subst}
use Rattle.std.specs.Prelude.{OnOk}
use Rattle.tfpg_evidence.specs.declared.finding.Finding.{Finding}
use Rattle.tfpg_evidence.proofs.lemmas.FindingsByNumber.{finding_numbered-all}
use Rattle.tfpg_answers.specs.inside.Forecasting.{AddsForecasts, IsAskable}
use Rattle.tfpg_answers.proofs.lemmas.predict.Appended.{adds_none, found_none, found_one}
use Rattle.tfpg_answers.proofs.predict.forecasts.append_numbered.Goals as goal

pub append_forecast-requires-clause-askable : goal.append_forecast-requires-clause-askable
append_forecast-requires-clause-askable g c =
    finding_numbered-all (IsAskable c.args.query.now.graph.now) c.args.findings.now c.args.number _ c.requires.askable (sym c.in-Some.ensures)

pub returns-in-Some : goal.returns-in-Some
returns-in-Some g c =
    subst (λ (fs : List Finding). OnOk c.append_forecast.result (AddsForecasts c.args.query.now fs c.args.into.now.items c.append_forecast.new.into.items))
    (sym (found_one c.args.findings.now c.args.number _ (sym c.in-Some.ensures))) c.append_forecast.ensures

pub returns-in-None : goal.returns-in-None
returns-in-None g c =
    subst (λ (fs : List Finding). AddsForecasts c.args.query.now fs c.args.into.now.items c.args.into.now.items)
    (sym (found_none c.args.findings.now c.args.number (sym c.in-None.ensures))) (adds_none c.args.query.now c.args.into.now.items)
