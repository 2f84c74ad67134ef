use Rattle.tfpg_answers.proofs.lemmas.predict.Appended.{adds_if}
use Rattle.tfpg_answers.proofs.lemmas.predict.NamedOutlooks.{named_in_query}
use Rattle.tfpg_answers.proofs.predict.forecasts.append_forecast.Goals as goal

pub append_outlook-requires-clause-named : goal.append_outlook-requires-clause-named
append_outlook-requires-clause-named g c =
    named_in_query c.args.query.now c.requires.query c.args.finding.now c.requires.askable c.in_ok-outlook.outlook c.in_ok-outlook.ensures

pub returns : goal.returns
returns g c =
    adds_if c.args.query.now c.append_outlook.result c.args.finding.now c.in_ok-outlook.outlook c.args.into.now.items c.append_outlook.new.into.items c.in_ok-outlook.ensures c.append_outlook.ensures
