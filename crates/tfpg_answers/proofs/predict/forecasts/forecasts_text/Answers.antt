use Rattle.tfpg_diagnose.proofs.lemmas.CountedHypotheses.{counted_when_made}
use Rattle.tfpg_answers.proofs.lemmas.Counted.{counted_without_diagnosis, counted_without_memory}
use Rattle.tfpg_answers.proofs.predict.forecasts.forecasts_text.Goals as goal

pub returns-in_err-diagnosis-clause-too_many : goal.returns-in_err-diagnosis-clause-too_many
returns-in_err-diagnosis-clause-too_many g c =
    counted_without_diagnosis c.args.graph c.args.asked.now.terms c.from_residual.result c.in_err-diagnosis.field-0.0 c.from_residual.ensures.1 c.in_err-diagnosis.ensures.too_many

pub returns-in_err-forecasts_after-clause-too_many : goal.returns-in_err-forecasts_after-clause-too_many
returns-in_err-forecasts_after-clause-too_many g c =
    counted_without_memory c.args.graph c.args.asked.now.terms c.from_residual-in_err-forecasts_after.result c.in_ok-diagnosis.diagnosis c.in_ok-diagnosis.ensures.too_many
    c.from_residual-in_err-forecasts_after.ensures.1

pub returns-clause-too_many : goal.returns-clause-too_many
returns-clause-too_many g c = counted_when_made c.args.graph c.args.asked.now.terms c.in_ok-diagnosis.diagnosis _ c.in_ok-diagnosis.ensures.too_many
