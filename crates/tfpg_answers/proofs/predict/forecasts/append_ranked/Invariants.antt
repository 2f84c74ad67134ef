use Rattle.std.proofs.Common.{take}
use Rattle.tfpg_evidence.specs.Findings.{findings_at}
use Rattle.tfpg_answers.specs.inside.Forecasting.{AddsForecasts}
use Rattle.tfpg_answers.proofs.predict.forecasts.append_ranked.Given as goal

-- the forecasts of the numbers so far stand after the old bytes
abbrev pub invariant-loop-number : goal.invariant-loop-number
invariant-loop-number g l = AddsForecasts l.query (findings_at l.findings (take l.number-index l.order)) l.fn.into.items l.into.items
