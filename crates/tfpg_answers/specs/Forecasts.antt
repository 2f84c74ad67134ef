-- The forecasts of a node: what is asked, when one is right, and how it is written.
use Rattle.std.specs.Prelude.{◌≡◌, ℕ, ◌+◌, min, List, [], ◌∷◌, ◌++◌, map, flat_map, All, Option, Some, None, codes, decimal}
use Rattle.tfpg_base.specs.declared.terms.Terms.{Terms}
use Rattle.tfpg_base.specs.declared.limits.TheConstants.{MAX_TIME}
use Rattle.tfpg_base.specs.TextLine.{text_line}
use Rattle.tfpg_graph.specs.Graph.{Tfpg}
use Rattle.tfpg_graph.specs.Probe.{with_probe}
use Rattle.tfpg_log.specs.Log.{ignoring, now_of}
use Rattle.tfpg_log.specs.LogOfLines.{log_of_lines}
use Rattle.tfpg_evidence.specs.declared.finding.Finding.{Finding}
use Rattle.tfpg_evidence.specs.declared.round.Round.{Round}
use Rattle.tfpg_evidence.specs.declared.step.Step.{Step}
use Rattle.tfpg_evidence.specs.Findings.{hypothesis_of, ranked_in_order}
use Rattle.tfpg_report.specs.declared.report_line.ReportLine.TheVariants.{At}
use Rattle.tfpg_report.specs.ReadRounds.{step_lines}
use Rattle.tfpg_report.specs.ReportLines.{lines_text}
use Rattle.tfpg_report.specs.SetText.{set_word}
use Rattle.tfpg_predict.specs.declared.outlook.Outlook.{Outlook}
use Rattle.tfpg_predict.specs.declared.outlook.Outlook.TheVariants.{Earliest, Never, Unsettled}
use Rattle.tfpg_predict.specs.LeastTime.{Lookahead, lookahead_of}
use Rattle.tfpg_predict.specs.Outlooks.{IsOutlook}
use Rattle.tfpg_predict.specs.Probed.{IsProbeNumber, probe_lag, probe_word}
use Rattle.tfpg_diagnose.specs.Rounds.{IsLastRound}
use Rattle.tfpg_answers.specs.declared.predict.probing.ForecastRequest.{ForecastRequest}

-- What is asked of a graph and a log: on which terms, how many milliseconds past the last event, and about the node of which name.
pub record Prediction : Type 0 where
  pub terms : Terms
  pub ahead : ℕ
  pub node : List ℕ

-- the prediction on these terms, so far ahead, for this node
abbrev pub prediction : Terms → ℕ → List ℕ → Prediction
prediction terms ahead node = record { terms = terms; ahead = ahead; node = node }

-- the prediction that a call is asked for
abbrev pub prediction_of : ForecastRequest → Prediction
prediction_of asked = prediction asked.terms asked.ahead asked.node.now

-- the time up to which is looked: so many milliseconds after now, but not past the greatest time
abbrev pub time_ahead : ℕ → ℕ → ℕ
time_ahead now ahead = min (now + ahead) MAX_TIME

-- A forecast: a finding of a round, and when at the earliest the node becomes active by its hypothesis.
pub record Forecast : Type 0 where
  pub finding : Finding
  pub outlook : Outlook

-- It is right where the outlook is right for the set of the finding, by the log that ignores the monitors that it doubts,
-- with this budget for each search.
abbrev pub IsForecast : Lookahead → ℕ → Forecast → Type 0
IsForecast asked budget forecast =
    IsOutlook (lookahead_of asked.graph (ignoring asked.log forecast.finding.doubts) asked.node asked.to)
    forecast.finding.set budget forecast.outlook

-- ---- the text

-- the line that says what is predicted
abbrev pub predict_line : List ℕ → ℕ → ℕ → List ℕ
predict_line node now to =
    text_line (codes "predict" ∷ node ∷ codes "now" ∷ decimal now ∷ codes "to" ∷ decimal to ∷ [])

-- the line of a forecast, which ends with these words
abbrev pub forecast_line : Tfpg → Finding → List (List ℕ) → List ℕ
forecast_line graph finding words =
    text_line (codes "forecast" ∷ decimal finding.number ∷ codes "set" ∷ set_word graph (hypothesis_of finding) ∷ words)

-- the lines of steps, as in a report of the probed graph
abbrev pub probed_steps_text : Tfpg → List Step → List ℕ
probed_steps_text probed steps = lines_text probed (flat_map step_lines steps)

-- the text of a finding with this outlook: its line, then the trace that attains the time, and then the steps
abbrev pub outlook_text : Tfpg → Tfpg → Finding → Outlook → List ℕ
outlook_text graph probed finding (Earliest time trace earlier) =
    forecast_line graph finding (codes "earliest" ∷ decimal time ∷ [])
    ++ lines_text graph (map At trace) ++ probed_steps_text probed earlier
outlook_text graph probed finding (Never steps) =
    forecast_line graph finding (codes "never" ∷ []) ++ probed_steps_text probed steps
outlook_text graph probed finding (Unsettled bound steps) =
    forecast_line graph finding (codes "unsettled" ∷ decimal bound ∷ []) ++ probed_steps_text probed steps

-- the graph by whose names steps are written: that of a probe of the node, with this number in its name. All probes of a node have
-- the same names, whatever their bounds.
abbrev pub probed_names : Lookahead → ℕ → Tfpg
probed_names asked number = with_probe asked.graph (probe_word number) asked.node (probe_lag asked.to asked.to)

-- The text has a right forecast for each of these findings, in their order.
pub record HasForecastsOf (asked : Lookahead) (budget : ℕ) (probed : Tfpg) (findings : List Finding) (text : List ℕ) : Type 0 where
  pub forecasts : List Forecast
  pub one_each : map (λ forecast. forecast.finding) forecasts ≡ findings
  pub right : All (IsForecast asked budget) forecasts
  pub text_is : text ≡ flat_map (λ forecast. outlook_text asked.graph probed forecast.finding forecast.outlook) forecasts

-- So it has for the ranked findings of the last round, in ranking order, with the least number in the name of the probe that makes the name
-- new. Where there is no round, there is no forecast.
abbrev pub AreForecastsAfter : Lookahead → ℕ → Option Round → List ℕ → Type 0
AreForecastsAfter asked budget None text = text ≡ []
AreForecastsAfter asked budget (Some round) text =
    (number : ℕ) × IsProbeNumber asked.graph number
    × HasForecastsOf asked budget (probed_names asked number) (ranked_in_order round) text

-- The text is the prediction for the node of this number: its line, and then the forecasts of the ranked findings of the last round
-- of a diagnosis of the lines, in ranking order.
pub record HasForecasts (graph : Tfpg) (asked : Prediction) (node : ℕ) (lines : List (List ℕ)) (text : List ℕ) : Type 0 where
  pub last : Option Round
  pub is_last : IsLastRound graph asked.terms lines last
  pub forecasts : List ℕ
  pub are : AreForecastsAfter
      (lookahead_of graph (log_of_lines graph lines) node (time_ahead (now_of (log_of_lines graph lines)) asked.ahead))
      asked.terms.budget last forecasts
  pub text_is : text ≡ predict_line asked.node (now_of (log_of_lines graph lines))
      (time_ahead (now_of (log_of_lines graph lines)) asked.ahead) ++ forecasts
