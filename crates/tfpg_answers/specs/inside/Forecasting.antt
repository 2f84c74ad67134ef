-- What the code of `predict` asks, and the forecasts that it has appended.
use Rattle.std.specs.Prelude.{◌≡◌, ℕ, ◌<◌, ◌≤◌, List, ◌++◌, All, IsTrue}
use Rattle.tfpg_graph.specs.Graph.{Tfpg, Sizes, AreFailures, is_monitored}
use Rattle.tfpg_graph.specs.Valid.{IsValid}
use Rattle.tfpg_log.specs.Log.{IsOrdered}
use Rattle.tfpg_evidence.specs.declared.finding.Finding.{Finding}
use Rattle.tfpg_evidence.specs.RoundOf.{IsStepOf}
use Rattle.tfpg_predict.specs.declared.outlook.Outlook.{Outlook}
use Rattle.tfpg_predict.specs.declared.outlook.Outlook.TheVariants.{Earliest, Never, Unsettled}
use Rattle.tfpg_predict.specs.LeastTime.{Lookahead, lookahead_of}
use Rattle.tfpg_predict.specs.Probed.{IsProbeable, IsProbeNumber}
use Rattle.tfpg_answers.specs.declared.predict.query.Query.{Query}
use Rattle.tfpg_answers.specs.Forecasts.{HasForecastsOf, probed_names}

-- the look ahead that the code makes, by the log as it stands
abbrev pub lookahead_in : Query → Lookahead
lookahead_in query = lookahead_of query.graph.now query.log.now query.node query.to

-- The look ahead allows a probe, of which the graph of names is one, and the budget is not 0.
pub record IsQuery (query : Query) : Type 0 where
  pub valid : IsValid query.graph.now
  pub ordered : IsOrdered query.log.now
  pub probeable : IsProbeable (lookahead_in query)
  pub budget : 1 ≤ query.budget
  pub number : ℕ
  pub named : IsProbeNumber query.graph.now number
  pub probed_is : query.probed.now ≡ probed_names (lookahead_in query) number

-- The hypothesis of the finding is one of the graph.
pub record IsAskable (graph : Tfpg) (finding : Finding) : Type 0 where
  pub members : AreFailures graph finding.set
  pub doubts : All (λ node. IsTrue (is_monitored graph node)) finding.doubts

-- The outlook names only what the graph has in its trace, and only what the probed graph has in its steps.
abbrev pub IsOutlookOf : Sizes → Sizes → Outlook → Type 0
IsOutlookOf sizes probed (Earliest time trace earlier) =
    All (λ activation. activation.node < sizes.nodes) trace × All (IsStepOf probed) earlier
IsOutlookOf sizes probed (Never steps) = All (IsStepOf probed) steps
IsOutlookOf sizes probed (Unsettled bound steps) = All (IsStepOf probed) steps

-- Right forecasts of these findings stand after the old bytes.
pub record AddsForecasts (query : Query) (findings : List Finding) (old new : List ℕ) : Type 0 where
  pub text : List ℕ
  pub has : HasForecastsOf (lookahead_in query) query.budget query.probed.now findings text
  pub appended : new ≡ old ++ text

-- Forecasts of these findings stand after the old bytes.
pub record ForecastsFollow (asked : Lookahead) (budget : ℕ) (findings : List Finding) (old new : List ℕ) : Type 0 where
  pub text : List ℕ
  pub number : ℕ
  pub named : IsProbeNumber asked.graph number
  pub has : HasForecastsOf asked budget (probed_names asked number) findings text
  pub appended : new ≡ old ++ text
