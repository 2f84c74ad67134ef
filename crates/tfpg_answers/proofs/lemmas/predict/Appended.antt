-- Forecasts that are appended one after another.
use Rattle.std.proofs.Common.{◌≡◌, ℕ, List, [], ◌∷◌, ◌++◌, Some, None, Result, Ok, Err, refl, sym, ap, ap₂, subst, subst₂, ◌∙◌, append_assoc}
use Rattle.std.specs.Prelude.{OnOk}
use Rattle.std.proofs.lemmas.Result.{on_ok_weaker}
use Rattle.std.proofs.lemmas.List.{append-nil, map-append}
use Rattle.std.proofs.lemmas.List.Concat.{flat_map-append}
use Rattle.std.proofs.lemmas.List.Elements.{All-nil, All-append, All-cons, filter_map-append}
use Rattle.tfpg_base.specs.Append.{Appends}
use Rattle.tfpg_base.specs.declared.no_memory.NoMemory.{NoMemory}
use Rattle.tfpg_graph.specs.Graph.{Tfpg}
use Rattle.tfpg_log.specs.Log.{Logbook}
use Rattle.tfpg_evidence.specs.declared.finding.Finding.{Finding}
use Rattle.tfpg_predict.specs.declared.outlook.Outlook.{Outlook}
use Rattle.tfpg_evidence.specs.Findings.{findings_at}
use Rattle.tfpg_evidence.specs.RoundOf.{finding_numbered}
use Rattle.tfpg_predict.specs.LeastTime.{Lookahead, lookahead_of}
use Rattle.tfpg_answers.specs.declared.predict.query.Query.{Query}
use Rattle.tfpg_answers.specs.inside.Forecasting.{AddsForecasts, ForecastsFollow, lookahead_in}
use Rattle.tfpg_answers.specs.Forecasts.{Forecast, HasForecastsOf, IsForecast, outlook_text, probed_names}
use Rattle.tfpg_predict.specs.Probed.{IsProbeNumber}

module _ (asked : Lookahead) (budget : ℕ) (probed : Tfpg) where
  -- no finding has no forecast
  pub no_forecasts : HasForecastsOf asked budget probed [] []
  no_forecasts = record { forecasts = []; one_each = refl; right = All-nil (IsForecast asked budget); text_is = refl }

  -- one finding has one
  one_forecast : (finding : Finding) (outlook : Outlook) → IsForecast asked budget (record { finding = finding; outlook = outlook })
      → HasForecastsOf asked budget probed (finding ∷ []) (outlook_text asked.graph probed finding outlook)
  one_forecast finding outlook is = record {
    forecasts = (record { finding = finding; outlook = outlook }) ∷ [];
    one_each = refl;
    right = All-cons (IsForecast asked budget) (record { finding = finding; outlook = outlook }) [] is (All-nil (IsForecast asked budget));
    text_is = sym (append-nil (outlook_text asked.graph probed finding outlook));
  }

  -- those of some findings, and of more
  more_forecasts : (findings others : List Finding) (text rest : List ℕ) → HasForecastsOf asked budget probed findings text → HasForecastsOf asked budget probed others rest
      → HasForecastsOf asked budget probed (findings ++ others) (text ++ rest)
  more_forecasts findings others text rest has more = record {
    forecasts = has.forecasts ++ more.forecasts;
    one_each = map-append (λ (forecast : Forecast). forecast.finding) has.forecasts more.forecasts ∙ ap₂ (λ (xs ys : List Finding). xs ++ ys) has.one_each more.one_each;
    right = All-append (IsForecast asked budget) has.forecasts more.forecasts has.right more.right;
    text_is = ap₂ (λ (xs ys : List ℕ). xs ++ ys) has.text_is more.text_is ∙ sym (flat_map-append (λ (forecast : Forecast). outlook_text asked.graph probed forecast.finding forecast.outlook) has.forecasts more.forecasts);
  }

-- ---- the findings of numbers

module _ (findings : List Finding) (number : ℕ) where
  -- the one of this number
  pub found_one : (finding : Finding) → finding_numbered findings number ≡ Some finding → findings_at findings (number ∷ []) ≡ finding ∷ []
  found_one finding is = rw is refl

  -- where there is one
  pub found_none : finding_numbered findings number ≡ None → findings_at findings (number ∷ []) ≡ []
  found_none is = rw is refl

-- those of some numbers, and of one more
pub found_more : (findings : List Finding) (numbers : List ℕ) (number : ℕ) → findings_at findings (numbers ++ number ∷ []) ≡ findings_at findings numbers ++ findings_at findings (number ∷ [])
found_more findings numbers number = filter_map-append (finding_numbered findings) numbers (number ∷ [])

module _ (query : Query) where
  -- nothing was appended
  pub adds_none : (old : List ℕ) → AddsForecasts query [] old old
  adds_none old = record { text = []; has = no_forecasts (lookahead_in query) query.budget query.probed.now; appended = sym (append-nil old) }

  -- one forecast was
  pub adds_one : (finding : Finding) (outlook : Outlook) (old new : List ℕ) → IsForecast (lookahead_in query) query.budget (record { finding = finding; outlook = outlook })
      → new ≡ old ++ outlook_text query.graph.now query.probed.now finding outlook → AddsForecasts query (finding ∷ []) old new
  adds_one finding outlook old new is appended = record {
    text = outlook_text query.graph.now query.probed.now finding outlook;
    has = one_forecast (lookahead_in query) query.budget query.probed.now finding outlook is;
    appended = appended;
  }

  -- some were, and then more
  pub adds_more : (findings others : List Finding) (old mid new : List ℕ) → AddsForecasts query findings old mid → AddsForecasts query others mid new → AddsForecasts query (findings ++ others) old new
  adds_more findings others old mid new adds more = record {
    text = adds.text ++ more.text;
    has = more_forecasts (lookahead_in query) query.budget query.probed.now findings others adds.text more.text adds.has more.has;
    appended = more.appended ∙ ap (λ (t : List ℕ). t ++ more.text) adds.appended ∙ append_assoc old adds.text more.text;
  }

  -- unless memory ran out
  pub adds_if : (result : Result (Unit {0}) NoMemory) (finding : Finding) (outlook : Outlook) (old new : List ℕ) → IsForecast (lookahead_in query) query.budget (record { finding = finding; outlook = outlook })
      → Appends result old new (outlook_text query.graph.now query.probed.now finding outlook) → OnOk result (AddsForecasts query (finding ∷ []) old new)
  adds_if (Ok done) finding outlook old new is appended = adds_one finding outlook old new is appended
  adds_if (Err short) finding outlook old new is appended = tt

-- ---- what stands after the old bytes, by the names of the probe

module _ (query : Query) (findings : List Finding) (old new : List ℕ) where
  follows : (number : ℕ) → IsProbeNumber query.graph.now number → query.probed.now ≡ probed_names (lookahead_in query) number → AddsForecasts query findings old new
      → ForecastsFollow (lookahead_in query) query.budget findings old new
  follows number named probed_is adds = record {
    text = adds.text;
    number = number;
    named = named;
    has = subst (λ (probed : Tfpg). HasForecastsOf (lookahead_in query) query.budget probed findings adds.text) probed_is adds.has;
    appended = adds.appended;
  }

  pub follows_if : (result : Result (Unit {0}) NoMemory) → OnOk result (AddsForecasts query findings old new) → (number : ℕ) → IsProbeNumber query.graph.now number
      → query.probed.now ≡ probed_names (lookahead_in query) number → (graph : Tfpg) (log : Logbook) (budget : ℕ) (ranked : List Finding) → query.graph.now ≡ graph → query.log.now ≡ log
      → query.budget ≡ budget → findings ≡ ranked → OnOk result (ForecastsFollow (lookahead_of graph log query.node query.to) budget ranked old new)
  follows_if result adds number named probed_is graph log budget ranked g l b f =
      on_ok_weaker result
      (λ one.
      subst₂ (λ (x : Tfpg) (y : Logbook). ForecastsFollow (lookahead_of x y query.node query.to) budget ranked old new) g l
      (subst₂ (λ (n : ℕ) (fs : List Finding). ForecastsFollow (lookahead_in query) n fs old new) b f (follows number named probed_is one)))
      adds
