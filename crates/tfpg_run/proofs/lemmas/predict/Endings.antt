-- How a prediction ends.
use Rattle.std.proofs.Common.{◌≡◌, ℕ, List, Result, Ok, sym, subst}
use Rattle.std.specs.Prelude.{IfErr, OnOk}
use Rattle.std.proofs.lemmas.Result.{IfErr-weaker, on_ok_weaker}
use Rattle.tfpg_base.specs.declared.terms.Terms.{Terms}
use Rattle.tfpg_words.specs.Meaning.{Meaning, Predict}
use Rattle.tfpg_run.specs.declared.end.End.{End}
use Rattle.tfpg_run.specs.declared.end.End.TheVariants as ends
use Rattle.tfpg_run.specs.Run.{CommandEnds}
use Rattle.tfpg_run.specs.World.{World}
use Rattle.tfpg_answers.specs.Forecasts.{prediction}
use Rattle.tfpg_run.specs.predict.Predicting.{PredictEnds}
use Rattle.tfpg_run.proofs.lemmas.Stops.{IfErr-with, OnOk-with}

-- ---- as the words name the files and the node

module _ {T : Type 0} (result : Result T End) (meant : Meaning) (terms : Terms) (ahead : ℕ) (first second third graph log node : List ℕ) (before now : World)
    (means : meant ≡ Predict terms ahead graph log node) (one : first ≡ graph) (other : second ≡ log) (named : third ≡ node) (same : now.input ≡ before.input) where
  -- what holds by the names at hand holds by those of the words
  as_named : (end : End) → PredictEnds (prediction terms ahead third) first second before now end → PredictEnds (prediction terms ahead node) graph log before now end
  as_named end is =
      subst (λ (name : List ℕ). PredictEnds (prediction terms ahead node) name log before now end) one
      (subst (λ (name : List ℕ). PredictEnds (prediction terms ahead node) first name before now end) other
      (subst (λ (name : List ℕ). PredictEnds (prediction terms ahead name) first second before now end) named is))

  -- the forecasts were not written
  pub predict_stopped : IfErr result (PredictEnds (prediction terms ahead third) first second before now) → IfErr result (CommandEnds (Ok meant) before now)
  predict_stopped is =
      subst (λ (m : Meaning). IfErr result (CommandEnds (Ok m) before now)) (sym means)
      (IfErr-with result (PredictEnds (prediction terms ahead node) graph log before now) (now.input ≡ before.input)
      (IfErr-weaker result (PredictEnds (prediction terms ahead third) first second before now) (PredictEnds (prediction terms ahead node) graph log before now) as_named is) same)

  -- they were
  pub predict_done : OnOk result (PredictEnds (prediction terms ahead third) first second before now ends.Done) → OnOk result (CommandEnds (Ok meant) before now ends.Done)
  predict_done is =
      subst (λ (m : Meaning). OnOk result (CommandEnds (Ok m) before now ends.Done)) (sym means)
      (OnOk-with result (PredictEnds (prediction terms ahead node) graph log before now ends.Done) (now.input ≡ before.input)
      (on_ok_weaker result (as_named ends.Done) is) same)
