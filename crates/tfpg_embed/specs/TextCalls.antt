-- What the calls over whole texts come to.
use Rattle.std.specs.Prelude.{◌≡◌, ◌≢◌, ◌⊎◌, ℕ, List, length, Result, Err, IfErr, IfOk, IsOkUnless, OnOk}
use Rattle.tfpg_base.specs.declared.terms.Terms.{Terms}
use Rattle.tfpg_diagnose.specs.declared.texts.fault.ReportFault.{ReportFault}
use Rattle.tfpg_diagnose.specs.declared.texts.fault.ReportFault.TheVariants as reporting
use Rattle.tfpg_diagnose.specs.declared.texts.fault.CheckTextsFault.{CheckTextsFault}
use Rattle.tfpg_diagnose.specs.declared.texts.fault.CheckTextsFault.TheVariants as checking
use Rattle.tfpg_diagnose.specs.texts.Reports.{CanReport, IsReportFault, IsReportOfTexts}
use Rattle.tfpg_diagnose.specs.texts.Checks.{AreShort, CanAccept, CanRefuseText, CheckedTexts, IsAcceptedText, IsCheckTextsFault}
use Rattle.tfpg_answers.specs.Forecasts.{Prediction, prediction}
use Rattle.tfpg_answers.specs.declared.texts.fault.AskTextsFault.{AskTextsFault}
use Rattle.tfpg_answers.specs.declared.texts.fault.AskTextsFault.TheVariants as asking
use Rattle.tfpg_answers.specs.declared.texts.fault.PredictTextsFault.{PredictTextsFault}
use Rattle.tfpg_answers.specs.declared.texts.fault.PredictTextsFault.TheVariants as predicting
use Rattle.tfpg_answers.specs.declared.texts.fault.ExplainTextsFault.{ExplainTextsFault}
use Rattle.tfpg_answers.specs.declared.texts.fault.ExplainTextsFault.TheVariants as explaining
use Rattle.tfpg_answers.specs.texts.AskedTexts.{CanAskTexts, HasQuestionsOfTexts, IsAskTextsFault}
use Rattle.tfpg_answers.specs.texts.PredictedTexts.{CanPredictTexts, HasForecastsOfTexts, IsPredictTextsFault, PredictedTexts}
use Rattle.tfpg_answers.specs.texts.ExplainedTexts.{CanExplainTexts, ExplainedTexts, HasVerdictOfTexts, IsExplainTextsFault}
use Rattle.tfpg_embed.specs.declared.answer.TfpgAnswer.{TfpgAnswer}
use Rattle.tfpg_embed.specs.declared.status.TheConstants.{DONE}
use Rattle.tfpg_embed.specs.declared.text_calls.TfpgPredictionTerms.{TfpgPredictionTerms}
use Rattle.tfpg_embed.specs.Answers.{answer_of, answer_of_ask_fault, answer_of_check_fault, answer_of_explain_fault, answer_of_predict_fault, answer_of_report_fault, answer_of_text, counted}
use Rattle.tfpg_embed.specs.Rooms.{room_after_made}

-- these terms
abbrev pub terms_of : ℕ → ℕ → ℕ → Terms
terms_of k doubt budget = record { k = k; doubt = doubt; budget = budget }

-- the prediction for the node of this name that looks so far ahead
abbrev pub prediction_for : TfpgPredictionTerms → List ℕ → Prediction
prediction_for terms node = prediction (terms_of terms.k terms.doubt terms.budget) terms.ahead node

-- ---- a text that is made, and put into a room

-- A text that is right was made; or there is none, with its cause. Where nothing stands in its way there is one, and where a fault does, it
-- is that fault; or memory ran out.
pub record IsMade {E : Type 0} (IsRight : List ℕ → Type 0) (IsFault : E → Type 0) (CanMake : Type 0) (memory : E) (made : Result (List ℕ) E) : Type 0 where
  pub right : IfOk made IsRight
  pub fault : IfErr made IsFault
  pub completes : CanMake → IsOkUnless made memory
  pub refuses : (why : E) → why ≢ memory → IsFault why → (made ≡ Err why) ⊎ (made ≡ Err memory)

-- What was made was put into the room if it fits, and the answer says what came of it.
pub record IsPut {E : Type 0} (answer_of_fault : E → TfpgAnswer) (made : Result (List ℕ) E) (old new : List ℕ) (answer : TfpgAnswer) : Type 0 where
  pub answer_is : answer ≡ answer_of (λ text. answer_of_text text (length old)) answer_of_fault made
  pub room_is : new ≡ room_after_made made old

-- ---- the calls

-- A report of the texts was made and put into the room; or there is none, with its cause.
abbrev pub AnswersReport : List ℕ → Terms → List ℕ → List ℕ → List ℕ → TfpgAnswer → Type 0
AnswersReport graph terms log old new answer =
    (made : Result (List ℕ) ReportFault)
    × IsMade (IsReportOfTexts graph terms log) (IsReportFault graph terms log) (CanReport graph terms log) reporting.NoMemory made
    × IsPut answer_of_report_fault made old new answer

-- The report was accepted; or it was not, with its cause. A right one is accepted, and one for which a fault can be found is refused for
-- it, or memory ran out. The answer says which.
pub record AnswersCheck (texts : CheckedTexts) (answer : TfpgAnswer) : Type 0 where
  pub judged : Result ℕ CheckTextsFault
  pub accepted : IfOk judged (IsAcceptedText texts)
  pub short : OnOk judged (AreShort texts)
  pub fault : IfErr judged (IsCheckTextsFault texts)
  pub accepts : CanAccept texts → IsOkUnless judged checking.NoMemory
  pub refuses : (why : CheckTextsFault) → CanRefuseText texts why → (judged ≡ Err why) ⊎ (judged ≡ Err checking.NoMemory)
  pub answer_is : answer ≡ answer_of (counted DONE) answer_of_check_fault judged

-- The questions were made and put into the room; or there are none, with their cause.
abbrev pub AnswersAsk : List ℕ → Terms → List ℕ → List ℕ → List ℕ → TfpgAnswer → Type 0
AnswersAsk graph terms log old new answer =
    (made : Result (List ℕ) AskTextsFault)
    × IsMade (HasQuestionsOfTexts graph terms log) (IsAskTextsFault graph terms log) (CanAskTexts graph terms log) asking.NoMemory made
    × IsPut answer_of_ask_fault made old new answer

-- The forecasts were made and put into the room; or there are none, with their cause.
abbrev pub AnswersPredict : PredictedTexts → List ℕ → List ℕ → TfpgAnswer → Type 0
AnswersPredict texts old new answer =
    (made : Result (List ℕ) PredictTextsFault)
    × IsMade (HasForecastsOfTexts texts) (IsPredictTextsFault texts) (CanPredictTexts texts) predicting.NoMemory made
    × IsPut answer_of_predict_fault made old new answer

-- The verdict was made and put into the room; or there is none, with its cause.
abbrev pub AnswersExplain : ExplainedTexts → List ℕ → List ℕ → TfpgAnswer → Type 0
AnswersExplain texts old new answer =
    (made : Result (List ℕ) ExplainTextsFault)
    × IsMade (HasVerdictOfTexts texts) (IsExplainTextsFault texts) (CanExplainTexts texts) explaining.NoMemory made
    × IsPut answer_of_explain_fault made old new answer
