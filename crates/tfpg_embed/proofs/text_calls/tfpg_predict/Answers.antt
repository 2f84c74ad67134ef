use Rattle.std.proofs.Common.{◌∙◌, List, ℕ, Ok, Err, ap, length, refl}
use Rattle.tfpg_answers.specs.declared.texts.fault.PredictTextsFault.TheVariants.{NoMemory}
use Rattle.tfpg_answers.specs.texts.PredictedTexts.{CanPredictTexts, HasForecastsOfTexts, IsPredictTextsFault, predicted_texts}
use Rattle.tfpg_embed.specs.TextCalls.{prediction_for}
use Rattle.tfpg_embed.specs.Answers.{answer_of_text}
use Rattle.tfpg_embed.specs.Rooms.{room_after}
use Rattle.tfpg_embed.proofs.lemmas.MadeTexts.{made_none, made_text}
use Rattle.tfpg_embed.proofs.text_calls.tfpg_predict.Goals as goal

pub returns-in-Ok : goal.returns-in-Ok
returns-in-Ok c =
    let texts = predicted_texts c.args.graph.now c.args.log.now (prediction_for c.args.terms.now c.args.node.now) in (
      Ok c.in-Ok.forecasts.items,
      made_text (HasForecastsOfTexts texts) (IsPredictTextsFault texts) (CanPredictTexts texts) NoMemory c.in-Ok.forecasts c.in-Ok.forecasts.items c.in-Ok.ensures.forecasts c.in-Ok.ensures.refuses,
      record {
        answer_is = c.put_text.ensures.answer ∙ ap (λ (text : List ℕ). answer_of_text text (length c.args.room.now)) c.deref.ensures.value;
        room_is = c.put_text.ensures.room ∙ ap (λ (text : List ℕ). room_after text c.args.room.now) c.deref.ensures.value;
      },
    )

pub returns-in-Err : goal.returns-in-Err
returns-in-Err c =
    let texts = predicted_texts c.args.graph.now c.args.log.now (prediction_for c.args.terms.now c.args.node.now) in (
      Err c.in-Err.fault,
      made_none (HasForecastsOfTexts texts) (IsPredictTextsFault texts) (CanPredictTexts texts) NoMemory c.in-Err.fault c.in-Err.ensures.fault c.in-Err.ensures.completes c.in-Err.ensures.refuses,
      record { answer_is = c.of_predict_fault.ensures; room_is = refl },
    )
