use Rattle.tfpg_diagnose.proofs.lemmas.texts.Opened.{OpenLaws}
use Rattle.tfpg_answers.specs.Forecasts.{prediction_of}
use Rattle.tfpg_answers.specs.texts.PredictedTexts.{predicted_texts}
use Rattle.tfpg_answers.proofs.lemmas.texts.Predicting.{predicts_or_no_memory, refuses_to_predict}
use Rattle.tfpg_answers.proofs.texts.predicting.predict_texts.Goals as goal

pub returns-clause-completes : goal.returns-clause-completes
returns-clause-completes c can =
    let laws : OpenLaws = record {
      no_fault = c.a_text_has_at_most_one_first_fault.ensures.none;
      one_fault = c.a_text_has_at_most_one_first_fault.ensures.one;
      one_count = c.the_table_is_one.ensures.count;
    } in
    predicts_or_no_memory (predicted_texts c.args.graph_text.now c.args.log_text.now (prediction_of c.args.asked.now)) laws c.forecasts_of_texts.result c.forecasts_of_texts.ensures.fault can

pub returns-clause-refuses : goal.returns-clause-refuses
returns-clause-refuses c fault real stands =
    let laws : OpenLaws = record {
      no_fault = c.a_text_has_at_most_one_first_fault.ensures.none;
      one_fault = c.a_text_has_at_most_one_first_fault.ensures.one;
      one_count = c.the_table_is_one.ensures.count;
    } in
    refuses_to_predict (predicted_texts c.args.graph_text.now c.args.log_text.now (prediction_of c.args.asked.now)) laws c.forecasts_of_texts.result c.forecasts_of_texts.ensures.can
    c.forecasts_of_texts.ensures.fault fault real stands
