use Rattle.std.proofs.Common.{◌≤◌, length, rules, sym}
use Rattle.std.specs.Prelude.{IsTrue}
use Rattle.tfpg_base.specs.declared.limits.TheConstants.{LONGEST_FILE}
use Rattle.tfpg_base.proofs.lemmas.lists.Choices.{IfErr-from}
use Rattle.tfpg_answers.specs.Forecasts.{prediction_of}
use Rattle.tfpg_answers.specs.declared.texts.fault.PredictTextsFault.TheVariants.{Probe}
use Rattle.tfpg_answers.specs.texts.PredictedTexts.{IsPredictTextsFault, predicted_texts}
use Rattle.tfpg_answers.specs.inside.texts.Faults.{predict_fault_of_refusal, predict_fault_of_table}
use Rattle.tfpg_answers.proofs.lemmas.texts.Predicting.{could_predict, predicts_no_graph, predicts_no_table}
use Rattle.tfpg_answers.proofs.texts.predicting.forecasts_of_texts.Goals as goal

pub returns-in_err-graph-clause-fault : goal.returns-in_err-graph-clause-fault
returns-in_err-graph-clause-fault c =
    let texts = predicted_texts c.args.graph_text.now c.args.log_text.now (prediction_of c.args.asked.now) in
    let in_range : IsTrue c.is_in_range.result = search rules in
    let short : length c.args.log_text.now ≤ LONGEST_FILE = search rules in
    IfErr-from (IsPredictTextsFault texts) c.from_residual.result (predict_fault_of_refusal c.in_err-graph.field-0.0) c.from_residual.ensures.1
    (predicts_no_graph texts c.in_err-graph.field-0.0 (record { in_range = c.is_in_range.ensures.0 in_range; short = short }) c.in_err-graph.ensures.refused)

pub returns-in_err-node-clause-fault : goal.returns-in_err-node-clause-fault
returns-in_err-node-clause-fault c =
    let texts = predicted_texts c.args.graph_text.now c.args.log_text.now (prediction_of c.args.asked.now) in
    let in_range : IsTrue c.is_in_range.result = search rules in
    let short : length c.args.log_text.now ≤ LONGEST_FILE = search rules in
    IfErr-from (IsPredictTextsFault texts) c.from_residual-in_err-node.result (Probe c.in_err-node.field-0.0) c.from_residual-in_err-node.ensures.1 (
      record { in_range = c.is_in_range.ensures.0 in_range; short = short },
      record {
        graph = c.in_ok-graph.graph;
        gives = record { spells = c.in_ok-graph.ensures.spelled; valid = c.in_ok-graph.ensures.valid };
        is_fault = sym c.in_err-node.ensures;
      },
    )

pub returns-in_err-text-clause-fault : goal.returns-in_err-text-clause-fault
returns-in_err-text-clause-fault c =
    let texts = predicted_texts c.args.graph_text.now c.args.log_text.now (prediction_of c.args.asked.now) in
    let in_range : IsTrue c.is_in_range.result = search rules in
    let short : length c.args.log_text.now ≤ LONGEST_FILE = search rules in
    IfErr-from (IsPredictTextsFault texts) c.from_residual-in_err-text.result (predict_fault_of_table c.in_err-text.field-0.0) c.from_residual-in_err-text.ensures.1
    (predicts_no_table texts (record { in_range = c.is_in_range.ensures.0 in_range; short = short })
    (record {
      graph = c.in_ok-graph.graph;
      gives = record { spells = c.in_ok-graph.ensures.spelled; valid = c.in_ok-graph.ensures.valid };
      node = c.in_ok-node.node;
      is_node = sym c.in_ok-node.ensures;
    }) c.in_err-text.field-0.0 c.in_err-text.ensures.too_many)

pub returns-clause-forecasts : goal.returns-clause-forecasts
returns-clause-forecasts c = record {
  probe = record {
    graph = c.in_ok-graph.graph;
    gives = record { spells = c.in_ok-graph.ensures.spelled; valid = c.in_ok-graph.ensures.valid };
    node = c.in_ok-node.node;
    is_node = sym c.in_ok-node.ensures;
  };
  forecasts = c.in_ok-text.ensures.forecasts;
}

pub returns-clause-can : goal.returns-clause-can
returns-clause-can c =
    let texts = predicted_texts c.args.graph_text.now c.args.log_text.now (prediction_of c.args.asked.now) in
    let in_range : IsTrue c.is_in_range.result = search rules in
    let short : length c.args.log_text.now ≤ LONGEST_FILE = search rules in
    could_predict texts (record { in_range = c.is_in_range.ensures.0 in_range; short = short })
    (record {
      graph = c.in_ok-graph.graph;
      gives = record { spells = c.in_ok-graph.ensures.spelled; valid = c.in_ok-graph.ensures.valid };
      node = c.in_ok-node.node;
      is_node = sym c.in_ok-node.ensures;
    }) c.in_ok-text.text c.in_ok-text.ensures.too_many
