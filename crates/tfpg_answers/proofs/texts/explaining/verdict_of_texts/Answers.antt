use Rattle.std.proofs.Common.{◌≤◌, length, rules}
use Rattle.tfpg_base.specs.declared.limits.TheConstants.{LONGEST_FILE, MAX_BYTES}
use Rattle.tfpg_base.proofs.lemmas.lists.Choices.{IfErr-from}
use Rattle.tfpg_answers.specs.texts.ExplainedTexts.{IsExplainTextsFault, explained_texts}
use Rattle.tfpg_answers.specs.inside.texts.Faults.{explain_fault_of_refusal}
use Rattle.tfpg_answers.proofs.lemmas.texts.Explaining.{explains_no_graph, explains_no_map}
use Rattle.tfpg_answers.proofs.texts.explaining.verdict_of_texts.Goals as goal

pub returns-in_err-graph-clause-fault : goal.returns-in_err-graph-clause-fault
returns-in_err-graph-clause-fault c =
    let texts = explained_texts c.args.graph_text.now c.args.log_text.now c.args.map_text.now in
    let log : length c.args.log_text.now ≤ LONGEST_FILE = search rules in
    let map : length c.args.map_text.now ≤ MAX_BYTES = search rules in
    IfErr-from (IsExplainTextsFault texts) c.from_residual.result (explain_fault_of_refusal c.in_err-graph.field-0.0) c.from_residual.ensures.1
    (explains_no_graph texts c.in_err-graph.field-0.0 (record { log = log; map = map }) c.in_err-graph.ensures.refused)

pub returns-in_err-map-clause-fault : goal.returns-in_err-map-clause-fault
returns-in_err-map-clause-fault c =
    let texts = explained_texts c.args.graph_text.now c.args.log_text.now c.args.map_text.now in
    let log : length c.args.log_text.now ≤ LONGEST_FILE = search rules in
    let map : length c.args.map_text.now ≤ MAX_BYTES = search rules in
    IfErr-from (IsExplainTextsFault texts) c.from_residual-in_err-map.result c.in_err-map.field-0.0 c.from_residual-in_err-map.ensures.1
    (explains_no_map texts c.in_ok-graph.graph (record { spells = c.in_ok-graph.ensures.spelled; valid = c.in_ok-graph.ensures.valid }) (record { log = log; map = map }) c.in_err-map.field-0.0
    c.in_err-map.ensures.fault)

pub returns-clause-verdict : goal.returns-clause-verdict
returns-clause-verdict c = record {
  graph = c.in_ok-graph.graph;
  gives = record { spells = c.in_ok-graph.ensures.spelled; valid = c.in_ok-graph.ensures.valid };
  map = c.in_ok-map.map;
  spells = c.in_ok-map.ensures.spells;
  verdict = c.in_ok-text.ensures;
}

pub returns-clause-can : goal.returns-clause-can
returns-clause-can c =
    let log : length c.args.log_text.now ≤ LONGEST_FILE = search rules in
    let map : length c.args.map_text.now ≤ MAX_BYTES = search rules in
    record {
      can_read = record { log = log; map = map };
      graph = c.in_ok-graph.graph;
      gives = record { spells = c.in_ok-graph.ensures.spelled; valid = c.in_ok-graph.ensures.valid };
      has_map = (c.in_ok-map.map.hypothesis, c.in_ok-map.map.trace, c.in_ok-map.ensures.spells);
    }
