use Rattle.std.proofs.Common.{◌≤◌, length, rules}
use Rattle.std.specs.Prelude.{IsTrue}
use Rattle.tfpg_base.specs.declared.limits.TheConstants.{LONGEST_FILE}
use Rattle.tfpg_base.proofs.lemmas.lists.Choices.{IfErr-from}
use Rattle.tfpg_answers.specs.texts.AskedTexts.{IsAskTextsFault}
use Rattle.tfpg_answers.specs.inside.texts.Faults.{ask_fault_of_refusal, ask_fault_of_table}
use Rattle.tfpg_answers.proofs.lemmas.texts.Asking.{asks_no_graph, asks_no_table, could_ask}
use Rattle.tfpg_answers.proofs.texts.asking.questions_of_texts.Goals as goal

pub returns-in_err-graph-clause-fault : goal.returns-in_err-graph-clause-fault
returns-in_err-graph-clause-fault c =
    let within : IsTrue c.are_report_terms.result = search rules in
    let short : length c.args.log_text.now ≤ LONGEST_FILE = search rules in
    IfErr-from (IsAskTextsFault c.args.graph_text.now c.args.terms c.args.log_text.now) c.from_residual.result (ask_fault_of_refusal c.in_err-graph.field-0.0) c.from_residual.ensures.1
    (asks_no_graph c.args.graph_text.now c.args.terms c.args.log_text.now c.in_err-graph.field-0.0 (record { within = c.are_report_terms.ensures.0 within; short = short }) c.in_err-graph.ensures.refused)

pub returns-in_err-text-clause-fault : goal.returns-in_err-text-clause-fault
returns-in_err-text-clause-fault c =
    let within : IsTrue c.are_report_terms.result = search rules in
    let short : length c.args.log_text.now ≤ LONGEST_FILE = search rules in
    IfErr-from (IsAskTextsFault c.args.graph_text.now c.args.terms c.args.log_text.now) c.from_residual-in_err-text.result (ask_fault_of_table c.in_err-text.field-0.0) c.from_residual-in_err-text.ensures.1
    (asks_no_table c.args.graph_text.now c.args.terms c.args.log_text.now c.in_ok-graph.graph c.in_err-text.field-0.0 (record { within = c.are_report_terms.ensures.0 within; short = short })
    (record { spells = c.in_ok-graph.ensures.spelled; valid = c.in_ok-graph.ensures.valid }) c.in_err-text.ensures.too_many)

pub returns-clause-questions : goal.returns-clause-questions
returns-clause-questions c = record {
  graph = c.in_ok-graph.graph;
  gives = record { spells = c.in_ok-graph.ensures.spelled; valid = c.in_ok-graph.ensures.valid };
  questions = c.in_ok-text.ensures.questions;
}

pub returns-clause-can : goal.returns-clause-can
returns-clause-can c =
    let within : IsTrue c.are_report_terms.result = search rules in
    let short : length c.args.log_text.now ≤ LONGEST_FILE = search rules in
    could_ask c.args.graph_text.now c.args.terms c.args.log_text.now c.in_ok-graph.graph c.in_ok-text.text (record { within = c.are_report_terms.ensures.0 within; short = short })
    (record { spells = c.in_ok-graph.ensures.spelled; valid = c.in_ok-graph.ensures.valid }) c.in_ok-text.ensures.too_many
