use Rattle.std.proofs.Common.{◌≤◌, length, rules}
use Rattle.tfpg_base.specs.declared.limits.TheConstants.{LONGEST_FILE}
use Rattle.tfpg_base.proofs.lemmas.lists.Choices.{IfErr-from}
use Rattle.tfpg_diagnose.specs.texts.Checks.{IsCheckTextsFault, checked_texts}
use Rattle.tfpg_diagnose.specs.inside.texts.Faults.{check_texts_fault_of_refusal}
use Rattle.tfpg_diagnose.proofs.lemmas.texts.Judged.{judges_no_graph, judges_no_rounds, judges_short}
use Rattle.tfpg_diagnose.proofs.texts.checking.judge_texts.Goals as goal

pub returns-in_err-graph-clause-fault : goal.returns-in_err-graph-clause-fault
returns-in_err-graph-clause-fault c =
    let texts = checked_texts c.args.graph_text.now c.args.log_text.now c.args.report_text.now in
    let few : length c.args.log_text.now ≤ LONGEST_FILE = search rules in
    IfErr-from (IsCheckTextsFault texts) c.from_residual.result (check_texts_fault_of_refusal c.in_err-graph.field-0.0) c.from_residual.ensures.1
    (judges_no_graph texts c.in_err-graph.field-0.0 few c.in_err-graph.ensures.refused)

pub returns-clause-short : goal.returns-clause-short
returns-clause-short c =
    let few : length c.args.log_text.now ≤ LONGEST_FILE = search rules in
    judges_short (checked_texts c.args.graph_text.now c.args.log_text.now c.args.report_text.now) c.rounds_in.result few c.rounds_in.ensures.few

pub returns-clause-fault : goal.returns-clause-fault
returns-clause-fault c =
    let few : length c.args.log_text.now ≤ LONGEST_FILE = search rules in
    judges_no_rounds (checked_texts c.args.graph_text.now c.args.log_text.now c.args.report_text.now) c.in_ok-graph.graph
    (record { spells = c.in_ok-graph.ensures.spelled; valid = c.in_ok-graph.ensures.valid }) few c.rounds_in.result c.rounds_in.ensures.fault
