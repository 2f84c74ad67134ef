use Rattle.std.proofs.Common.{rules}
use Rattle.std.specs.Prelude.{IsTrue}
use Rattle.tfpg_base.proofs.lemmas.lists.Choices.{IfErr-from}
use Rattle.tfpg_diagnose.specs.texts.Opening.{IsOpenFault}
use Rattle.tfpg_diagnose.specs.inside.texts.Faults.{open_fault_of_refusal, open_fault_of_table}
use Rattle.tfpg_diagnose.proofs.lemmas.texts.Opened.{opens_engine, opens_no_graph, opens_no_table}
use Rattle.tfpg_diagnose.proofs.texts.opening.open_engine.Goals as goal

pub returns-in_err-graph-clause-fault : goal.returns-in_err-graph-clause-fault
returns-in_err-graph-clause-fault c =
    let within : IsTrue c.are_report_terms.result = search rules in
    IfErr-from (IsOpenFault c.args.graph_text.now c.args.terms) c.from_residual.result (open_fault_of_refusal c.in_err-graph.field-0.0) c.from_residual.ensures.1
    (opens_no_graph c.args.graph_text.now c.args.terms c.in_err-graph.field-0.0 (c.are_report_terms.ensures.0 within) c.in_err-graph.ensures.refused)

pub returns-in_err-new-clause-fault : goal.returns-in_err-new-clause-fault
returns-in_err-new-clause-fault c =
    let within : IsTrue c.are_report_terms.result = search rules in
    IfErr-from (IsOpenFault c.args.graph_text.now c.args.terms) c.from_residual-in_err-new.result (open_fault_of_table c.in_err-new.field-0.0) c.from_residual-in_err-new.ensures.1
    (opens_no_table c.args.graph_text.now c.args.terms c.in_ok-graph.graph c.in_err-new.field-0.0 (c.are_report_terms.ensures.0 within)
    (record { spells = c.in_ok-graph.ensures.spelled; valid = c.in_ok-graph.ensures.valid }) c.in_err-new.ensures.too_many)

pub returns-clause-opened : goal.returns-clause-opened
returns-clause-opened c =
    let within : IsTrue c.are_report_terms.result = search rules in
    opens_engine c.args.graph_text.now c.args.terms c.in_ok-graph.graph c.in_ok-new.field-0 (record { spells = c.in_ok-graph.ensures.spelled; valid = c.in_ok-graph.ensures.valid }) (c.are_report_terms.ensures.0 within)
    c.in_ok-new.ensures.too_many c.in_ok-new.ensures.graph c.in_ok-new.ensures.terms c.in_ok-new.ensures.log c.in_ok-new.ensures.represents c.in_ok-new.ensures.uncounted
