use Rattle.std.proofs.Common.{◌<◌, sym, subst}
use Rattle.tfpg_base.proofs.lemmas.lists.Choices.{IfErr-from}
use Rattle.tfpg_diagnose.specs.declared.fault.CheckFault.TheVariants.{Lines}
use Rattle.tfpg_diagnose.specs.inside.Faults.{check_fault_of_judge}
use Rattle.tfpg_diagnose.specs.JudgedReports.{LacksReport}
use Rattle.tfpg_diagnose.proofs.lemmas.NextReportLines.{few_numbers, lacks_by_fault, met_end, met_fault, met_long, met_right, one_on}
use Rattle.tfpg_diagnose.proofs.report_lines.judge_next_line.Goals as goal

pub returns-in_err-next-clause-stopped : goal.returns-in_err-next-clause-stopped
returns-in_err-next-clause-stopped g c problem before checking =
    IfErr-from (LacksReport problem before (g.S.Source.state c.next.new.source)) c.from_residual.result (Lines c.in_err-next.field-0.0) c.from_residual.ensures.1
    (lacks_by_fault problem before (g.S.Source.state c.args.input.now) (g.S.Source.state c.next.new.source) c.args.lines.now c.next.new.self c.args.judge.now checking
    c.in_err-next.field-0.0 (c.in_err-next.ensures checking.under.reading checking.under.represents))

pub take-requires-clause-few : goal.take-requires-clause-few
take-requires-clause-few g c =
    let on = c.requires.1 in
    subst (λ (n : _). n < 18446744073709551615) (sym c.number.ensures)
    (few_numbers c.requires.0 (g.S.Source.state c.args.input.now) (g.S.Source.state c.next.new.source) c.args.lines.now c.next.new.self c.args.judge.now on
    c.in_ok-next.field-0 (c.in_ok-next.ensures on.under.reading on.under.represents) c.in-Text.is)

pub returns-in_err-take-in-Text-clause-stopped : goal.returns-in_err-take-in-Text-clause-stopped
returns-in_err-take-in-Text-clause-stopped g c problem before checking =
    IfErr-from (LacksReport problem before (g.S.Source.state c.next.new.source)) c.from_residual-in_err-take-in-Text.result (check_fault_of_judge c.in_err-take-in-Text.field-0.0) c.from_residual-in_err-take-in-Text.ensures.1
    (met_fault problem before (g.S.Source.state c.args.input.now) (g.S.Source.state c.next.new.source) c.args.lines.now c.next.new.self c.args.judge.now checking
    c.in_ok-next.field-0 (c.in_ok-next.ensures checking.under.reading checking.under.represents) c.in-Text.is c.text.result.now c.text.ensures
    c.in_err-take-in-Text.field-0.0 (c.in_err-take-in-Text.ensures.judged problem checking.reads checking.represents))

pub returns-in-End-clause-checks_on : goal.returns-in-End-clause-checks_on
returns-in-End-clause-checks_on g c problem before checking =
    met_end problem before (g.S.Source.state c.args.input.now) (g.S.Source.state c.next.new.source) c.args.lines.now c.next.new.self c.args.judge.now checking
    c.in_ok-next.field-0 (c.in_ok-next.ensures checking.under.reading checking.under.represents) c.in-End.is

pub returns-in-TooLong-clause-stopped : goal.returns-in-TooLong-clause-stopped
returns-in-TooLong-clause-stopped g c problem before checking =
    met_long problem before (g.S.Source.state c.args.input.now) (g.S.Source.state c.next.new.source) c.args.lines.now c.next.new.self c.args.judge.now checking
    c.in_ok-next.field-0 (c.in_ok-next.ensures checking.under.reading checking.under.represents) c.in-TooLong.is c.no_report_line.result c.no_report_line.ensures

pub returns-in_ok-take-in-Text-clause-reads_on : goal.returns-in_ok-take-in-Text-clause-reads_on
returns-in_ok-take-in-Text-clause-reads_on g c before on =
    one_on before (g.S.Source.state c.args.input.now) (g.S.Source.state c.next.new.source) c.args.lines.now c.next.new.self c.args.judge.now on
    c.in_ok-next.field-0 (c.in_ok-next.ensures on.under.reading on.under.represents) c.in-Text.is c.take.new.self c.number.result c.in_ok-take-in-Text.ensures.lines c.number.ensures

pub returns-in_ok-take-in-Text-clause-checks_on : goal.returns-in_ok-take-in-Text-clause-checks_on
returns-in_ok-take-in-Text-clause-checks_on g c problem before checking =
    met_right problem before (g.S.Source.state c.args.input.now) (g.S.Source.state c.next.new.source) c.args.lines.now c.next.new.self c.args.judge.now checking
    c.in_ok-next.field-0 (c.in_ok-next.ensures checking.under.reading checking.under.represents) c.in-Text.is c.text.result.now c.text.ensures
    c.accepted_lines_are_those_of_a_report.ensures.next c.take.new.self (c.in_ok-take-in-Text.ensures.goes_on problem checking.reads checking.represents)
