use Rattle.std.proofs.Common.{subst}
use Rattle.tfpg_base.proofs.lemmas.lists.Choices.{IfErr-from}
use Rattle.tfpg_diagnose.specs.inside.Faults.{check_fault_of_judge}
use Rattle.tfpg_diagnose.specs.inside.JudgingUnderWay.{ChecksOn, ReadsOn, checking_at}
use Rattle.tfpg_diagnose.specs.JudgedReports.{LacksReport}
use Rattle.tfpg_streams.proofs.lemmas.InputLines.{falls_short}
use Rattle.tfpg_diagnose.proofs.lemmas.NextReportLines.{accepts_at_end, begins_judging, few_read, lacks_at_end}
use Rattle.tfpg_diagnose.proofs.report_lines.judge_lines.Goals as goal

pub loop-lines-init : goal.loop-lines-init
loop-lines-init g c = begins_judging (g.S.Source.state c.args.input.now) c.in_ok-lines.lines c.args.judge.now c.in_ok-lines.ensures.unread c.requires

pub loop-lines-smaller : goal.loop-lines-smaller
loop-lines-smaller g c =
    let before = g.S.Source.state c.args.input.now in
    let leads = c.in_ok-judge_next_line.ensures.reads_on before c.loop-lines.invariant.reads_on in
    let on = subst (ReadsOn before c.loop-lines.lines.number (checking_at (g.S.Source.state c.judge_next_line.new.input) c.judge_next_line.new.lines c.judge_next_line.new.judge)) c.in-Right.is leads in
    falls_short _ _ (few_read before (g.S.Source.state c.loop-lines.input) c.loop-lines.lines c.loop-lines.invariant.reads_on.under) on.1

pub loop-lines-preserved : goal.loop-lines-preserved
loop-lines-preserved g c =
    let before = g.S.Source.state c.args.input.now in
    let leads = c.in_ok-judge_next_line.ensures.reads_on before c.loop-lines.invariant.reads_on in
    let on = subst (ReadsOn before c.loop-lines.lines.number (checking_at (g.S.Source.state c.judge_next_line.new.input) c.judge_next_line.new.lines c.judge_next_line.new.judge)) c.in-Right.is leads in
    record {
      reads_on = on.0;
      checks = λ problem new. subst (ChecksOn problem before (checking_at (g.S.Source.state c.judge_next_line.new.input) c.judge_next_line.new.lines c.judge_next_line.new.judge)) c.in-Right.is
          (c.in_ok-judge_next_line.ensures.checks_on problem before (c.loop-lines.invariant.checks problem new));
    }

pub returns-in_err-end-in-Ended-clause-stopped : goal.returns-in_err-end-in-Ended-clause-stopped
returns-in_err-end-in-Ended-clause-stopped g c problem new =
    let before = g.S.Source.state c.args.input.now in
    let input = g.S.Source.state c.judge_next_line.new.input in
    let all = subst (ChecksOn problem before (checking_at input c.judge_next_line.new.lines c.judge_next_line.new.judge)) c.in-Ended.is
    (c.in_ok-judge_next_line.ensures.checks_on problem before (c.loop-lines.invariant.checks problem new)) in
    IfErr-from (LacksReport problem before input) c.from_residual-in_err-end-in-Ended.result (check_fault_of_judge c.in_err-end-in-Ended.field-0.0) c.from_residual-in_err-end-in-Ended.ensures.1
    (lacks_at_end problem before input c.judge_next_line.new.judge all c.in_err-end-in-Ended.field-0.0 (c.in_err-end-in-Ended.ensures.ends problem all.reads all.represents))

pub returns-in-Ended-clause-accepted : goal.returns-in-Ended-clause-accepted
returns-in-Ended-clause-accepted g c problem new =
    let before = g.S.Source.state c.args.input.now in
    let input = g.S.Source.state c.judge_next_line.new.input in
    let all = subst (ChecksOn problem before (checking_at input c.judge_next_line.new.lines c.judge_next_line.new.judge)) c.in-Ended.is
    (c.in_ok-judge_next_line.ensures.checks_on problem before (c.loop-lines.invariant.checks problem new)) in
    accepts_at_end problem before input c.judge_next_line.new.judge all c.accepted_lines_are_those_of_a_report.ensures.whole c.args.judge.now new c.in_ok-end-in-Ended.field-0 (c.in_ok-end-in-Ended.ensures.ends problem all.reads all.represents)
