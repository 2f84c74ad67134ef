use Rattle.std.proofs.Common.{sym, ap, ◌∙◌}
use Rattle.std.proofs.lemmas.Result.{err_from_is_err_and}
use Rattle.tfpg_log.specs.Accepted.{offered}
use Rattle.tfpg_log.specs.inside.LogLine.{log_statement_seen}
use Rattle.tfpg_log.proofs.lemmas.logs_of_lines.Judgements.{reply-time_refused, reply-judged}
use Rattle.tfpg_log.proofs.reply.event_or_refusal.Goals as goal

pub returns-in_err-time : goal.returns-in_err-time
returns-in_err-time c =
    let p = err_from_is_err_and c.from_residual.result c.from_residual.ensures.1 in
    rw (p.1, p.2)
    (sym
    (reply-time_refused c.args.graph.now c.args.log.now c.args.line.now c.in-Some.line.time.now
    (log_statement_seen c.in-Some.line.statement)
    (sym c.in-Some.ensures) c.now.result c.in_err-time.field-0.0 c.now.ensures c.in_err-time.ensures))

pub returns : goal.returns
returns c =
    ap offered c.judge_statement.ensures
    ∙ sym
    (reply-judged c.args.graph.now c.args.log.now c.args.line.now c.in-Some.line.time.now (log_statement_seen c.in-Some.line.statement)
    (sym c.in-Some.ensures) c.now.result c.in_ok-time.time c.now.ensures c.in_ok-time.ensures)
