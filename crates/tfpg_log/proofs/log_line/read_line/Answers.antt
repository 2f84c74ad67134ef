use Rattle.std.proofs.Common.{sym, ap, ◌∙◌}
use Rattle.tfpg_log.specs.LogStatements.{log_statement_in}
use Rattle.tfpg_log.proofs.lemmas.logs_of_lines.LogLines.{log_statement_of-words}
use Rattle.tfpg_log.proofs.log_line.read_line.Goals as goal

pub returns : goal.returns
returns c =
    let words = c.in_ok-words.ensures in
    c.log_line_in.ensures ∙ ap log_statement_in (c.as_slice.ensures ∙ words.0) ∙ sym (log_statement_of-words c.args.line.now words.1)
