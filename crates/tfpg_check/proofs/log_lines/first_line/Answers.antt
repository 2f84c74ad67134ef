-- Bytes that are not empty begin with their first line.
use Rattle.std.proofs.Common.{sym, ◌∙◌}
use Rattle.tfpg_check.proofs.lemmas.going_on.FirstLines.{first_line_is, not_none}
use Rattle.tfpg_check.proofs.log_lines.first_line.Goals as goal

pub returns : goal.returns
returns c =
    first_line_is c.args.bytes.now c.line_len.result c.line_len.ensures
    (not_none c.args.bytes.now (sym c.is_empty.ensures ∙ c.if-is_empty.false))
