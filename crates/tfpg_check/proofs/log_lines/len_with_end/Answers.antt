-- The first line ends with the bytes, or the others begin after its line end.
use Rattle.std.proofs.Common.{arith}
use Rattle.tfpg_check.proofs.lemmas.going_on.FirstLines.{others_after_end, others_at_end}
use Rattle.tfpg_check.proofs.log_lines.len_with_end.Goals as goal

pub returns-then-len-bytes-clause-rest : goal.returns-then-len-bytes-clause-rest
returns-then-len-bytes-clause-rest c = others_at_end c.args.bytes.now c.line_len-len.result c.line_len-len.ensures c.if-len-bytes.true

pub returns-clause-rest : goal.returns-clause-rest
returns-clause-rest c = others_after_end c.args.bytes.now c.line_len-len.result c.line_len-len.ensures (let within = c.line_len-len.ensures.within in let other = c.if-len-bytes.false in grind arith)
