use Rattle.std.proofs.Common.{length, sym, ap, subst}
use Rattle.tfpg_check.specs.Judging.{RejectedFails}
use Rattle.tfpg_check.proofs.lemmas.judging.RejectedLines.{none_pass, none_left, none_there, some_there}
use Rattle.tfpg_check.proofs.round.rejected.judge_none_rejected.Goals as goal

pub returns-then-is_empty : goal.returns-then-is_empty
returns-then-is_empty c = λ basis is.
    none_pass basis c.args.lookup.now is c.requires
    (none_there (length c.as_slice.result.now) _ c.is_empty.result c.is_empty.ensures c.if-is_empty.true (ap length c.as_slice.ensures))

pub returns : goal.returns
returns c = λ basis is.
    subst (RejectedFails basis c.args.lookup.now.read.now c.fails_at.result.line) (sym c.fails_at.ensures.cause)
    (none_left basis c.args.lookup.now is c.requires
    (some_there (length c.as_slice.result.now) _ c.is_empty.result c.is_empty.ensures c.if-is_empty.false (ap length c.as_slice.ensures)) c.fails_at.result.line
    c.fails_at.ensures.line)
