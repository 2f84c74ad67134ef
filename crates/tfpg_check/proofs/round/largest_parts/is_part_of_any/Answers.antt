use Rattle.std.proofs.Common.{arith}
use Rattle.std.proofs.lemmas.Bool.{false≢true}
use Rattle.std.proofs.lemmas.Option.{slice_get_within}
use Rattle.tfpg_check.proofs.round.largest_parts.is_part_of_any.Goals as goal

pub returns : goal.returns
returns c = (
  λ holds. absurd (false≢true holds),
  λ of. absurd (c.loop-whole.invariant of.0 of.1 (omega (arith, c.loop-whole-test.false, slice_get_within c.args.wholes.now of.0 of.1 of.2)) of.2 of.3),
)
