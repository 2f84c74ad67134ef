use Rattle.std.proofs.Common.{◌≡◌}
use Rattle.tfpg_base.proofs.words.parts_at_commas.Given as goal

-- the parts are those so far
abbrev pub invariant-loop-part : goal.invariant-loop-part
invariant-loop-part l = l.parts.items ≡ l.yielded
