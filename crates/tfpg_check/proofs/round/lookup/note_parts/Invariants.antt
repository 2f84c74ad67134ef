-- The indexes of the parts so far are noted.
use Rattle.std.proofs.Common.{◌≡◌, ◌<◌, ℕ, None, length, take, get_or}
use Rattle.tfpg_check.specs.inside.Lookups.{part_index}
use Rattle.tfpg_check.proofs.round.lookup.note_parts.Given as goal

abbrev pub invariant-loop-index : goal.invariant-loop-index
invariant-loop-index l =
    (number : ℕ) → number < length l.initial.indexes → get_or l.indexes number None ≡ part_index (take l.index l.parts) number
