-- It is no proper part of one before.
use Rattle.std.proofs.Common.{◌≡◌, ◌<◌, ℕ, Some, slice_get}
use Rattle.tfpg_check.specs.inside.LargestParts.{IsPartAmong}
use Rattle.tfpg_check.proofs.round.largest_parts.is_part_of_any.Given as goal

abbrev pub invariant-loop-whole : goal.invariant-loop-whole
invariant-loop-whole l =
    (index whole : ℕ) → index < l.whole-index → slice_get l.wholes index ≡ Some whole → IsPartAmong l.table.hypotheses l.part whole → ⊥
