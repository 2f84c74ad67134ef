-- The largest proper parts with the numbers gone by.
use Rattle.tfpg_check.specs.inside.LargestParts.{AreLargestFrom}
use Rattle.tfpg_check.proofs.round.largest_parts.largest_parts.Given as goal

abbrev pub invariant-loop-number : goal.invariant-loop-number
invariant-loop-number l = AreLargestFrom l.table.hypotheses l.whole l.number l.parts.items
