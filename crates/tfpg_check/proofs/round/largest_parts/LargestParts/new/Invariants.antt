-- The largest proper parts of each hypothesis so far.
use Rattle.std.proofs.Common.{map}
use Rattle.tfpg_check.specs.inside.LargestParts.{AreLargestBelow}
use Rattle.tfpg_check.proofs.round.largest_parts.LargestParts.new.Given as goal

abbrev pub invariant-loop-whole : goal.invariant-loop-whole
invariant-loop-whole l = AreLargestBelow l.table.hypotheses l.whole (map (λ row. row.items) l.rows.items)
