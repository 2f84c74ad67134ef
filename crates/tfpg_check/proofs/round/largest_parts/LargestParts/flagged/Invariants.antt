-- The flag of each hypothesis so far.
use Rattle.std.proofs.Common.{◌≡◌, List, length}
use Rattle.tfpg_base.specs.Hypothesis.{Hypothesis}
use Rattle.tfpg_check.specs.inside.LargestParts.{ListsLargestParts, ArePartsBefore, SayFlaggedParts}
use Rattle.tfpg_check.proofs.round.largest_parts.LargestParts.flagged.Given as goal

abbrev pub invariant-loop-whole : goal.invariant-loop-whole
invariant-loop-whole l =
    (length l.said.items ≡ l.whole)
    × ((hypotheses : List Hypothesis) → ListsLargestParts hypotheses l.self → ArePartsBefore hypotheses → SayFlaggedParts hypotheses l.flags l.whole l.said.items)
