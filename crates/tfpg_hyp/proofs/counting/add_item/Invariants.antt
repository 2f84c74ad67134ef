use Rattle.std.proofs.Common.{◌≤◌}
use Rattle.tfpg_hyp.proofs.lemmas.CountedSoFar.{IsCountedFrom}
use Rattle.tfpg_hyp.proofs.counting.add_item.Given as goal

abbrev pub invariant-loop-size : goal.invariant-loop-size
invariant-loop-size l = IsCountedFrom l.initial.of_size l.of_size l.greatest l.size × (l.size ≤ l.greatest)

abbrev pub decreases-loop-size : goal.decreases-loop-size
decreases-loop-size l = l.size
