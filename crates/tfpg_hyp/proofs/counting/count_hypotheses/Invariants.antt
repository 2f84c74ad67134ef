use Rattle.std.proofs.Common.{◌≡◌, ◌≤◌, ◌*◌, ◌^◌}
use Rattle.tfpg_hyp.specs.inside.Choices.{counted_below}
use Rattle.tfpg_hyp.proofs.lemmas.CountedSoFar.{HasCounts}
use Rattle.tfpg_hyp.proofs.counting.count_hypotheses.Given as goal

abbrev pub invariant-loop-monitor : goal.invariant-loop-monitor
invariant-loop-monitor l = HasCounts l._monitor l.doubt 0 l.of_size

abbrev pub invariant-loop-failure : goal.invariant-loop-failure
invariant-loop-failure l = HasCounts l.monitors l.doubt l._failure l.of_size

abbrev pub invariant-loop-size : goal.invariant-loop-size
invariant-loop-size l = (l.total ≡ counted_below l.monitors l.doubt l.failures l.size) × (l.total ≤ l.size * 2 ^ 100)
