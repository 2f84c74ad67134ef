use Rattle.std.proofs.Common.{◌≡◌, ◌+◌, length}
use Rattle.tfpg_hyp.specs.inside.Choices.{chosen_below}
use Rattle.tfpg_hyp.proofs.listing.list_hypotheses.Given as goal

abbrev pub invariant-loop-size : goal.invariant-loop-size
invariant-loop-size l = record {
  listed : l.list.items ≡ chosen_below l.monitors l.doubt l.count (l._size + 1);
  first_is : l.first ≡ length (chosen_below l.monitors l.doubt l.count l._size);
}
