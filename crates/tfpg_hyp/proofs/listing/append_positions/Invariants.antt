use Rattle.std.proofs.Common.{◌≡◌, ◌≤◌, ◌++◌, map}
use Rattle.tfpg_hyp.specs.inside.Larger.{between, next_after, with_position}
use Rattle.tfpg_hyp.proofs.listing.append_positions.Given as goal

abbrev pub invariant-loop-position : goal.invariant-loop-position
invariant-loop-position l = record {
  listed : l.list.items ≡ l.initial.list.items ++ map (with_position l.fn.hypothesis) (between (next_after 0 l.fn.hypothesis.set) l.position);
  none : l.count ≤ next_after 0 l.fn.hypothesis.set → l.position ≤ next_after 0 l.fn.hypothesis.set;
}
