-- Both are parts of the set.
use Rattle.tfpg_base.specs.Set.{IsSubset}
use Rattle.tfpg_hyp.proofs.reaches.without_last.Given as goal

abbrev pub invariant-loop-position : goal.invariant-loop-position
invariant-loop-position l = record {
  less : IsSubset l.less l.set;
  so_far : IsSubset l.so_far l.set;
}
