use Rattle.tfpg_hyp.proofs.lemmas.Growing.{IsGrowing}
use Rattle.tfpg_hyp.proofs.reaches.grow.Given as goal

abbrev pub invariant-loop-position : goal.invariant-loop-position
invariant-loop-position l = IsGrowing l.graph l.set l.position l.so_far l.reach
