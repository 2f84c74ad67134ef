use Rattle.std.proofs.Common.{◌≡◌, ◌<◌, All, length}
use Rattle.tfpg_base.specs.declared.limits.TheConstants.{MAX_MEMBERS}
use Rattle.tfpg_hyp.specs.inside.Larger.{next_after}
use Rattle.tfpg_hyp.proofs.listing.next_position.Given as goal

abbrev pub invariant-loop-parts : goal.invariant-loop-parts
invariant-loop-parts l = record {
  next_is : next_after 0 l.fn.set ≡ next_after l.next l.left;
  small : All (λ position. position < MAX_MEMBERS) l.left;
}

abbrev pub decreases-loop-parts : goal.decreases-loop-parts
decreases-loop-parts l = length l.left
