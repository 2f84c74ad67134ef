use Rattle.std.proofs.Common.{subst, sym, List, ℕ}
use Rattle.std.specs.List.{Contains}
use Rattle.tfpg_base.specs.Set.{IsSubset}
use Rattle.tfpg_base.proofs.lemmas.Sets.{All-with_member}
use Rattle.tfpg_hyp.proofs.reaches.without_last.Goals as goal
use Rattle.tfpg_hyp.proofs.reaches.without_last.Goals.{then-has, else-has}

pub loop-position-preserved : goal.loop-position-preserved
loop-position-preserved c =
    elim c.if-has.branch [
      | then-has w ↦ rw (w.less-is, w.so_far-is) (record {
        less = c.loop-position.invariant.so_far;
        so_far = subst (λ (s : List ℕ). IsSubset s c.args.set) (sym w.with-so_far.ensures.list)
            (All-with_member (Contains c.args.set) c.loop-position.position c.loop-position.so_far (c.has.ensures.member.0 w.if-has.true) c.loop-position.invariant.so_far);
      })
      | else-has w ↦ rw (w.less-is, w.so_far-is) c.loop-position.invariant
    ]
