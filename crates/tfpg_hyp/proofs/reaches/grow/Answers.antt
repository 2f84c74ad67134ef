use Rattle.std.proofs.Common.{arith, sym, ◌∙◌}
use Rattle.std.proofs.lemmas.Bool.{false≢true}
use Rattle.tfpg_hyp.proofs.lemmas.Growing.{IsGrowing-none, IsGrowing-passed, IsGrowing-with, IsReach-grown}
use Rattle.tfpg_hyp.proofs.reaches.grow.Goals as goal
use Rattle.tfpg_hyp.proofs.reaches.grow.Goals.{then-has, else-has}

pub loop-position-init : goal.loop-position-init
loop-position-init c = IsGrowing-none c.args.graph.now c.args.set c.args.part c.args.known.now c.requires.part c.requires.known

pub loop-position-preserved : goal.loop-position-preserved
loop-position-preserved c =
    elim c.if-has.branch [
      | then-has w ↦ rw (w.so_far-is, w.reach-is)
          (IsGrowing-with c.args.graph.now c.args.set c.loop-position.so_far c.loop-position.position c.loop-position.reach c.loop-position.invariant w.with-so_far.result w.reach_with-reach.result w.with-so_far.ensures.list
          (c.has.ensures.member.0 w.if-has.true) (w.reach_with-reach.ensures c.loop-position.so_far c.loop-position.invariant.reached))
      | else-has w ↦ rw (w.so_far-is, w.reach-is)
          (IsGrowing-passed c.args.graph.now c.args.set c.loop-position.so_far c.loop-position.position c.loop-position.reach c.loop-position.invariant (λ member. false≢true (sym w.if-has.false ∙ c.has.ensures.member.1 member)))
    ]

pub returns : goal.returns
returns c =
    IsReach-grown c.args.graph.now c.args.set c.loop-position.so_far c.loop-position.position c.loop-position.reach c.loop-position.invariant c.requires.members (omega (arith, c.loop-position-test.false))
