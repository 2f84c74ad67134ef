use Rattle.std.proofs.Common.{◌+◌, ◌*◌, arith, sym, ◌∙◌}
use Rattle.std.proofs.lemmas.Bool.{false≢true}
use Rattle.tfpg_hyp.proofs.lemmas.Ranks.{cost-none, cost-with, cost-without, cost-all}
use Rattle.tfpg_hyp.proofs.ranking.cost.Goals as goal
use Rattle.tfpg_hyp.proofs.ranking.cost.Goals.{then-has, else-has}

pub loop-position-init : goal.loop-position-init
loop-position-init c = (cost-none c.args.graph.now c.args.set, omega arith)

pub loop-position-preserved : goal.loop-position-preserved
loop-position-preserved c =
    elim c.if-has.branch [
      | then-has w ↦ rw w.cost-is (
        cost-with c.args.graph.now c.args.set c.loop-position.position c.loop-position.cost w.rarity-cost.result c.has.ensures.set (c.has.ensures.member.0 w.if-has.true) c.loop-position.invariant.0
            w.rarity-cost.ensures.worth,
        omega (arith, c.loop-position.invariant.1, w.rarity-cost.ensures.small),
      )
      | else-has w ↦ rw w.cost-is (
        cost-without c.args.graph.now c.args.set c.loop-position.position c.loop-position.cost (λ member. false≢true (sym w.if-has.false ∙ c.has.ensures.member.1 member)) c.loop-position.invariant.0,
        omega (arith, c.loop-position.invariant.1),
      )
    ]

pub returns : goal.returns
returns c =
    let worth = cost-all c.args.graph.now c.args.set c.loop-position.position c.loop-position.cost
    (λ k d within. omega (arith, c.requires k d within, c.failure_count-position-end.ensures, c.loop-position-test.false)) c.loop-position.invariant.0 in
    λ i. worth i + 1000 * (c.from.ensures ∙ c.len.ensures.count) i
