use Rattle.std.proofs.Common.{◌≡◌, true, false, arith, sym, ◌∙◌}
use Rattle.std.specs.Option.{is_some}
use Rattle.std.proofs.lemmas.Bool.{false≢true}
use Rattle.tfpg_log.specs.Log.{alarm_of}
use Rattle.tfpg_hyp.specs.Ranking.{is_believed}
use Rattle.tfpg_base.proofs.lemmas.lists.Below.{below, below-zero}
use Rattle.tfpg_hyp.proofs.lemmas.Ranks.{AreCounted-none, counted-absent, counted-hidden, counted-alarmed, counted-silent, robustness-none, robustness-some}
use Rattle.tfpg_hyp.proofs.ranking.robust.Goals as goal
use Rattle.tfpg_hyp.proofs.ranking.robust.Goals.{then-has+then-is_believed+then-is_some, then-has+then-is_believed+else-is_some, else-has, else-has-via-then-has+else-is_believed, else-has-via-else-has}

pub loop-node-init : goal.loop-node-init
loop-node-init c = (AreCounted-none c.args.graph.now c.args.log.now c.args.doubts (below 0 c.args.reach.now) (below-zero c.args.reach.now), omega arith, omega arith)

pub loop-node-preserved : goal.loop-node-preserved
loop-node-preserved c =
    elim c.if-has.branch [
      | then-has+then-is_believed+then-is_some w ↦ rw (w.alarmed-is, w.monitored-is)
          (let shown : is_believed c.args.graph.now c.args.doubts c.loop-node.node ≡ true = cc in
          let alarm : is_some (alarm_of c.args.log.now c.loop-node.node) ≡ true = cc in (
            counted-alarmed c.args.graph.now c.args.log.now c.args.doubts c.args.reach.now c.loop-node.node c.loop-node.alarmed c.loop-node.monitored c.loop-node.invariant.0
                c.has.ensures.set.rising (c.has.ensures.node.0 w.if-has.true) shown alarm,
            omega (arith, c.loop-node.invariant.1),
            omega (arith, c.loop-node.invariant.2),
          ))
      | then-has+then-is_believed+else-is_some w ↦ rw (w.alarmed-is, w.monitored-is)
          (let shown : is_believed c.args.graph.now c.args.doubts c.loop-node.node ≡ true = cc in
          let silent : is_some (alarm_of c.args.log.now c.loop-node.node) ≡ false = cc in (
            counted-silent c.args.graph.now c.args.log.now c.args.doubts c.args.reach.now c.loop-node.node c.loop-node.alarmed c.loop-node.monitored c.loop-node.invariant.0
                c.has.ensures.set.rising (c.has.ensures.node.0 w.if-has.true) shown silent,
            omega (arith, c.loop-node.invariant.1),
            omega (arith, c.loop-node.invariant.2),
          ))
      | else-has w ↦ rw (w.alarmed-is, w.monitored-is)
          (elim w.else-has.branch [
            | else-has-via-then-has+else-is_believed v ↦
                let hidden : is_believed c.args.graph.now c.args.doubts c.loop-node.node ≡ false = cc in (
                  counted-hidden c.args.graph.now c.args.log.now c.args.doubts c.args.reach.now c.loop-node.node c.loop-node.alarmed c.loop-node.monitored c.loop-node.invariant.0
                      c.has.ensures.set.rising (c.has.ensures.node.0 v.if-has.true) hidden,
                  c.loop-node.invariant.1,
                  omega (arith, c.loop-node.invariant.2),
                )
            | else-has-via-else-has v ↦ (
              counted-absent c.args.graph.now c.args.log.now c.args.doubts c.args.reach.now c.loop-node.node c.loop-node.alarmed c.loop-node.monitored c.loop-node.invariant.0
                  (λ member. false≢true (sym v.if-has.false ∙ c.has.ensures.node.1 member)),
              c.loop-node.invariant.1,
              omega (arith, c.loop-node.invariant.2),
            )
          ])
    ]

pub returns-then-monitored-eq0-clause-fraction : goal.returns-then-monitored-eq0-clause-fraction
returns-then-monitored-eq0-clause-fraction c =
    robustness-none c.args.graph.now c.args.log.now c.args.doubts c.loop-node.node c.args.reach.now c.loop-node.alarmed c.loop-node.monitored
    (omega (arith, c.loop-node-test.false, c.loop-node.auto.node-end, c.node_count-node-end.ensures.count)) c.loop-node.invariant.0 c.if-monitored-eq0.true

pub returns-clause-fraction : goal.returns-clause-fraction
returns-clause-fraction c =
    robustness-some c.args.graph.now c.args.log.now c.args.doubts c.loop-node.node c.args.reach.now c.loop-node.alarmed c.loop-node.monitored
    (omega (arith, c.loop-node-test.false, c.loop-node.auto.node-end, c.node_count-node-end.ensures.count)) c.loop-node.invariant.0 c.if-monitored-eq0.false
