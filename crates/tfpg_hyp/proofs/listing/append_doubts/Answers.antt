use Rattle.std.proofs.Common.{◌≡◌, length, ap, subst, ◌∙◌, arith}
use Rattle.tfpg_base.specs.Hypothesis.{Hypothesis}
use Rattle.tfpg_base.proofs.lemmas.lists.Ordered.{Rises}
use Rattle.tfpg_hyp.specs.inside.Larger.{next_after}
use Rattle.tfpg_hyp.proofs.lemmas.Larger.{doubts-turn, doubts-pass, doubts-end}
use Rattle.tfpg_hyp.proofs.listing.append_doubts.Goals as goal
use Rattle.tfpg_hyp.proofs.listing.append_doubts.Goals.{After-next_node-least, then-node-least+in_ok-push, else-node-least}

doubts_are : (c : After-next_node-least) → c.hypothesis.inside.doubts ≡ c.args.hypothesis.doubts
doubts_are c = cc (ap (λ (h : Hypothesis). h.doubts) c.hypothesis.view_is)

least_is : (c : After-next_node-least) → c.next_node-least.result ≡ next_after 0 c.args.hypothesis.doubts
least_is c = c.next_node-least.ensures ∙ ap (next_after 0) (doubts_are c)

pub loop-node-preserved : goal.loop-node-preserved
loop-node-preserved c =
    let at = (goal.at.loop-node-preserved c).After-next_node-least in
    elim c.if-node-least.branch [
      | then-node-least+in_ok-push w ↦ doubts-turn c.args.list.now.items c.loop-node.list.items c.if-node-least.list.items c.args.hypothesis c.args.monitors.now c.next_node-least.result c.loop-node.node-index (least_is at)
          c.loop-node-test.true c.loop-node.invariant w.doubting.result (subst Rises (doubts_are at) c.len.ensures.set.rising) w.if-node-least.true w.doubting.ensures (cc (w.list-is, w.in_ok-push.ensures.items))
      | else-node-least w ↦ doubts-pass c.args.list.now.items c.loop-node.list.items c.if-node-least.list.items c.args.hypothesis c.args.monitors.now c.next_node-least.result c.loop-node.node-index (least_is at)
          c.loop-node-test.true c.loop-node.invariant w.if-node-least.false (cc (w.list-is))
    ]

pub returns : goal.returns
returns c =
    let at = (goal.at.returns c).After-next_node-least in
    doubts-end c.args.list.now.items c.loop-node.list.items c.loop-node.list.items c.args.hypothesis c.args.monitors.now c.next_node-least.result c.loop-node.node-index (least_is at)
    c.args.doubt (omega (arith, c.len.ensures.count, ap length (doubts_are at), c.if-len-doubt.false)) (omega (arith, c.loop-node-test.false)) c.loop-node.invariant
