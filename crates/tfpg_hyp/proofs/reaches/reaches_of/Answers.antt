use Rattle.std.proofs.Common.{bytes_eq, arith, ap, sym, subst, ◌∙◌}
use Rattle.std.proofs.lemmas.Bool.{not-false}
use Rattle.tfpg_base.proofs.lemmas.lists.SameBytes.{bytes_eq-true}
use Rattle.tfpg_base.specs.Hypothesis.{Hypothesis}
use Rattle.tfpg_graph.specs.Graph.{AreFailures}
use Rattle.tfpg_hyp.proofs.lemmas.Growing.{AreFailures-part}
use Rattle.tfpg_hyp.proofs.lemmas.Tables.{AreReachedWith-next}
use Rattle.tfpg_hyp.proofs.reaches.reaches_of.Goals as goal
use Rattle.tfpg_hyp.proofs.reaches.reaches_of.Goals.{then-ne, else-ne}

pub reach_of_part-known-requires-clause-members : goal.reach_of_part-known-requires-clause-members
reach_of_part-known-requires-clause-members c =
    AreFailures-part c.args.graph.now c.part_of-less.result c.hypothesis.inside.set c.part_of-less.ensures
    (subst (λ (h : Hypothesis). AreFailures c.args.graph.now h.set) (sym (c.hypothesis.view_is ∙ c.hypothesis-item.is)) (c.requires c.loop-hypothesis.hypothesis-index c.hypothesis-item.result c.loop-hypothesis-test.true))

pub loop-hypothesis-preserved : goal.loop-hypothesis-preserved
loop-hypothesis-preserved c =
    let was = c.loop-hypothesis.invariant in
    elim c.if-ne.branch [
      | then-ne w ↦ record {
        so_far = AreReachedWith-next c.args.graph.now c.args.hypotheses.now c.loop-hypothesis.reaches.items c.push.new.self.items c.loop-hypothesis.hypothesis-index c.hypothesis-item.result c.if-ne.set c.if-ne.reach
            (was.so_far.0, was.so_far.1) c.loop-hypothesis-test.true c.hypothesis-item.is c.in_ok-push.ensures.items (w.set-is ∙ ap (λ (h : Hypothesis). h.set) c.hypothesis.view_is) (rw (w.set-is, w.reach-is) w.grow-reach.ensures);
        part = rw (w.part-is, w.known-is) w.reach_of_part-known.ensures;
      }
      | else-ne w ↦ record {
        so_far = AreReachedWith-next c.args.graph.now c.args.hypotheses.now c.loop-hypothesis.reaches.items c.push.new.self.items c.loop-hypothesis.hypothesis-index c.hypothesis-item.result c.if-ne.set c.if-ne.reach
            (was.so_far.0, was.so_far.1) c.loop-hypothesis-test.true c.hypothesis-item.is c.in_ok-push.ensures.items
            (w.set-is ∙ sym (bytes_eq-true c.hypothesis.inside.set c.loop-hypothesis.set (not-false (bytes_eq c.hypothesis.inside.set c.loop-hypothesis.set) (sym w.if-ne.ensures))) ∙ ap (λ (h : Hypothesis). h.set) c.hypothesis.view_is)
            (rw (w.set-is, w.reach-is) was.so_far.2);
        part = rw (w.part-is, w.known-is) was.part;
      }
    ]

pub returns : goal.returns
returns c = record {
  complete = omega (arith, c.loop-hypothesis.invariant.so_far.0, c.loop-hypothesis-test.false, c.loop-hypothesis.auto.hypothesis-index-end);
  exact = c.loop-hypothesis.invariant.so_far.1;
}
