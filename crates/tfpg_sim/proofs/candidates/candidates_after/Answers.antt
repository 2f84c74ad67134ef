use Rattle.std.proofs.Common.{◌+◌, length, None, ap, ◌∙◌, arith}
use Rattle.std.proofs.lemmas.List.{length_push}
use Rattle.tfpg_base.proofs.lemmas.lists.Written.{each_get_or-push}
use Rattle.tfpg_sim.specs.inside.Settling.{simulation_case, IsCandidate}
use Rattle.tfpg_sim.proofs.candidates.candidates_after.Goals as goal

pub loop-node-preserved : goal.loop-node-preserved
loop-node-preserved c = record {
  count = ap length c.in_ok-push.ensures.items ∙ length_push c.loop-node.next.items c.in_ok-candidate_after.field-0 ∙ ap (λ n. n + 1) c.loop-node.invariant.count;
  each = λ log limit before time are is absent known.
      each_get_or-push None (IsCandidate (simulation_case c.args.delayed.now.graph.now log c.args.delayed.now.delays.now limit) c.args.trace.now) c.loop-node.next.items c.push.new.self.items
      c.in_ok-candidate_after.field-0 c.loop-node.node c.in_ok-push.ensures.items c.loop-node.invariant.count (c.loop-node.invariant.each log limit before time are is absent known)
      (c.in_ok-candidate_after.ensures log limit before time are is absent (known.each c.loop-node.node (omega arith)));
}
