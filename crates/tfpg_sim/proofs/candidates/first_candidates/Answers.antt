use Rattle.std.proofs.Common.{◌+◌, length, None, ap, ◌∙◌}
use Rattle.std.proofs.lemmas.List.{length_push}
use Rattle.tfpg_base.proofs.lemmas.lists.Written.{each_get_or-push}
use Rattle.tfpg_sim.specs.inside.Settling.{simulation_case, IsCandidate}
use Rattle.tfpg_sim.proofs.candidates.first_candidates.Goals as goal

pub loop-node-preserved : goal.loop-node-preserved
loop-node-preserved c = record {
  count = ap length c.in_ok-push.ensures.items ∙ length_push c.loop-node.candidates.items c.in_ok-candidate.field-0 ∙ ap (λ n. n + 1) c.loop-node.invariant.count;
  each = λ log limit are.
      each_get_or-push None (IsCandidate (simulation_case c.args.delayed.now.graph.now log c.args.delayed.now.delays.now limit) c.args.trace.now) c.loop-node.candidates.items c.push.new.self.items
      c.in_ok-candidate.field-0 c.loop-node.node c.in_ok-push.ensures.items c.loop-node.invariant.count (c.loop-node.invariant.each log limit are)
      (c.in_ok-candidate.ensures log limit are);
}
