use Rattle.std.proofs.Common.{◌≡◌, ◌<◌, ◌≤◌, ◌+◌, ℕ, suc, List, [], length, ap, subst, ◌∙◌, arith}
use Rattle.std.specs.List.{All}
use Rattle.std.proofs.lemmas.List.Elements.{All-tail}
use Rattle.tfpg_base.specs.Set.{with_member}
use Rattle.tfpg_base.proofs.lemmas.NodeSets.{IsNodeSet-few}
use Rattle.tfpg_graph.specs.declared.limits.TheConstants.{MAX_NODES}
use Rattle.tfpg_graph.specs.inside.reach.Reaching.{IsFullBut}
use Rattle.tfpg_graph.proofs.lemmas.reach.Reaches.{Widens-along}
use Rattle.tfpg_graph.proofs.lemmas.reach.Growing.{IsReach-grown, pending_at_first}
use Rattle.tfpg_graph.proofs.graph.Graph.reach_with.Goals as goal

pub loop-parts-smaller : goal.loop-parts-smaller
loop-parts-smaller c =
    let is_set = c.spread-pending.ensures.widens.is_set (c.loop-parts.invariant.widens.is_set c.with-reached.ensures.set) in
    let few : length c.spread-pending.new.reached ≤ MAX_NODES = IsNodeSet-few c.spread-pending.new.reached is_set in
    let one : length c.loop-parts.pending ≡ suc (length c.in-Some.parts.1) = ap length c.in-Some.ensures in
    omega (arith, few, one, c.spread-pending.ensures.shorter, c.spread-pending.ensures.widens.longer)

pub loop-parts-preserved : goal.loop-parts-preserved
loop-parts-preserved c =
    let graph = c.args.self.now in
    let was = c.loop-parts.invariant in
    record {
      widens = Widens-along graph c.with-reached.result c.loop-parts.reached c.spread-pending.new.reached was.widens c.spread-pending.ensures.widens;
      full = λ first.
          c.spread-pending.ensures.full
          (subst (λ (pending : List ℕ). IsFullBut graph c.args.onward.now [] pending c.loop-parts.reached) c.in-Some.ensures (was.full first));
      within =
          c.spread-pending.ensures.within
          (All-tail (λ (next : ℕ). next < length graph.nodes) c.in-Some.parts.0 c.in-Some.parts.1
          (subst (All (λ (next : ℕ). next < length graph.nodes)) c.in-Some.ensures was.within));
    }

pub returns : goal.returns
returns c set is =
    let graph = c.args.self.now in
    let node = c.failure_node-node.result in
    IsReach-grown graph set c.args.known.now is c.args.position node c.failure_node-node.ensures.node c.args.onward.now c.with-reached.result c.loop-parts.reached
    c.with-reached.ensures.set c.with-reached.ensures.nodes c.loop-parts.invariant.widens
    (subst (λ (pending : List ℕ). IsFullBut graph c.args.onward.now [] pending c.loop-parts.reached) c.in_default.ensures
    (c.loop-parts.invariant.full
    (pending_at_first graph set c.args.known.now is c.args.position node c.failure_node-node.ensures.node c.args.onward.now c.with-reached.result c.with-pending.result c.requires.onward
    c.with-reached.ensures.nodes (c.with-pending.ensures.nodes ∙ ap (with_member node) c.empty.ensures))))
