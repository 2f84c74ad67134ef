use Rattle.std.proofs.Common.{arith}
use Rattle.tfpg_base.proofs.lemmas.NodeSets.{IsNodeSet-few}
use Rattle.tfpg_graph.proofs.lemmas.reach.Reaches.{AreReached-widened, IsReach-full}
use Rattle.tfpg_graph.proofs.graph.Graph.reach.Goals as goal

pub loop-reached-preserved : goal.loop-reached-preserved
loop-reached-preserved c =
    AreReached-widened c.args.self.now c.args.set c.sweep_up.new.reached c.sweep_down.new.reached c.sweep_down.ensures
    (AreReached-widened c.args.self.now c.args.set c.loop-reached.reached c.sweep_up.new.reached c.sweep_up.ensures.widens c.loop-reached.invariant)

pub loop-reached-smaller : goal.loop-reached-smaller
loop-reached-smaller c =
    let few = IsNodeSet-few c.sweep_down.new.reached (c.sweep_down.ensures.is_set (c.sweep_up.ensures.widens.is_set c.loop-reached.invariant.is_set)) in
    omega (arith, few, c.sweep_up.ensures.added c.loop-reached-test.true, c.sweep_down.ensures.longer)

pub returns : goal.returns
returns c =
    IsReach-full c.args.self.now c.args.set c.sweep_up.new.reached
    (AreReached-widened c.args.self.now c.args.set c.loop-reached.reached c.sweep_up.new.reached c.sweep_up.ensures.widens c.loop-reached.invariant)
    (c.sweep_up.ensures.full c.loop-reached-test.false)
