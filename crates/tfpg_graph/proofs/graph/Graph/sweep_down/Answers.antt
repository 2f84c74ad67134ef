use Rattle.tfpg_graph.proofs.lemmas.reach.Reaches.{Widens-along}
use Rattle.tfpg_graph.proofs.graph.Graph.sweep_down.Goals as goal

pub loop-node-preserved : goal.loop-node-preserved
loop-node-preserved c =
    Widens-along c.args.self.now c.args.reached.now c.loop-node.reached c.add_if_fed.new.reached c.loop-node.invariant c.add_if_fed.ensures.widens
