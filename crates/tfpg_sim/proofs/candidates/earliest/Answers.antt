use Rattle.tfpg_sim.proofs.lemmas.simulations.SettledNodes.{earliest_all}
use Rattle.tfpg_sim.proofs.candidates.earliest.Goals as goal

pub returns : goal.returns
returns c = earliest_all c.args.candidates.now c.loop-node.node c.loop-node.best c.loop-node-test.false c.loop-node.invariant
