use Rattle.tfpg_search.proofs.lemmas.calls.CutTimes.{more_cut, all_cut}
use Rattle.tfpg_search.proofs.cut.cut.Goals as goal

pub loop-node-preserved : goal.loop-node-preserved
loop-node-preserved c =
    more_cut c.args.instant c.args.times.now c.loop-node.node c.loop-node-test.true c.loop-node.trace c.activate.new.trace c.loop-node.invariant c.in_ok-activate.ensures

pub returns : goal.returns
returns c = all_cut c.args.instant c.args.times.now c.loop-node.node c.loop-node.trace c.loop-node-test.false c.loop-node.invariant
