use Rattle.std.proofs.Common.{◌≡◌, ◌<◌, length, get_or, arith}
use Rattle.std.proofs.lemmas.Option.{slice_get-get_or}
use Rattle.tfpg_graph.proofs.lemmas.zero_cycle.ZeroEdgeSteps.{AreZeroSteps-next}
use Rattle.tfpg_graph.proofs.node_steps.NodeSteps.of_edges.Goals as goal

pub loop-number-preserved : goal.loop-number-preserved
loop-number-preserved c =
    let edges = c.args.declared.now.edges in
    let within : c.loop-number.number < length edges = omega arith in
    let read = slice_get-get_or edges c.loop-number.number c.edge.result within in
    let at : get_or edges c.loop-number.number c.edge.result ≡ c.edge.result = cc (read, c.edge.ensures) in
    AreZeroSteps-next (length c.args.declared.now.nodes) edges c.args.reversed c.loop-number.steps
    c.in_ok-steps-2.steps c.loop-number.number c.edge.result within at
    c.loop-number.invariant c.in_ok-steps-2.ensures
