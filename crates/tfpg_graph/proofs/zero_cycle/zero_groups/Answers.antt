use Rattle.std.proofs.Common.{length}
use Rattle.std.proofs.lemmas.Result.{IfOk-weaker}
use Rattle.tfpg_graph.specs.inside.zero_cycle.ZeroSearch.{AreGroups}
use Rattle.tfpg_graph.specs.inside.zero_cycle.ZeroEdges.{AreZeroGroups}
use Rattle.tfpg_graph.proofs.lemmas.zero_cycle.ZeroEdgeSteps.{AreReversed-edges, AreZeroGroups-steps}
use Rattle.tfpg_graph.proofs.zero_cycle.zero_groups.Goals as goal

pub groups-requires-clause-reversed : goal.groups-requires-clause-reversed
groups-requires-clause-reversed c =
    let graph = c.args.declared.now in
    AreReversed-edges (length graph.nodes) graph.edges c.in_ok-steps.steps c.in_ok-reversed.reversed c.in_ok-steps.ensures
    c.in_ok-reversed.ensures

pub returns : goal.returns
returns c =
    IfOk-weaker c.groups.result (λ marks. AreGroups c.in_ok-steps.steps marks.items)
    (λ marks. AreZeroGroups c.args.declared.now marks.items)
    (λ marks are. AreZeroGroups-steps c.args.declared.now c.in_ok-steps.steps marks.items c.in_ok-steps.ensures are)
    c.groups.ensures
