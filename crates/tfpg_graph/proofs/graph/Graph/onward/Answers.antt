use Rattle.std.proofs.Common.{◌<◌, length, arith}
use Rattle.std.proofs.lemmas.Option.{get_or_from_slice_get}
use Rattle.tfpg_base.proofs.lemmas.lists.Elements.{All-at}
use Rattle.tfpg_graph.specs.Valid.{IsValidEdge}
use Rattle.tfpg_graph.proofs.lemmas.reach.Onward.{AreOnward-next}
use Rattle.tfpg_graph.proofs.graph.Graph.onward.Goals as goal

pub loop-number-preserved : goal.loop-number-preserved
loop-number-preserved c =
    let graph = c.args.self.now in
    let number = c.loop-number.number in
    let edge = c.edge-edge.result in
    let within : number < length graph.edges = omega arith in
    let valid = All-at (IsValidEdge graph) graph.edges number edge c.is_always_valid.ensures.valid.so_far.edges c.edge-edge.ensures in
    AreOnward-next (length graph.nodes) graph.edges c.loop-number.steps c.in_ok-steps-2.steps number edge within (get_or_from_slice_get graph.edges number edge edge c.edge-edge.ensures)
    (omega (arith, valid.source, c.loop-number.invariant.row_count)) c.loop-number.invariant c.in_ok-steps-2.ensures
