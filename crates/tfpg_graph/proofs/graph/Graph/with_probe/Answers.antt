use Rattle.std.proofs.Common.{◌≡◌, Some, ap, ◌∙◌, arith, length}
use Rattle.tfpg_graph.specs.declared.kind.Kind.TheVariants.{Or}
use Rattle.tfpg_graph.specs.Graph.{Tfpg}
use Rattle.tfpg_graph.specs.inside.declaring.Indexes.{with_node}
use Rattle.tfpg_graph.proofs.lemmas.probing.ProbedGraphs.{edge_valid, edge_new, incoming_new, probed_valid}
use Rattle.tfpg_graph.proofs.graph.Graph.with_probe.Goals as goal
use Rattle.tfpg_graph.proofs.graph.Graph.with_probe.Goals.{In_ok-with_node}

-- the graph with the node
widened_is : (c : In_ok-with_node) → c.in_ok-with_node.with_node ≡ with_node c.args.self.now c.args.name.now (Or (Some c.args.lag))
widened_is c = c.in_ok-with_node.ensures ∙ ap (λ (graph : Tfpg). with_node graph c.args.name.now (Or (Some c.args.lag))) (c.into_declared-declared.ensures ∙ c.in_ok-copy.ensures)

pub with_edge-requires-clause-valid : goal.with_edge-requires-clause-valid
with_edge-requires-clause-valid c =
    rw (widened_is c, c.probe_edge-edge.ensures)
    (edge_valid c.args.self.now c.args.name.now c.args.source c.args.lag c.is_always_valid.ensures.valid c.requires)

pub with_edge-requires-clause-new : goal.with_edge-requires-clause-new
with_edge-requires-clause-new c =
    rw (widened_is c, c.probe_edge-edge.ensures)
    (edge_new c.args.self.now c.args.name.now c.args.source c.args.lag c.is_always_valid.ensures.valid c.requires)

pub with_edge-requires-clause-incoming_room : goal.with_edge-requires-clause-incoming_room
with_edge-requires-clause-incoming_room c =
    rw (widened_is c, c.probe_edge-edge.ensures)
    (omega (arith, ap length (incoming_new c.args.self.now c.args.name.now c.args.source c.args.lag c.is_always_valid.ensures.valid c.requires)))

pub new-requires : goal.new-requires
new-requires c =
    let widened : c.in_ok-with_node.with_node ≡ with_node c.args.self.now c.args.name.now (Or (Some c.args.lag)) =
    c.in_ok-with_node.ensures ∙ ap (λ (graph : Tfpg). with_node graph c.args.name.now (Or (Some c.args.lag))) (c.into_declared-declared.ensures ∙ c.in_ok-copy.ensures) in
    rw (c.in_ok-with_edge.ensures, widened, c.probe_edge-edge.ensures)
    (probed_valid c.args.self.now c.args.name.now c.args.source c.args.lag c.is_always_valid.ensures.valid c.requires)
