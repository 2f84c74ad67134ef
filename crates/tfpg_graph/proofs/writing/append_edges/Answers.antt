use Rattle.std.proofs.Common.{arith}
use Rattle.tfpg_base.proofs.lemmas.Appended.{Appends-err_after}
use Rattle.tfpg_base.proofs.lemmas.lists.Appended.{appended_next, appended_all}
use Rattle.tfpg_base.proofs.lemmas.lists.Elements.{All-at}
use Rattle.tfpg_graph.specs.Valid.{IsValidEdge}
use Rattle.tfpg_graph.specs.inside.writing.Written.{edge_text}
use Rattle.tfpg_graph.proofs.writing.append_edges.Goals as goal

pub append_edge-requires-clause-edge : goal.append_edge-requires-clause-edge
append_edge-requires-clause-edge c = All-at (IsValidEdge c.args.graph.now) c.args.graph.now.edges c.loop-number.number _ c.requires.so_far.edges c.edge.ensures

pub returns-in_err-append_edge : goal.returns-in_err-append_edge
returns-in_err-append_edge c = Appends-err_after _ _ _ _ _ _ c.from_residual.ensures.0 c.loop-number.invariant c.in_err-append_edge.ensures

pub loop-number-preserved : goal.loop-number-preserved
loop-number-preserved c =
    appended_next (edge_text c.args.graph.now) c.args.graph.now.edges c.loop-number.number _ _ _ _ c.edge.ensures c.loop-number.invariant c.in_ok-append_edge.ensures

pub returns : goal.returns
returns c = appended_all (edge_text c.args.graph.now) c.args.graph.now.edges c.loop-number.number _ _ (omega arith) c.loop-number.invariant
