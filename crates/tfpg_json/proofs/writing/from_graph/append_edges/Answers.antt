use Rattle.std.proofs.Common.{codes, map, ap, ◌∙◌, arith}
use Rattle.std.proofs.lemmas.List.{take_all}
use Rattle.tfpg_json.specs.GraphData.{edge_data}
use Rattle.tfpg_json.proofs.lemmas.DataLists.{item_next}
use Rattle.tfpg_json.proofs.lemmas.TokensWritten.{begun, item_written, list_ended_last}
use Rattle.tfpg_json.proofs.writing.from_graph.append_edges.Goals as goal

pub loop-number-preserved : goal.loop-number-preserved
loop-number-preserved c =
    let graph = c.args.graph.now in (
      c.in_ok-append_edge.ensures.before ∙ c.loop-number.invariant.0,
      item_written (begun c.args.into.now.tokens (codes "edges")) _ _ _ _ _ (item_next (edge_data graph) graph.edges c.loop-number.number _ c.edge.ensures)
          c.loop-number.invariant.1 c.in_ok-append_edge.ensures.ok,
    )

pub returns-clause-ok : goal.returns-clause-ok
returns-clause-ok c =
    let graph = c.args.graph.now in
    list_ended_last c.args.into.now.tokens (codes "edges") c.end_array.result _ _ _ _
    (ap (map (edge_data graph)) (take_all c.loop-number.number graph.edges (omega (arith, c.edge_count-number-end.ensures, c.loop-number-test.false))))
    c.loop-number.invariant.1 c.end_array.ensures.ok
