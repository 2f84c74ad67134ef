use Rattle.std.proofs.Common.{Some, sym, ap, ◌∙◌}
use Rattle.tfpg_json.specs.GraphSaid.{edge_from}
use Rattle.tfpg_json.proofs.lemmas.ListsRead.{each_missing, each_more, each_read}
use Rattle.tfpg_json.proofs.lemmas.Refused.{ReadAs-passed}
use Rattle.tfpg_json.proofs.reading.read_said.edges_in.Goals as goal

pub returns-in_err-edge_in : goal.returns-in_err-edge_in
returns-in_err-edge_in c =
    ReadAs-passed _ _ c.from_residual-in_err-edge_in.result (λ edge. edge) _ c.in_err-edge_in.field-0.0 c.from_residual-in_err-edge_in.ensures.1 c.in_err-edge_in.ensures
    (λ none. each_missing edge_from _ c.loop-item.item-index _ c.loop-item-test.true c.item-item.is _ c.in_ok-item-items.ensures none)

pub loop-item-preserved : goal.loop-item-preserved
loop-item-preserved c =
    each_more edge_from _ c.loop-item.item-index _ c.loop-item-test.true c.item-item.is _ _ c.loop-item.invariant c.in_ok-edge_in.ensures
    ∙ ap Some (sym c.in_ok-push.ensures.ok)

pub returns : goal.returns
returns c = each_read edge_from _ _ c.loop-item.item-index _ c.in_ok-item-items.ensures c.loop-item-test.false c.loop-item.invariant
