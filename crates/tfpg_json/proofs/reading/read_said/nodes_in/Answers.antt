use Rattle.std.proofs.Common.{Some, sym, ap, ◌∙◌}
use Rattle.tfpg_base.proofs.lemmas.lists.Choices.{ok_or-err}
use Rattle.tfpg_json.specs.GraphSaid.{node_in}
use Rattle.tfpg_json.proofs.lemmas.ListsRead.{each_missing, each_more, each_read}
use Rattle.tfpg_json.proofs.lemmas.Refused.{ReadAs-missing, no_graph}
use Rattle.tfpg_json.proofs.reading.read_said.nodes_in.Goals as goal

pub returns-in_err-ok_or : goal.returns-in_err-ok_or
returns-in_err-ok_or c =
    let missing = ok_or-err c.node_in.result no_graph c.in_err-ok_or.field-0.0 (sym c.in_err-ok_or.ensures.value) in
    ReadAs-missing _ _ c.from_residual-in_err-ok_or.result c.in_err-ok_or.field-0.0 c.from_residual-in_err-ok_or.ensures.1 (sym missing.1)
    (each_missing node_in _ c.loop-item.item-index _ c.loop-item-test.true c.item-item.is _ c.in_ok-item-items.ensures (sym c.node_in.ensures ∙ missing.0))

pub loop-item-preserved : goal.loop-item-preserved
loop-item-preserved c =
    each_more node_in _ c.loop-item.item-index _ c.loop-item-test.true c.item-item.is _ _ c.loop-item.invariant (sym c.node_in.ensures ∙ c.in_ok-ok_or.ensures.ok_part)
    ∙ ap Some (sym c.in_ok-push.ensures.ok)

pub returns : goal.returns
returns c = each_read node_in _ _ c.loop-item.item-index _ c.in_ok-item-items.ensures c.loop-item-test.false c.loop-item.invariant
