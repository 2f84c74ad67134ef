use Rattle.std.proofs.Common.{List, ℕ, Some, Bor, [], ◌∷◌, map, sym, ap, ◌∙◌}
use Rattle.std.specs.Option.{option_map}
use Rattle.std.proofs.lemmas.List.{map-append}
use Rattle.serde_json.specs.Find.{as_str}
use Rattle.tfpg_base.proofs.lemmas.lists.Choices.{ok_or-err}
use Rattle.tfpg_json.proofs.lemmas.ListsRead.{each_missing, each_more, each_read}
use Rattle.tfpg_json.proofs.lemmas.Refused.{ReadAs-missing, no_graph}
use Rattle.tfpg_json.proofs.reading.read_said.names_in.Goals as goal

pub returns-in_err-ok_or : goal.returns-in_err-ok_or
returns-in_err-ok_or c =
    let missing = ok_or-err c.text_in.result no_graph c.in_err-ok_or.field-0.0 (sym c.in_err-ok_or.ensures.value) in
    ReadAs-missing _ _ c.from_residual-in_err-ok_or.result c.in_err-ok_or.field-0.0 c.from_residual-in_err-ok_or.ensures.1 (sym missing.1)
    (each_missing as_str _ c.loop-item.item-index _ c.loop-item-test.true c.item-item.is _ c.in_ok-item-items.ensures
    (sym c.text_in.ensures ∙ ap (option_map (λ (text : Bor (List ℕ)). text.now)) missing.0))

pub loop-item-preserved : goal.loop-item-preserved
loop-item-preserved c =
    each_more as_str _ c.loop-item.item-index _ c.loop-item-test.true c.item-item.is _ _ c.loop-item.invariant
    (sym c.text_in.ensures ∙ ap (option_map (λ (text : Bor (List ℕ)). text.now)) c.in_ok-ok_or.ensures.ok_part)
    ∙ ap Some (sym (ap (map (λ (text : Bor (List ℕ)). text.now)) c.in_ok-push.ensures.ok ∙ map-append (λ (text : Bor (List ℕ)). text.now) c.loop-item.names (c.in_ok-ok_or.field-0 ∷ [])))

pub returns : goal.returns
returns c = each_read as_str _ _ c.loop-item.item-index _ c.in_ok-item-items.ensures c.loop-item-test.false c.loop-item.invariant
