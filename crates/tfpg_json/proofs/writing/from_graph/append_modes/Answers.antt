use Rattle.std.proofs.Common.{codes, map, ap, ◌∙◌, arith}
use Rattle.std.proofs.lemmas.List.{take_all}
use Rattle.serde_json.specs.Data.{string}
use Rattle.tfpg_json.proofs.lemmas.DataLists.{item_next}
use Rattle.tfpg_json.proofs.lemmas.TokensWritten.{begun, item_written, list_ended_last}
use Rattle.tfpg_json.proofs.writing.from_graph.append_modes.Goals as goal

pub loop-mode-preserved : goal.loop-mode-preserved
loop-mode-preserved c = (
  c.in_ok-string.ensures.room.0 ∙ c.loop-mode.invariant.0,
  item_written (begun c.args.into.now.tokens (codes "modes")) _ _ _ _ _ (item_next string c.args.graph.now.modes c.loop-mode.mode _ c.mode_name.ensures)
      c.loop-mode.invariant.1 c.in_ok-string.ensures.ok,
)

pub returns-clause-ok : goal.returns-clause-ok
returns-clause-ok c =
    list_ended_last c.args.into.now.tokens (codes "modes") c.end_array.result _ _ _ _
    (ap (map string) (take_all c.loop-mode.mode c.args.graph.now.modes (omega (arith, c.mode_count-mode-end.ensures, c.loop-mode-test.false))))
    c.loop-mode.invariant.1 c.end_array.ensures.ok
