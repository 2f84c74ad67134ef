use Rattle.std.proofs.Common.{◌≡◌, [], ◌∷◌, ◌++◌, length, codes, map, sym, ap, ◌∙◌, arith}
use Rattle.std.proofs.lemmas.List.{map-append}
use Rattle.serde_json.specs.Data.{string}
use Rattle.tfpg_graph.specs.inside.writing.Written.{mode_names_before}
use Rattle.tfpg_graph.proofs.lemmas.writing.ModeNames.{mode_names_before-more, mode_names_before-same}
use Rattle.tfpg_json.proofs.writing.from_graph.append_active_modes.Goals.{then-is_active_in+in_ok-string, else-is_active_in}
use Rattle.tfpg_json.specs.inside.Tokens.{each_tokens}
use Rattle.tfpg_json.proofs.lemmas.TokensWritten.{begun, item_written, list_ended_last}
use Rattle.tfpg_json.proofs.writing.from_graph.append_active_modes.Goals as goal

pub loop-mode-preserved : goal.loop-mode-preserved
loop-mode-preserved c =
    let graph = c.args.graph.now in
    let bits = c.args.edge.now.modes in
    let mode = c.loop-mode.mode in
    elim c.if-is_active_in.branch [
      | then-is_active_in+in_ok-string w ↦
          rw w.into-is (
            w.in_ok-string.ensures.room.0 ∙ c.loop-mode.invariant.0,
            item_written (begun c.args.into.now.tokens (codes "modes")) _ _ (map string (mode_names_before graph bits mode)) _ (string w.mode_name.result.now)
                (ap (map string) (mode_names_before-more graph bits mode w.mode_name.result.now (sym c.is_active_in.ensures ∙ w.if-is_active_in.true) w.mode_name.ensures)
                ∙ map-append string (mode_names_before graph bits mode) (w.mode_name.result.now ∷ []))
                c.loop-mode.invariant.1 w.in_ok-string.ensures.ok,
          )
      | else-is_active_in w ↦
          rw w.into-is (
            c.loop-mode.invariant.0,
            c.loop-mode.invariant.1
                ∙ ap (λ names. begun c.args.into.now.tokens (codes "modes") ++ each_tokens (map string names))
                (sym (mode_names_before-same graph bits mode (sym c.is_active_in.ensures ∙ w.if-is_active_in.false))),
          )
    ]

pub returns-clause-ok : goal.returns-clause-ok
returns-clause-ok c =
    let graph = c.args.graph.now in
    let last : c.loop-mode.mode ≡ length graph.modes = omega (arith, c.mode_count-mode-end.ensures, c.loop-mode-test.false, c.loop-mode.auto.mode-end) in
    list_ended_last c.args.into.now.tokens (codes "modes") c.end_array.result _ _ _ _
    (ap (λ mode. map string (mode_names_before graph c.args.edge.now.modes mode)) last) c.loop-mode.invariant.1 c.end_array.ensures.ok
