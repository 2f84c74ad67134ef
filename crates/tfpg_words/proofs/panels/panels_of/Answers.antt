use Rattle.std.proofs.Common.{Some, ap, get_or, map, sym, ◌∙◌}
use Rattle.tfpg_words.specs.PanelWords.{panel_named, panels_named}
use Rattle.tfpg_words.proofs.lemmas.PanelsRead.{NamesPanels-passed, named_bad, named_more, no_word}
use Rattle.tfpg_words.proofs.panels.panels_of.Goals as goal

pub returns-in_err-panel_of : goal.returns-in_err-panel_of
returns-in_err-panel_of c =
    NamesPanels-passed (panel_named (get_or c.args.words.now c.loop-word.word-index no_word).now) (panels_named (map (λ word. word.now) c.args.words.now))
    (named_bad c.args.words.now c.loop-word.word-index c.loop-word-test.true)
    c.from_residual.result c.in_err-panel_of.field-0.0 c.from_residual.ensures.1 c.in_err-panel_of.ensures

pub loop-word-preserved : goal.loop-word-preserved
loop-word-preserved c =
    named_more c.args.words.now c.loop-word.word-index c.loop-word-test.true c.loop-word.panels c.in_ok-panel_of.field-0 c.loop-word.invariant c.in_ok-panel_of.ensures
    ∙ ap Some (sym c.in_ok-push.ensures.ok)
