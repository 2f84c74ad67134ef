use Rattle.std.proofs.Common.{◌++◌, List, ℕ, flat_map, sym, ap, ◌∙◌}
use Rattle.std.proofs.lemmas.List.{take_all}
use Rattle.std.proofs.lemmas.List.Folds.{flat_map-map}
use Rattle.tfpg_base.specs.declared.activation.Activation.{Activation}
use Rattle.tfpg_base.specs.Lines.{with_line_end}
use Rattle.tfpg_base.proofs.lemmas.Appended.{Appends-err_after}
use Rattle.tfpg_report.specs.declared.report_line.ReportLine.TheVariants.{At}
use Rattle.tfpg_report.specs.ReportLines.{written_line}
use Rattle.tfpg_report.specs.inside.LineNames.{activation_text}
use Rattle.tfpg_report.proofs.ranked_lines.append_activations.Goals as goal

pub returns : goal.returns
returns c =
    c.loop-activation.invariant
    ∙ ap (λ (trace : List Activation). c.args.into.now.items ++ flat_map (activation_text c.args.graph.now) trace)
    (take_all c.loop-activation.activation-index c.args.trace.now c.loop-activation-test.false)
    ∙ ap (λ (text : List ℕ). c.args.into.now.items ++ text) (sym (flat_map-map (λ line. with_line_end (written_line c.args.graph.now line)) At c.args.trace.now))

pub returns-in_err-append_activation : goal.returns-in_err-append_activation
returns-in_err-append_activation c = Appends-err_after _ _ _ _ _ _ c.from_residual.ensures.0 c.loop-activation.invariant c.in_err-append_activation.ensures
