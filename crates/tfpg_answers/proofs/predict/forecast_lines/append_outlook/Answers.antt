use Rattle.std.proofs.Common.{ℕ, List, [], ◌∷◌, ◌++◌, codes, decimal, sym, ap, subst, ◌∙◌}
use Rattle.tfpg_base.specs.Append.{Appends}
use Rattle.tfpg_base.specs.Hypothesis.{Hypothesis}
use Rattle.tfpg_base.specs.TextLine.{text_line}
use Rattle.tfpg_base.proofs.lemmas.Appended.{Appends-after}
use Rattle.tfpg_evidence.specs.declared.step.Step.{Step}
use Rattle.tfpg_evidence.specs.Findings.{hypothesis_of}
use Rattle.tfpg_predict.specs.declared.outlook.Outlook.{Outlook}
use Rattle.tfpg_report.specs.SetText.{set_word}
use Rattle.tfpg_answers.specs.Forecasts.{forecast_line, outlook_text, probed_steps_text}
use Rattle.tfpg_answers.proofs.predict.forecast_lines.append_outlook.Goals as goal

pub returns : goal.returns
returns c =
    let graph = c.args.graph.now in
    let finding = c.args.finding.now in
    let old : List ℕ = c.args.into.now.items in
    let result = c.append_steps-in-Unsettled.result in
    let new : List ℕ = c.append_steps-in-Unsettled.new.into.items in
    let set_is = c.deref-in-Unsettled.ensures.value ∙ c.in_ok-append_set.ensures
    ∙ ap (λ (h : Hypothesis). c.new-set.result.items ++ set_word graph h) c.hypothesis.ensures ∙ ap (λ (t : List ℕ). t ++ set_word graph (hypothesis_of finding)) c.new-set.ensures.items in
    let number_is = c.as_bytes-number.ensures.value ∙ c.format.ensures.text in
    let bound_is = c.as_bytes-bound.ensures.value ∙ c.format-in-Unsettled.ensures.text in
    let line = c.in_ok-append_line-in-Unsettled.ensures
    ∙ (λ i. old ++ text_line (codes "forecast" ∷ number_is i ∷ codes "set" ∷ set_is i ∷ codes "unsettled" ∷ bound_is i ∷ [])) in
    subst (λ (o : Outlook). Appends result old new (outlook_text graph c.args.probed.now finding o)) (sym c.in-Unsettled.is)
    (Appends-after result old c.append_line-in-Unsettled.new.into.items new
    (forecast_line graph finding (codes "unsettled" ∷ decimal c.in-Unsettled.bound ∷ [])) (probed_steps_text c.args.probed.now c.in-Unsettled.steps) line
    (subst (λ (steps : List Step). Appends result c.append_line-in-Unsettled.new.into.items new (probed_steps_text c.args.probed.now steps)) c.as_slice-in-Unsettled.ensures c.append_steps-in-Unsettled.ensures))
