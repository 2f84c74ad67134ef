use Rattle.std.proofs.Common.{List, ℕ, [], ◌∷◌, take, get_or, sym, ap, subst, ◌∙◌}
use Rattle.std.proofs.lemmas.List.{take_all, take_more}
use Rattle.tfpg_evidence.specs.Findings.{findings_at}
use Rattle.tfpg_answers.specs.inside.Forecasting.{AddsForecasts}
use Rattle.tfpg_evidence.specs.declared.finding.Finding.{Finding}
use Rattle.tfpg_answers.proofs.lemmas.predict.Appended.{adds_none, adds_more, found_more}
use Rattle.tfpg_answers.proofs.predict.forecasts.append_ranked.Goals as goal

pub loop-number-init : goal.loop-number-init
loop-number-init g c = adds_none c.args.query.now c.args.into.now.items

pub loop-number-preserved : goal.loop-number-preserved
loop-number-preserved g c =
    let findings = c.args.findings.now in
    let order : List ℕ = c.args.order.now in
    let index : ℕ = c.loop-number.number-index in
    subst (λ (fs : List Finding). AddsForecasts c.args.query.now fs c.args.into.now.items c.append_numbered.new.into.items)
    (sym (ap (findings_at findings) (take_more order index 0 c.loop-number-test.true) ∙ found_more findings (take index order) (get_or order index 0)))
    (adds_more c.args.query.now (findings_at findings (take index order)) (findings_at findings (get_or order index 0 ∷ [])) c.args.into.now.items c.loop-number.into.items c.append_numbered.new.into.items
    c.loop-number.invariant c.in_ok-append_numbered.ensures)

pub returns : goal.returns
returns g c =
    subst (λ (order : List ℕ). AddsForecasts c.args.query.now (findings_at c.args.findings.now order) c.args.into.now.items c.loop-number.into.items)
    (take_all c.loop-number.number-index c.args.order.now c.loop-number-test.false) c.loop-number.invariant
