use Rattle.std.proofs.Common.{List, ℕ, ◌++◌, ◌∙◌, ap, sym}
use Rattle.tfpg_base.proofs.lemmas.Appended.{Appends-err_after}
use Rattle.tfpg_base.proofs.lemmas.lists.Appended.{appended_all}
use Rattle.tfpg_base.proofs.lemmas.lists.LookedUp.{flat_map-filter_map}
use Rattle.tfpg_evidence.specs.RoundOf.{finding_numbered}
use Rattle.tfpg_report.specs.inside.Texts.{ranked_text}
use Rattle.tfpg_report.specs.inside.Numbered.{numbered_text}
use Rattle.tfpg_report.proofs.ranked_lines.append_all_ranked.Goals as goal

pub returns-in_err-append_numbered : goal.returns-in_err-append_numbered
returns-in_err-append_numbered c = Appends-err_after _ _ _ _ _ _ c.from_residual.ensures.0 c.loop-number.invariant c.in_err-append_numbered.ensures

pub returns : goal.returns
returns c =
    appended_all (numbered_text c.args.graph.now c.args.findings.now) c.args.order.now c.loop-number.number-index _ _ c.loop-number-test.false c.loop-number.invariant
    ∙ ap (λ (t : List ℕ). c.args.into.now.items ++ t)
    (sym (flat_map-filter_map (λ finding. ranked_text c.args.graph.now finding finding.status) (finding_numbered c.args.findings.now) c.args.order.now))
