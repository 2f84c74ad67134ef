use Rattle.std.proofs.Common.{codes, filter_map, ap, ◌∙◌}
use Rattle.std.proofs.lemmas.List.{take_all}
use Rattle.tfpg_evidence.specs.Findings.{findings_at}
use Rattle.tfpg_evidence.specs.RoundOf.{finding_numbered}
use Rattle.tfpg_evidence.specs.declared.finding.Finding.{Finding}
use Rattle.tfpg_json.specs.RoundData.{ranked_data}
use Rattle.tfpg_json.proofs.lemmas.DataLists.{found_next}
use Rattle.tfpg_json.proofs.lemmas.TokensWritten.{begun, found_written, list_ended}
use Rattle.tfpg_json.proofs.writing.from_round.append_ranked.Goals as goal

pub loop-number-preserved : goal.loop-number-preserved
loop-number-preserved c =
    let ranked = λ (finding : Finding). ranked_data c.args.graph.now finding finding.status in
    let look = finding_numbered c.args.findings.now in (
      c.in_ok-append_numbered.ensures.before ∙ c.loop-number.invariant.0,
      found_written (begun c.args.into.now.tokens (codes "ranked")) _ _ _ _ _
          (found_next look ranked c.args.order.now c.loop-number.number-index 0 c.loop-number-test.true)
          c.loop-number.invariant.1 c.in_ok-append_numbered.ensures.ok,
    )

pub returns-clause-ok : goal.returns-clause-ok
returns-clause-ok c =
    let ranked = λ (finding : Finding). ranked_data c.args.graph.now finding finding.status in
    list_ended c.args.into.now.tokens (codes "ranked") _ _ _ _
    (ap (λ numbers. filter_map ranked (findings_at c.args.findings.now numbers)) (take_all c.loop-number.number-index c.args.order.now c.loop-number-test.false))
    c.loop-number.invariant.1 c.in_ok-end_array.ensures.ok
