use Rattle.std.proofs.Common.{codes, map, filter, sym, ap, ◌∙◌, ◌++◌}
use Rattle.std.proofs.lemmas.List.{take_all}
use Rattle.tfpg_evidence.specs.Findings.{is_rejected_now}
use Rattle.tfpg_json.specs.RoundData.{set_data}
use Rattle.tfpg_json.specs.inside.Tokens.{each_tokens}
use Rattle.tfpg_json.proofs.lemmas.DataLists.{passing_next, failing_next}
use Rattle.tfpg_json.proofs.lemmas.TokensWritten.{begun, item_written, list_ended}
use Rattle.tfpg_json.proofs.writing.from_round.append_rejected.Goals.{then-is_rejected_now+in_ok-append_set, else-is_rejected_now}
use Rattle.tfpg_json.proofs.writing.from_round.append_rejected.Goals as goal

pub loop-finding-preserved : goal.loop-finding-preserved
loop-finding-preserved c =
    let set = set_data c.args.graph.now in
    let findings = c.args.findings.now in
    let passes = is_rejected_now in
    let index = c.loop-finding.finding-index in
    let old = begun c.args.into.now.tokens (codes "rejected") in
    elim c.if-is_rejected_now.branch [
      | then-is_rejected_now+in_ok-append_set w ↦
          rw w.into-is (
            w.in_ok-append_set.ensures.before ∙ c.loop-finding.invariant.0,
            item_written old _ _ _ _ _
                (passing_next set findings passes index _ c.loop-finding-test.true c.finding-item.is (sym c.is_rejected_now.ensures ∙ w.if-is_rejected_now.true))
                c.loop-finding.invariant.1 w.in_ok-append_set.ensures.ok,
          )
      | else-is_rejected_now w ↦
          rw w.into-is (
            c.loop-finding.invariant.0,
            c.loop-finding.invariant.1
                ∙ ap (λ ds. old ++ each_tokens ds)
                (sym (failing_next set findings passes index _ c.loop-finding-test.true c.finding-item.is (sym c.is_rejected_now.ensures ∙ w.if-is_rejected_now.false))),
          )
    ]

pub returns-clause-ok : goal.returns-clause-ok
returns-clause-ok c =
    let set = set_data c.args.graph.now in
    list_ended c.args.into.now.tokens (codes "rejected") _ _ _ _
    (ap (λ fs. map set (filter is_rejected_now fs)) (take_all c.loop-finding.finding-index c.args.findings.now c.loop-finding-test.false))
    c.loop-finding.invariant.1 c.in_ok-end_array.ensures.ok
