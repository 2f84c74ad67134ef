use Rattle.std.proofs.Common.{◌<◌, length, get_or, refl, ap, sym, subst, arith, ◌∙◌}
use Rattle.std.specs.Prelude.{All, IsTrue, sum_by}
use Rattle.tfpg_base.specs.Hypothesis.{Hypothesis}
use Rattle.tfpg_graph.specs.Graph.{AreFailures, is_monitored}
use Rattle.tfpg_base.proofs.lemmas.lists.Elements.{All-at}
use Rattle.tfpg_log.specs.Log.{ignoring}
use Rattle.tfpg_clause.specs.Case.{case_of}
use Rattle.tfpg_engine.specs.inside.Inquiries.{inquiry_of}
use Rattle.tfpg_engine.specs.inside.Slots.{CanGoOn}
use Rattle.tfpg_engine.specs.inside.NewFindings.{AreFirstFindings, PartsStandFirst}
use Rattle.tfpg_engine.specs.inside.SlotWork.{IsLimitBySlots, AreSlotsWithin}
use Rattle.tfpg_engine.specs.EngineState.{calls_of_slot}
use Rattle.tfpg_engine.proofs.lemmas.CallsCounted.{calls_with}
use Rattle.tfpg_engine.proofs.lemmas.FindingWork.{none_within, found_within}
use Rattle.tfpg_engine.proofs.lemmas.Ignoring.{same_ignoring, inquiry_ignoring}
use Rattle.tfpg_engine.proofs.lemmas.NewFindingIsRight.{none_found, found_by, found_ignoring, parts_first_so_far, slot_before}
use Rattle.tfpg_engine.proofs.findings.new_findings.Goals as goal

pub loop-number-init : goal.loop-number-init
loop-number-init g c = (
  refl,
  subst (λ fs. AreFirstFindings (inquiry_of c.args.inquiry.now c.args.log.now) c.args.table.now c.args.slots.now c.args.slots.now fs 0) (sym c.in_ok-findings.ensures.items)
      (none_found (inquiry_of c.args.inquiry.now c.args.log.now) c.args.table.now c.args.slots.now),
  subst (λ fs. AreSlotsWithin (inquiry_of c.args.inquiry.now c.args.log.now) c.args.table.now c.args.slots.now fs c.args.work.now c.args.work.now) (sym c.in_ok-findings.ensures.items)
      (none_within (IsLimitBySlots (inquiry_of c.args.inquiry.now c.args.log.now) c.args.table.now c.args.slots.now) c.args.work.now),
  refl,
)

pub new_finding-requires-clause-inquiry : goal.new_finding-requires-clause-inquiry
new_finding-requires-clause-inquiry g c =
    let at = c.hypothesis-hypothesis.ensures in
    inquiry_ignoring (inquiry_of c.args.inquiry.now c.args.log.now) c.hypothesis-hypothesis.result.doubts c.ignore.new.self
    (c.ignore.ensures ∙ ap (λ (h : Hypothesis). ignoring c.loop-number.log h.doubts) c.hypothesis.view_is ∙ same_ignoring c.loop-number.log c.args.log.now c.hypothesis-hypothesis.result.doubts c.loop-number.invariant.0)
    (All-at (λ (hypothesis : Hypothesis). All (λ node. IsTrue (is_monitored c.args.inquiry.now.graph.now node)) hypothesis.doubts) c.args.table.now.hypotheses c.loop-number.number _ c.requires.table.doubts at) c.requires.inquiry

pub new_finding-requires-clause-row : goal.new_finding-requires-clause-row
new_finding-requires-clause-row g c =
    let at = c.hypothesis-hypothesis.ensures in
    record {
      members = All-at (λ (hypothesis : Hypothesis). AreFailures c.args.inquiry.now.graph.now hypothesis.set) c.args.table.now.hypotheses c.loop-number.number _ c.requires.table.members at;
      reach = c.requires.table.reached.exact c.loop-number.number _ c.reach.result.now at c.reach.ensures;
    }

pub new_finding-requires-clause-few : goal.new_finding-requires-clause-few
new_finding-requires-clause-few g c =
    omega (arith, ap length c.deref.ensures.value, c.loop-number.invariant.1.counted, c.loop-number-test.true, c.len-number-end.type_inv)

pub new_finding-requires-clause-parts_first : goal.new_finding-requires-clause-parts_first
new_finding-requires-clause-parts_first g c =
    let within : c.loop-number.number < length c.args.table.now.hypotheses = omega (arith, c.loop-number-test.true, c.len-number-end.ensures.count) in
    parts_first_so_far (inquiry_of c.args.inquiry.now c.args.log.now) c.args.table.now c.args.slots.now c.loop-number.slots c.loop-number.findings.items c.loop-number.number c.loop-number.invariant.1 c.requires.one_each within
    c.requires.table.reached.complete c.deref.result.now c.deref.ensures.value c.hypothesis-hypothesis.result
    (All-at (PartsStandFirst c.args.table.now.hypotheses) c.args.table.now.hypotheses c.loop-number.number _ c.requires.table.parts_first c.hypothesis-hypothesis.ensures)

pub new_finding-requires-clause-goes_on : goal.new_finding-requires-clause-goes_on
new_finding-requires-clause-goes_on g c =
    let within : c.loop-number.number < length c.args.table.now.hypotheses = omega (arith, c.loop-number-test.true, c.len-number-end.ensures.count) in
    let hypothesis : Hypothesis = c.hypothesis-hypothesis.result in
    let at = c.hypothesis-hypothesis.ensures in
    let same = same_ignoring c.ignore.new.self c.args.log.now c.hypothesis-hypothesis.result.doubts (ap (λ l. l.events) c.ignore.ensures ∙ c.loop-number.invariant.0) in
    subst (λ l. CanGoOn (case_of c.args.inquiry.now.graph.now l c.reach.result.now) hypothesis (get_or c.loop-number.slots c.loop-number.number c.index-slots-number.result)) (sym same)
    (c.requires.go_on (record { number = c.loop-number.number; hypothesis = hypothesis; reach = c.reach.result.now }) _ (record { hypothesis = at; reach = c.reach.ensures })
    (slot_before (inquiry_of c.args.inquiry.now c.args.log.now) c.args.table.now c.args.slots.now c.loop-number.slots c.loop-number.findings.items c.loop-number.number c.loop-number.invariant.1
    c.requires.one_each within c.index-slots-number.result))

pub loop-number-preserved : goal.loop-number-preserved
loop-number-preserved g c =
    let within : c.loop-number.number < length c.args.table.now.hypotheses = omega (arith, c.loop-number-test.true, c.len-number-end.ensures.count) in
    let hypothesis : Hypothesis = c.hypothesis-hypothesis.result in
    let at = c.hypothesis-hypothesis.ensures in
    let asked = inquiry_of c.args.inquiry.now c.args.log.now in
    let is_new =
    found_ignoring asked (record { number = c.loop-number.number; hypothesis = hypothesis; reach = c.reach.result.now }) c.ignore.new.self c.deref.result.now (get_or c.loop-number.slots c.loop-number.number c.index-slots-number.result)
    c.new_finding.new.slot c.in_ok-finding.finding (c.ignore.ensures ∙ ap (λ (h : Hypothesis). ignoring c.loop-number.log h.doubts) c.hypothesis.view_is ∙ same_ignoring c.loop-number.log c.args.log.now c.hypothesis-hypothesis.result.doubts c.loop-number.invariant.0) c.in_ok-finding.ensures.found in (
      ap (λ l. l.events) c.ignore.ensures ∙ c.loop-number.invariant.0,
      found_by asked c.args.table.now c.args.slots.now c.loop-number.slots c.loop-number.findings.items c.loop-number.number c.loop-number.invariant.1
          c.requires.one_each within hypothesis c.reach.result.now c.index-slots-number.result c.new_finding.new.slot c.in_ok-finding.finding c.deref.result.now c.push.new.self.items
          at c.reach.ensures c.deref.ensures.value c.in_ok-push.ensures.items is_new,
      found_within asked c.args.table.now c.args.slots.now c.loop-number.findings.items c.push.new.self.items hypothesis c.reach.result.now c.ignore.new.self
          (get_or c.loop-number.slots c.loop-number.number c.index-slots-number.result) c.in_ok-finding.finding c.args.work.now c.loop-number.work c.new_finding.new.work c.loop-number.number
          (c.ignore.ensures ∙ ap (λ (h : Hypothesis). ignoring c.loop-number.log h.doubts) c.hypothesis.view_is ∙ same_ignoring c.loop-number.log c.args.log.now c.hypothesis-hypothesis.result.doubts c.loop-number.invariant.0) (sym c.loop-number.invariant.1.counted) c.in_ok-push.ensures.items
          (record { hypothesis = at; reach = c.reach.ensures })
          (slot_before asked c.args.table.now c.args.slots.now c.loop-number.slots c.loop-number.findings.items c.loop-number.number c.loop-number.invariant.1 c.requires.one_each within c.index-slots-number.result)
          c.loop-number.invariant.2 c.in_ok-finding.ensures.work,
      calls_with c.loop-number.slots c.loop-number.number c.index-slots-number.result c.new_finding.new.slot c.args.work.now c.loop-number.work c.new_finding.new.work (sum_by calls_of_slot c.args.slots.now)
          (omega (arith, within, c.loop-number.invariant.1.one_each, c.requires.one_each)) c.loop-number.invariant.3 c.new_finding.ensures.counted,
    )

pub returns-in_err-finding-clause-counted : goal.returns-in_err-finding-clause-counted
returns-in_err-finding-clause-counted g c =
    calls_with c.loop-number.slots c.loop-number.number c.index-slots-number.result c.new_finding.new.slot c.args.work.now c.loop-number.work c.new_finding.new.work (sum_by calls_of_slot c.args.slots.now)
    (omega (arith, c.loop-number-test.true, c.len-number-end.ensures.count, c.loop-number.invariant.1.one_each, c.requires.one_each)) c.loop-number.invariant.3 c.new_finding.ensures.counted

pub returns-in_err-push-clause-counted : goal.returns-in_err-push-clause-counted
returns-in_err-push-clause-counted g c =
    calls_with c.loop-number.slots c.loop-number.number c.index-slots-number.result c.new_finding.new.slot c.args.work.now c.loop-number.work c.new_finding.new.work (sum_by calls_of_slot c.args.slots.now)
    (omega (arith, c.loop-number-test.true, c.len-number-end.ensures.count, c.loop-number.invariant.1.one_each, c.requires.one_each)) c.loop-number.invariant.3 c.new_finding.ensures.counted

pub returns-clause-each : goal.returns-clause-each
returns-clause-each g c = (
  omega (arith, c.loop-number.invariant.1.counted, c.loop-number-test.false, c.loop-number.auto.number-end, c.len-number-end.ensures.count),
  c.loop-number.invariant.1.each,
)
