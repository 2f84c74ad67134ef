use Rattle.std.proofs.Common.{sym, subst, ◌∙◌}
use Rattle.std.proofs.lemmas.Result.{IfOk-weaker}
use Rattle.tfpg_engine.specs.inside.Inquiries.{row_of, inquiry_of}
use Rattle.tfpg_engine.specs.inside.NewFindings.{IsNewFinding}
use Rattle.tfpg_engine.proofs.lemmas.NewFindingIsRight.{new_finding_rejected, new_finding_covered}
use Rattle.tfpg_engine.proofs.lemmas.FindingWork.{rejected_within, covered_within}
use Rattle.tfpg_engine.specs.inside.Inquiries.{case_of_row}
use Rattle.tfpg_engine.proofs.finding.new_finding.Goals as goal

pub returns-then-is_rejected-clause-found : goal.returns-then-is_rejected-clause-found
returns-then-is_rejected-clause-found g c =
    subst (IsNewFinding (inquiry_of c.args.inquiry.now c.args.log.now) (row_of c.args.listed.now) c.args.findings.now c.args.slot.now c.args.slot.now) (sym c.passed_over.ensures)
    (new_finding_rejected (inquiry_of c.args.inquiry.now c.args.log.now) c.args.listed.now.hypothesis c.args.listed.now.reach.now c.args.listed.now.number c.args.findings.now c.is_always_ordered.ensures c.args.slot.now
    (sym c.is_rejected.ensures ∙ c.if-is_rejected.true))

pub returns-in-Some-clause-found : goal.returns-in-Some-clause-found
returns-in-Some-clause-found g c =
    subst (IsNewFinding (inquiry_of c.args.inquiry.now c.args.log.now) (row_of c.args.listed.now) c.args.findings.now c.args.slot.now c.args.slot.now) (sym c.passed_over-in-Some.ensures)
    (new_finding_covered (inquiry_of c.args.inquiry.now c.args.log.now) c.args.listed.now.hypothesis c.args.listed.now.reach.now c.args.listed.now.number c.args.findings.now c.is_always_ordered.ensures c.tree_laws.ensures c.args.slot.now
    c.in-Some.by (sym c.is_rejected.ensures ∙ c.if-is_rejected.false) c.in-Some.ensures)

pub returns-in-None-clause-found : goal.returns-in-None-clause-found
returns-in-None-clause-found g c = IfOk-weaker c.search_on.result _ _ (λ finding each. each c.args.findings.now c.in-None.ensures) c.search_on.ensures.found

pub returns-then-is_rejected-clause-work : goal.returns-then-is_rejected-clause-work
returns-then-is_rejected-clause-work g c =
    rejected_within (case_of_row (inquiry_of c.args.inquiry.now c.args.log.now) (row_of c.args.listed.now)) c.args.slot.now c.args.work.now c.args.listed.now.number c.args.listed.now.hypothesis.set c.args.listed.now.hypothesis.doubts
    c.passed_over.result (sym c.is_rejected.ensures ∙ c.if-is_rejected.true) c.passed_over.ensures

pub returns-in-Some-clause-work : goal.returns-in-Some-clause-work
returns-in-Some-clause-work g c =
    covered_within (case_of_row (inquiry_of c.args.inquiry.now c.args.log.now) (row_of c.args.listed.now)) c.args.slot.now c.args.work.now c.args.listed.now.number c.args.listed.now.hypothesis.set c.args.listed.now.hypothesis.doubts
    c.in-Some.by c.passed_over-in-Some.result c.passed_over-in-Some.ensures
