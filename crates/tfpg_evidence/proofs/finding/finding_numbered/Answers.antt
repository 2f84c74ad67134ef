use Rattle.std.proofs.Common.{rules, sym}
use Rattle.std.proofs.lemmas.List.Sorted.{answers_always}
use Rattle.tfpg_evidence.proofs.lemmas.FindingsByNumber.{finding_numbered-found, finding_numbered-not_found}
use Rattle.tfpg_evidence.proofs.finding.finding_numbered.Goals as goal

pub returns-in-Ok : goal.returns-in-Ok
returns-in-Ok c =
    sym (finding_numbered-found c.args.findings.now c.args.number c.in-Ok.index _ c.requires c.in-Ok.ensures.bound
    (c.in-Ok.ensures.position (λ finding. finding.number) (answers_always _ _ _ (λ f a r g called. search rules)))
    (sym c.index-findings-index.is))

pub returns-in-Err : goal.returns-in-Err
returns-in-Err c =
    sym (finding_numbered-not_found c.args.findings.now c.args.number _ c.requires
    (c.in-Err.ensures.position (λ finding. finding.number) (answers_always _ _ _ (λ f a r g called. search rules))))
