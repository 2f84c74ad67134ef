use Rattle.std.proofs.Common.{List, ap, sym, ◌∙◌}
use Rattle.std.proofs.lemmas.List.{take_all}
use Rattle.tfpg_evidence.specs.declared.reason.Reason.{Reason}
use Rattle.tfpg_clause.specs.Paths.{cited_by}
use Rattle.tfpg_clause.proofs.lemmas.trees.Marks.{cited_none, cited_more}
use Rattle.tfpg_clause.proofs.path.cite_each.Goals as goal

pub loop-reason-init : goal.loop-reason-init
loop-reason-init c = sym (cited_none 1 c.args.path.now)

pub loop-reason-preserved : goal.loop-reason-preserved
loop-reason-preserved c =
    cited_more c.args.reasons.now c.args.path.now c.loop-reason.path c.cite_one.new.path c.loop-reason.reason-index _ c.loop-reason-test.true c.loop-reason.invariant c.cite_one.ensures

pub returns : goal.returns
returns c =
    c.loop-reason.invariant ∙ ap (λ (reasons : List Reason). cited_by reasons c.args.path.now)
    (take_all c.loop-reason.reason-index c.args.reasons.now c.loop-reason-test.false)
