use Rattle.std.proofs.Common.{sym, subst}
use Rattle.std.specs.Prelude.{IfSome}
use Rattle.tfpg_log.specs.Explains.{Explains}
use Rattle.tfpg_whatif.specs.inside.Asking.{CanContinue}
use Rattle.tfpg_search.proofs.lemmas.calls.CopyRepresents.{copy_represents}
use Rattle.tfpg_whatif.proofs.lemmas.Continued.{continues}
use Rattle.tfpg_whatif.proofs.outcomes.continued.Goals as goal

pub round-requires-clause-represents : goal.round-requires-clause-represents
round-requires-clause-represents g c =
    copy_represents c.args.subject.now.graph.now c.args.subject.now.log.now c.in-Some.search.now c.in_ok-copy.copy c.in_ok-copy.ensures
    (subst (λ kept. IfSome kept (λ search. CanContinue c.args.subject.now.graph.now c.args.subject.now.log.now c.args.subject.now.hypothesis.set search.now)) c.in-Some.is c.requires.kept).represents

pub returns : goal.returns
returns g c =
    subst (λ found. IfSome found (λ trace. Explains c.args.subject.now.graph.now c.args.subject.now.log.now c.args.subject.now.hypothesis.set trace)) (sym c.trace_found.ensures)
    (continues c.args.subject.now.graph.now c.args.subject.now.log.now c.args.subject.now.hypothesis.set c.copy_budget.result c.in-Some.search.now c.in_ok-copy.copy c.round.new.self c.new-steps.result c.round.new.steps c.in_ok-found.found
    (subst (λ kept. IfSome kept (λ search. CanContinue c.args.subject.now.graph.now c.args.subject.now.log.now c.args.subject.now.hypothesis.set search.now)) c.in-Some.is c.requires.kept) c.in_ok-copy.ensures c.round.ensures.set
    c.in_ok-found.ensures.searched)
