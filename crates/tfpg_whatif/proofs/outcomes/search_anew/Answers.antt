use Rattle.std.proofs.Common.{sym, subst, ◌∙◌}
use Rattle.tfpg_clause.specs.Case.{case_of}
use Rattle.tfpg_whatif.specs.inside.Asking.{IsShown}
use Rattle.tfpg_whatif.proofs.lemmas.Searched.{represents_some, is_shown}
use Rattle.tfpg_whatif.proofs.outcomes.search_anew.Goals as goal

pub round-requires-clause-represents : goal.round-requires-clause-represents
round-requires-clause-represents g c = represents_some c.args.subject.now.graph.now c.args.subject.now.log.now c.in_ok-search.search c.in_ok-search.ensures.seen c.in_ok-search.ensures.represents

pub returns : goal.returns
returns g c =
    subst (IsShown (case_of c.args.subject.now.graph.now c.args.subject.now.log.now c.args.subject.now.reach) c.args.subject.now.hypothesis.set c.args.subject.now.budget) (sym c.outcome.ensures)
    (is_shown c.args.subject.now.graph.now c.args.subject.now.log.now c.in_ok-search.search c.in_ok-search.ensures.seen c.in_ok-search.ensures.represents c.args.subject.now.hypothesis.set c.args.subject.now.reach c.args.subject.now.budget
    (c.in_ok-search.ensures.set ∙ c.set-set.ensures)
    c.in_ok-search.ensures.reach c.round.new.self c.round.ensures.set c.round.ensures.reach c.new-steps.result c.round.new.steps c.new-steps.ensures c.in_ok-found.found c.in_ok-found.ensures.searched
    c.in_ok-found.ensures.enough)
