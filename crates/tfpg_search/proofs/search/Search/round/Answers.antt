use Rattle.tfpg_search.proofs.lemmas.work.BoundsGiven.{round_within}
use Rattle.tfpg_search.proofs.lemmas.calls.RoundSearched.{seen_stands, searched, never_spent}
use Rattle.tfpg_search.proofs.search.Search.round.Goals as goal

pub search_on-requires-clause-stands : goal.search_on-requires-clause-stands
search_on-requires-clause-stands g c = seen_stands c.clause_laws.ensures c.args.graph.now c.args.log.now c.args.self.now c.see.new.self c.see.ensures.ordered c.requires.represents c.see.ensures.same

pub returns-clause-searched : goal.returns-clause-searched
returns-clause-searched g c =
    searched c.clause_laws.ensures c.args.graph.now c.args.log.now c.args.budget c.args.self.now c.see.new.self c.search_on.new.self c.args.steps.now c.search_on.new.steps c.search_on.result c.see.ensures.ordered
    c.requires.event c.see.ensures.same c.search_on.ensures.keeps.reach c.search_on.ensures.keeps.seen c.search_on.ensures.searches

pub returns-clause-enough : goal.returns-clause-enough
returns-clause-enough g c =
    never_spent c.clause_laws.ensures c.args.graph.now c.args.log.now c.args.budget c.args.self.now c.see.new.self c.search_on.new.self c.args.steps.now c.search_on.new.steps c.search_on.result c.see.ensures.ordered
    c.requires.event c.see.ensures.same c.search_on.ensures.keeps.reach c.search_on.ensures.keeps.seen c.search_on.ensures.searches c.requires.represents

pub returns-clause-work : goal.returns-clause-work
returns-clause-work g c =
    round_within c.args.graph.now c.args.log.now c.args.self.now c.see.new.self c.search_on.new.self c.args.steps.now c.search_on.new.steps c.args.work.now c.search_on.new.work
    c.requires.represents c.see.ensures.same c.search_on.ensures.counts
