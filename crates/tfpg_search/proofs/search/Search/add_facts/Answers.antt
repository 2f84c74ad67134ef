use Rattle.std.proofs.Common.{◌<◌, ℕ, length, subst}
use Rattle.std.specs.Prelude.{OnOk}
use Rattle.tfpg_search.specs.Work.{NodeBounds, AreFactBounds}
use Rattle.tfpg_search.specs.inside.Counted.{CountsFacts}
use Rattle.tfpg_search.specs.inside.Facts.{AreFactsIn}
use Rattle.tfpg_clause.specs.Facts.{fact}
use Rattle.tfpg_clause.specs.Case.{case_of}
use Rattle.tfpg_search.specs.SearchState.{SearchState}
use Rattle.tfpg_search.specs.inside.LeafCalls.{AddsFacts}
use Rattle.tfpg_search.proofs.search.Search.add_facts.Goals as goal

pub returns-clause-adds : goal.returns-clause-adds
returns-clause-adds g c =
    subst (λ (s : SearchState). AddsFacts (fact (case_of c.args.graph.now c.args.log.now s.reach)) s.leaf c.add_facts.new.self c.add_facts.result)
    c.self.view_is c.add_facts.ensures.adds

pub returns-clause-facts : goal.returns-clause-facts
returns-clause-facts g c =
    subst
    (λ (s : SearchState). OnOk c.add_facts.result ((node : ℕ) → node < length c.args.graph.now.nodes → AreFactsIn (fact (case_of c.args.graph.now c.args.log.now s.reach)) c.add_facts.new.self.demands node))
    c.self.view_is c.add_facts.ensures.facts

pub returns-clause-counts : goal.returns-clause-counts
returns-clause-counts g c bounds given =
    (subst
    (λ (s : SearchState). (bounds : NodeBounds) → AreFactBounds (case_of c.args.graph.now c.args.log.now s.reach) bounds
    → CountsFacts bounds s.leaf c.add_facts.new.self c.args.work.now c.add_facts.new.work c.add_facts.result)
    c.self.view_is c.add_facts.ensures.counts bounds given).any
