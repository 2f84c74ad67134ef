use Rattle.std.proofs.Common.{length, ◌-◌}
use Rattle.tfpg_search.specs.inside.Counted.{unset}
use Rattle.tfpg_search.proofs.lemmas.work.CallsPaid.{unset_kept, given_at, given_kept, added_counts, entered_only}
use Rattle.tfpg_search.proofs.lemmas.leaves.MovesStayAtLeaf.{facts_stand, add_loaded, add_closes}
use Rattle.tfpg_search.proofs.search.Search.add_all.Goals as goal
use Rattle.tfpg_clause.specs.inside.MarkedTrees.{stated_on}
use Rattle.tfpg_clause.specs.Case.{case_of}

pub returns-clause-stands : goal.returns-clause-stands
returns-clause-stands g c =
    (facts_stand c.args.graph.now c.args.log.now c.enter.new.self c.enter.ensures.stands c.add_facts.new.self c.add_facts.ensures.same c.add_facts.ensures.adds.nodes c.add_facts.ensures.adds.reasons
    (λ stated before. (c.add_facts.ensures.adds.stated stated before).still))

pub returns-then-has_facts-clause-loaded : goal.returns-then-has_facts-clause-loaded
returns-then-has_facts-clause-loaded g c = record {
  all_entered = c.in_ok-enter.ensures.entered;
  bounds = given_kept c.args.graph.now c.args.log.now c.args.self.now c.enter.new.self c.enter.ensures.keeps c.enter.ensures.bounds (c.requires.facts c.if-has_facts.true);
}

pub returns-clause-loaded : goal.returns-clause-loaded
returns-clause-loaded g c =
    add_loaded c.args.graph.now c.args.log.now c.enter.new.self c.add_facts.new.self c.add_facts.ensures.same c.in_ok-enter.ensures.entered
    (facts_stand c.args.graph.now c.args.log.now c.enter.new.self c.enter.ensures.stands c.add_facts.new.self c.add_facts.ensures.same c.add_facts.ensures.adds.nodes c.add_facts.ensures.adds.reasons
    (λ stated before. (c.add_facts.ensures.adds.stated stated before).still))
    c.add_facts.result c.add_facts.ensures.facts

pub returns-clause-closes : goal.returns-clause-closes
returns-clause-closes g c =
    add_closes c.args.graph.now c.args.log.now c.args.self.now c.enter.new.self c.enter.ensures.keeps c.enter.ensures.path c.add_facts.result
    (c.add_facts.ensures.adds.stated (stated_on (case_of c.args.graph.now c.args.log.now c.enter.new.self.reach) c.enter.new.self.path) c.enter.ensures.stands.stated).closes

pub returns-in_err-enter-clause-counts : goal.returns-in_err-enter-clause-counts
returns-in_err-enter-clause-counts g c bounds given =
    entered_only c.args.work.now c.enter.new.work (unset bounds c.args.self.now.leaf) (unset bounds c.enter.new.self.leaf) (length c.args.self.now.path - length c.args.self.now.entered)
    c.enter.ensures.counts (unset_kept bounds c.args.self.now.leaf c.enter.new.self.leaf c.enter.ensures.bounds)

pub returns-then-has_facts-clause-counts : goal.returns-then-has_facts-clause-counts
returns-then-has_facts-clause-counts g c bounds given =
    entered_only c.args.work.now c.enter.new.work (unset bounds c.args.self.now.leaf) (unset bounds c.enter.new.self.leaf) (length c.args.self.now.path - length c.args.self.now.entered)
    c.enter.ensures.counts (unset_kept bounds c.args.self.now.leaf c.enter.new.self.leaf c.enter.ensures.bounds)

pub returns-clause-counts : goal.returns-clause-counts
returns-clause-counts g c bounds given =
    added_counts c.args.work.now c.enter.new.work c.add_facts.new.work (unset bounds c.args.self.now.leaf) (unset bounds c.enter.new.self.leaf) (unset bounds c.add_facts.new.self.leaf)
    (length c.args.self.now.path - length c.args.self.now.entered) c.enter.ensures.counts (unset_kept bounds c.args.self.now.leaf c.enter.new.self.leaf c.enter.ensures.bounds)
    (c.add_facts.ensures.counts bounds (given_at c.args.graph.now c.args.log.now c.args.self.now c.enter.new.self c.enter.ensures.keeps.reach bounds given))
