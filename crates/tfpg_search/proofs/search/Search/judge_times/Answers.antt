-- Times between the bounds that violate no clause give a trace.
use Rattle.std.proofs.Common.{ℕ, [], sym, ap, subst, ◌∙◌}
use Rattle.tfpg_log.specs.Explains.{Explains}
use Rattle.tfpg_clause.specs.Cut.{cut}
use Rattle.tfpg_diff.specs.Demands.{demands_of}
use Rattle.tfpg_diff.specs.Solution.{IsSolution}
use Rattle.tfpg_search.specs.SearchState.{SearchState}
use Rattle.tfpg_search.proofs.lemmas.leaves.ProposedTimes.{facts_met_between, numbers_between}
use Rattle.tfpg_search.proofs.search.Search.judge_times.Goals as goal

pub violated-requires : goal.violated-requires
violated-requires c =
    let between = subst (λ (s : SearchState). IsSolution (demands_of s.leaf.demands.bounds []) c.args.times.now) c.self.view_is (c.allows.ensures.0 c.if-not-allows.false) in
    numbers_between c.clause_laws.ensures c.args.graph.now c.args.log.now c.requires.of c.args.self.now c.requires.stands c.requires.loaded c.args.times.now between

pub returns-in_ok-cut-in-None : goal.returns-in_ok-cut-in-None
returns-in_ok-cut-in-None c =
    let between = subst (λ (s : SearchState). IsSolution (demands_of s.leaf.demands.bounds []) c.args.times.now) c.self.view_is (c.allows.ensures.0 c.if-not-allows.false) in
    subst (Explains c.args.graph.now c.args.log.now c.args.self.now.set) (sym (c.in_ok-cut-in-None.ensures ∙ ap (λ (n : ℕ). cut n c.args.times.now) c.now.ensures))
    (c.numbers_that_meet_all_give_a_trace.ensures.explains c.args.graph.now c.args.log.now c.args.self.now.set c.args.self.now.reach c.args.times.now c.is_always_valid.ensures.valid
    c.requires.of c.is_always_ordered.ensures c.requires.stands.reach_is
    (numbers_between c.clause_laws.ensures c.args.graph.now c.args.log.now c.requires.of c.args.self.now c.requires.stands c.requires.loaded c.args.times.now between)
    (facts_met_between c.clause_laws.ensures c.args.graph.now c.args.log.now c.requires.of c.args.self.now c.requires.stands c.requires.loaded c.args.times.now between)
    (λ name clause at_now allowed. c.in-None.ensures.first name at_now clause allowed))
