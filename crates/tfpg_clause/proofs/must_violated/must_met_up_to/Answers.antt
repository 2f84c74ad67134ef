use Rattle.std.proofs.Common.{ℕ, sym, subst}
use Rattle.std.proofs.lemmas.Bool.{both_ways}
use Rattle.tfpg_clause.specs.inside.Alternatives.{dues_over}
use Rattle.tfpg_clause.specs.inside.FirstSpan.{MeetsIfAny, must_over}
use Rattle.tfpg_clause.proofs.lemmas.first_violated.MustsBySpan.{must_met_without, must_met_within, must_not_met}
use Rattle.tfpg_clause.proofs.must_violated.must_met_up_to.Goals as goal

pub returns-in-None-clause-met : goal.returns-in-None-clause-met
returns-in-None-clause-met c =
    must_met_without c.args.graph.now c.args.log.now c.args.times.now c.args.must.now.node c.args.must.now.edges.now c.args.must.now.edge c.requires.must.due c.args.number c.now.result c.now.ensures.now
    c.in-None.ensures.value

pub returns-then-is_must_met-clause-met : goal.returns-then-is_must_met-clause-met
returns-then-is_must_met-clause-met c =
    must_met_within c.args.graph.now c.args.log.now c.args.times.now c.args.must.now.node c.args.must.now.edges.now c.args.must.now.edge c.requires.must.due c.args.number c.now.result c.now.ensures.now
    c.in-Some.window c.in-Some.ensures.value c.span_of.result
    (subst
    (λ (horizon : ℕ). MeetsIfAny c.args.times.now
    (must_over c.args.must.now.node c.args.number c.in-Some.window
    (dues_over c.args.graph.now c.args.log.now c.args.number horizon c.args.must.now.edges.now)))
    c.now.ensures.now (c.is_must_met.ensures.0 c.if-is_must_met.true)) c.span_of.ensures

pub returns-else-is_must_met-clause-met : goal.returns-else-is_must_met-clause-met
returns-else-is_must_met-clause-met c =
    must_not_met c.args.graph.now c.args.log.now c.args.times.now c.args.must.now.node c.args.must.now.edges.now c.args.must.now.edge c.requires.must.due c.args.number c.now.result c.now.ensures.now
    c.in-Some.window c.in-Some.ensures.value (λ met. both_ways c.is_must_met.result c.if-is_must_met.false (c.is_must_met.ensures.1
    (subst
    (λ (horizon : ℕ). MeetsIfAny c.args.times.now
    (must_over c.args.must.now.node c.args.number c.in-Some.window
    (dues_over c.args.graph.now c.args.log.now c.args.number horizon c.args.must.now.edges.now)))
    (sym c.now.ensures.now) met)))
