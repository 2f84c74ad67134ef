use Rattle.std.proofs.Common.{get_or, sym, ap, subst, ◌∙◌}
use Rattle.std.proofs.lemmas.Bool.{both_ways}
use Rattle.tfpg_log.specs.Spans.{span_at}
use Rattle.tfpg_clause.specs.Clauses.{MeetsClause}
use Rattle.tfpg_clause.specs.inside.Alternatives.{arrivals_over}
use Rattle.tfpg_clause.proofs.lemmas.logs.SpanNumbers.{numbered_so, after_now}
use Rattle.tfpg_clause.proofs.lemmas.first_violated.MaySpans.{never_violated, met_without, met_by_arrival, is_first}
use Rattle.tfpg_clause.proofs.may_violated.may_violated.Goals as goal

pub returns-in_err-number : goal.returns-in_err-number
returns-in_err-number c =
    rw c.from_residual.ensures
    (never_violated c.args.graph.now c.args.log.now c.args.times.now c.args.node c.args.edges.now
    (after_now c.args.log.now (get_or c.args.times.now c.args.node 0) c.in_err-number.ensures))

pub returns-in_err-span : goal.returns-in_err-span
returns-in_err-span c =
    let number = c.in_ok-number.number in
    rw c.from_residual-in_err-span.ensures
    (met_without c.args.graph.now c.args.log.now c.args.times.now c.args.node c.args.edges.now number
    (numbered_so c.args.log.now (get_or c.args.times.now c.args.node 0) number c.in_ok-number.ensures).1
    (c.in_err-span.ensures.value ∙ ap (span_at c.args.log.now number) c.now.ensures.now))

pub returns-then-has_arrived : goal.returns-then-has_arrived
returns-then-has_arrived c =
    let number = c.in_ok-number.number in
    let span = c.in_ok-span.span in
    met_by_arrival c.args.graph.now c.args.log.now c.args.times.now c.args.node c.args.edges.now number
    (numbered_so c.args.log.now (get_or c.args.times.now c.args.node 0) number c.in_ok-number.ensures).1 span
    (sym (c.in_ok-span.ensures.value ∙ ap (span_at c.args.log.now number) c.now.ensures.now))
    (subst
    (λ horizon. MeetsClause c.args.times.now
    (arrivals_over c.args.graph.now c.args.log.now number horizon span c.args.edges.now)) c.now.ensures.now
    (c.has_arrived.ensures.0 c.if-has_arrived.true))

pub returns : goal.returns
returns c =
    let number = c.in_ok-number.number in
    let span = c.in_ok-span.span in
    let here = numbered_so c.args.log.now (get_or c.args.times.now c.args.node 0) number c.in_ok-number.ensures in
    is_first c.args.graph.now c.args.log.now c.args.times.now c.args.node c.args.edges.now number here.1 span
    (sym (c.in_ok-span.ensures.value ∙ ap (span_at c.args.log.now number) c.now.ensures.now)) here.0
    (λ met.
    both_ways c.has_arrived.result
    c.if-has_arrived.false
    (c.has_arrived.ensures.1
    (subst (λ horizon. MeetsClause c.args.times.now (arrivals_over c.args.graph.now c.args.log.now number horizon span c.args.edges.now))
    (sym c.now.ensures.now) met)))
