use Rattle.std.proofs.Common.{nat_eq, slice_get, refl, sym, ◌∙◌}
use Rattle.std.specs.Prelude.{IsSomeAnd}
use Rattle.std.proofs.lemmas.List.Elements.{All-more}
use Rattle.std.proofs.lemmas.Bool.{false≢true}
use Rattle.tfpg_log.specs.Rules.{HasAge}
use Rattle.tfpg_base.proofs.lemmas.lists.Numbered.{number_within, some_at_index, none_at_indexes}
use Rattle.tfpg_trace.proofs.may.some_arrives.Goals as goal

pub has_carried-requires-clause-edge : goal.has_carried-requires-clause-edge
has_carried-requires-clause-edge c =
    number_within (λ edge. nat_eq edge.target c.args.node) c.args.graph.now.edges
    (λ e. HasAge c.args.log.now c.args.trace.now e c.args.time e.tmin)
    c.incoming-incoming.result.now c.incoming-incoming.ensures.edges c.loop-number.number-index c.loop-number-test.true

pub returns-then-has_carried : goal.returns-then-has_carried
returns-then-has_carried c = (
  λ yes.
      some_at_index (λ edge. nat_eq edge.target c.args.node) c.args.graph.now.edges
      (λ e. HasAge c.args.log.now c.args.trace.now e c.args.time e.tmin)
      c.incoming-incoming.result.now c.incoming-incoming.ensures.edges c.loop-number.number-index c.loop-number-test.true
      (c.has_carried.ensures.0 c.if-has_carried.true),
  λ some. refl,
)

pub loop-number-preserved : goal.loop-number-preserved
loop-number-preserved c =
    All-more
    (λ number. IsSomeAnd (slice_get c.args.graph.now.edges number) (λ e. HasAge c.args.log.now c.args.trace.now e c.args.time e.tmin) → ⊥)
    c.incoming-incoming.result.now c.loop-number.number-index 0 c.loop-number-test.true c.loop-number.invariant
    (λ arrived. false≢true (sym c.if-has_carried.false ∙ c.has_carried.ensures.1 arrived))

pub returns : goal.returns
returns c = (
  λ no. absurd (false≢true no),
  λ some.
      absurd
      (none_at_indexes (λ edge. nat_eq edge.target c.args.node) c.args.graph.now.edges
      (λ e. HasAge c.args.log.now c.args.trace.now e c.args.time e.tmin)
      c.incoming-incoming.result.now c.incoming-incoming.ensures.edges c.loop-number.number-index c.loop-number-test.false c.loop-number.invariant some),
)
