use Rattle.std.proofs.Common.{nat_eq, refl, sym, ◌∙◌}
use Rattle.std.proofs.lemmas.Bool.{false≢true}
use Rattle.tfpg_log.specs.Rules.{HasAge}
use Rattle.tfpg_base.proofs.lemmas.lists.Numbered.{number_within, not_all_at_index, all_at_indexes}
use Rattle.tfpg_trace.proofs.may.all_arrive.Goals as goal

pub has_carried-requires-clause-edge : goal.has_carried-requires-clause-edge
has_carried-requires-clause-edge c =
    number_within (λ edge. nat_eq edge.target c.args.node) c.args.graph.now.edges
    (λ e. HasAge c.args.log.now c.args.trace.now e c.args.time e.tmin)
    c.incoming-incoming.result.now c.incoming-incoming.ensures.edges c.loop-number.number-index c.loop-number-test.true

pub returns-then-not-has_carried : goal.returns-then-not-has_carried
returns-then-not-has_carried c = (
  λ no. absurd (false≢true no),
  λ all.
      absurd
      (not_all_at_index (λ edge. nat_eq edge.target c.args.node) c.args.graph.now.edges
      (λ e. HasAge c.args.log.now c.args.trace.now e c.args.time e.tmin)
      c.incoming-incoming.result.now c.incoming-incoming.ensures.edges c.loop-number.number-index c.loop-number-test.true
      (λ arrived. false≢true (sym c.if-not-has_carried.true ∙ c.has_carried.ensures.1 arrived)) all),
)

pub returns : goal.returns
returns c = (
  λ yes.
      all_at_indexes (λ edge. nat_eq edge.target c.args.node) c.args.graph.now.edges
      (λ e. HasAge c.args.log.now c.args.trace.now e c.args.time e.tmin)
      c.incoming-incoming.result.now c.incoming-incoming.ensures.edges c.loop-number.number-index c.loop-number-test.false c.loop-number.invariant,
  λ all. refl,
)
