use Rattle.std.proofs.Common.{refl, arith}
use Rattle.std.proofs.lemmas.Bool.{false≢true}
use Rattle.tfpg_clause.proofs.lemmas.first_violated.MaySpans.{arrived_by, none_arrived}
use Rattle.tfpg_clause.proofs.may_violated.has_arrived.Goals as goal

pub returns-then-has_arrived_by : goal.returns-then-has_arrived_by
returns-then-has_arrived_by c = (
  λ yes. arrived_by c.args.site.now.graph.now c.args.site.now.log.now c.args.times.now c.args.site.now.span c.args.site.now.horizon c.args.span c.args.edges.now c.loop-edge.edge-index c.loop-edge-test.true
      (c.has_arrived_by.ensures.0 c.if-has_arrived_by.true),
  λ met. refl,
)

pub returns : goal.returns
returns c = (
  λ yes. absurd (false≢true yes),
  λ met.
      absurd
      (none_arrived c.args.site.now.graph.now c.args.site.now.log.now c.args.times.now c.args.site.now.span c.args.site.now.horizon c.args.span c.args.edges.now
      (λ k within. c.loop-edge.invariant k (omega arith)) met),
)
