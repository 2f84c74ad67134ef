use Rattle.std.proofs.Common.{nat_eq, slice_get, refl, sym, ◌∙◌}
use Rattle.std.specs.Prelude.{IsSomeAnd}
use Rattle.std.proofs.lemmas.List.Elements.{All-more}
use Rattle.std.proofs.lemmas.Bool.{false≢true}
use Rattle.tfpg_trace.specs.inside.Due.{CanBeDue}
use Rattle.tfpg_base.proofs.lemmas.lists.Numbered.{number_within, some_at_index, none_at_indexes}
use Rattle.tfpg_trace.proofs.due_first.some_can_be_due.Goals as goal

pub edge_can_be_due-requires : goal.edge_can_be_due-requires
edge_can_be_due-requires c =
    number_within (λ edge. nat_eq edge.target c.args.node) c.args.graph.now.edges (CanBeDue c.args.trace.now c.args.until)
    c.incoming-incoming.result.now c.incoming-incoming.ensures.edges c.loop-number.number-index c.loop-number-test.true

pub returns-then-edge_can_be_due : goal.returns-then-edge_can_be_due
returns-then-edge_can_be_due c = (
  λ yes.
      some_at_index (λ edge. nat_eq edge.target c.args.node) c.args.graph.now.edges (CanBeDue c.args.trace.now c.args.until)
      c.incoming-incoming.result.now c.incoming-incoming.ensures.edges c.loop-number.number-index c.loop-number-test.true
      (c.edge_can_be_due.ensures.0 c.if-edge_can_be_due.true),
  λ some. refl,
)

pub loop-number-preserved : goal.loop-number-preserved
loop-number-preserved c =
    All-more (λ number. IsSomeAnd (slice_get c.args.graph.now.edges number) (CanBeDue c.args.trace.now c.args.until) → ⊥)
    c.incoming-incoming.result.now c.loop-number.number-index 0 c.loop-number-test.true c.loop-number.invariant
    (λ arrived. false≢true (sym c.if-edge_can_be_due.false ∙ c.edge_can_be_due.ensures.1 arrived))

pub returns : goal.returns
returns c = (
  λ no. absurd (false≢true no),
  λ some.
      absurd
      (none_at_indexes (λ edge. nat_eq edge.target c.args.node) c.args.graph.now.edges (CanBeDue c.args.trace.now c.args.until)
      c.incoming-incoming.result.now c.incoming-incoming.ensures.edges c.loop-number.number-index c.loop-number-test.false c.loop-number.invariant some),
)
