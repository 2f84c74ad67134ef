use Rattle.std.proofs.Common.{nat_eq, refl, sym, ◌∙◌}
use Rattle.std.proofs.lemmas.Bool.{false≢true}
use Rattle.tfpg_trace.specs.inside.Due.{CanBeDue}
use Rattle.tfpg_base.proofs.lemmas.lists.Numbered.{number_within, not_all_at_index, all_at_indexes}
use Rattle.tfpg_trace.proofs.due_first.all_can_be_due.Goals as goal

pub edge_can_be_due-requires : goal.edge_can_be_due-requires
edge_can_be_due-requires c =
    number_within (λ edge. nat_eq edge.target c.args.node) c.args.graph.now.edges (CanBeDue c.args.trace.now c.args.until)
    c.incoming-incoming.result.now c.incoming-incoming.ensures.edges c.loop-number.number-index c.loop-number-test.true

pub returns-then-not-edge_can_be_due : goal.returns-then-not-edge_can_be_due
returns-then-not-edge_can_be_due c = (
  λ no. absurd (false≢true no),
  λ all.
      absurd
      (not_all_at_index (λ edge. nat_eq edge.target c.args.node) c.args.graph.now.edges (CanBeDue c.args.trace.now c.args.until)
      c.incoming-incoming.result.now c.incoming-incoming.ensures.edges c.loop-number.number-index c.loop-number-test.true
      (λ arrived. false≢true (sym c.if-not-edge_can_be_due.true ∙ c.edge_can_be_due.ensures.1 arrived)) all),
)

pub returns : goal.returns
returns c = (
  λ yes.
      all_at_indexes (λ edge. nat_eq edge.target c.args.node) c.args.graph.now.edges (CanBeDue c.args.trace.now c.args.until)
      c.incoming-incoming.result.now c.incoming-incoming.ensures.edges c.loop-number.number-index c.loop-number-test.false c.loop-number.invariant,
  λ all. refl,
)
