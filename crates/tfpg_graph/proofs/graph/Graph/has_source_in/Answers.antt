use Rattle.std.proofs.Common.{refl, sym, ◌∙◌}
use Rattle.std.proofs.lemmas.Bool.{false≢true}
use Rattle.tfpg_graph.proofs.lemmas.reach.Sources.{incoming_within, source_found, no_source_more, no_source_at_end}
use Rattle.tfpg_graph.proofs.graph.Graph.has_source_in.Goals as goal

pub edge-requires : goal.edge-requires
edge-requires c = incoming_within c.args.self.now c.args.node _ _ c.incoming-number-items.ensures.edges c.loop-number-test.true

pub returns-then-has : goal.returns-then-has
returns-then-has c =
    let found = source_found c.args.self.now c.args.nodes.now c.args.node _ c.incoming-number-items.ensures.edges _ c.edge.result c.loop-number-test.true c.edge.ensures (c.has.ensures.node.0 c.if-has.true) in
    (λ yes. found, λ has. refl)

pub loop-number-preserved : goal.loop-number-preserved
loop-number-preserved c =
    no_source_more c.args.self.now c.args.nodes.now c.args.node _ c.incoming-number-items.ensures.edges _ c.edge.result c.loop-number-test.true c.edge.ensures
    (λ member. false≢true (sym c.if-has.false ∙ c.has.ensures.node.1 member)) c.loop-number.invariant

pub returns : goal.returns
returns c =
    let none = no_source_at_end c.args.self.now c.args.nodes.now c.args.node _ c.incoming-number-items.ensures.edges _ c.loop-number-test.false c.loop-number.invariant in
    (λ yes. absurd (false≢true yes), λ has. absurd (none has))
