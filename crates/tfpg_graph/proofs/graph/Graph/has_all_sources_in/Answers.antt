use Rattle.std.proofs.Common.{refl, sym, ◌∙◌}
use Rattle.std.proofs.lemmas.Bool.{false≢true}
use Rattle.tfpg_graph.proofs.lemmas.reach.Sources.{incoming_within, source_lacks, source_more, all_sources_at_end}
use Rattle.tfpg_graph.proofs.graph.Graph.has_all_sources_in.Goals as goal

pub edge-requires : goal.edge-requires
edge-requires c = incoming_within c.args.self.now c.args.node _ _ c.incoming-number-items.ensures.edges c.loop-number-test.true

pub returns : goal.returns
returns c =
    let all = all_sources_at_end c.args.self.now c.args.nodes.now c.args.node _ c.incoming-number-items.ensures.edges _ c.loop-number-test.false c.loop-number.invariant in
    (λ yes. all, λ has. refl)

pub returns-then-not-has : goal.returns-then-not-has
returns-then-not-has c =
    let lacks = source_lacks c.args.self.now c.args.nodes.now c.args.node _ c.incoming-number-items.ensures.edges _ c.edge.result c.loop-number-test.true c.edge.ensures
    (λ member. false≢true (sym c.if-not-has.true ∙ c.has.ensures.node.1 member)) in
    (λ yes. absurd (false≢true yes), λ all. absurd (lacks all))

pub loop-number-preserved : goal.loop-number-preserved
loop-number-preserved c =
    source_more c.args.self.now c.args.nodes.now c.args.node _ c.incoming-number-items.ensures.edges _ c.edge.result c.loop-number-test.true c.edge.ensures
    (c.has.ensures.node.0 c.if-not-has.false) c.loop-number.invariant
