use Rattle.tfpg_graph.proofs.lemmas.reach.Sources.{incoming_within}
use Rattle.tfpg_trace.proofs.gaps.pass_span.Goals as goal

pub gap_after-requires : goal.gap_after-requires
gap_after-requires c =
    incoming_within c.args.graph.now c.args.node c.loop-index.index c.incoming-incoming.result.now c.incoming-incoming.ensures.edges c.loop-index-test.true
