use Rattle.std.proofs.Common.{◌+◌, sym, subst, arith}
use Rattle.tfpg_graph.proofs.lemmas.reach.Sources.{incoming_within}
use Rattle.tfpg_trace.specs.inside.Due.{Begins}
use Rattle.tfpg_trace.proofs.lemmas.Beginnings.{OneOf, begins_one_more}
use Rattle.tfpg_trace.proofs.lemmas.DueInto.{DueAt, some_by_indexes}
use Rattle.tfpg_trace.proofs.lemmas.GapsOver.{gap_at}
use Rattle.tfpg_trace.proofs.due.due_by_some.Goals as goal

pub due_by_edge-requires : goal.due_by_edge-requires
due_by_edge-requires c =
    incoming_within c.args.graph.now c.args.start.now.node c.loop-index.index c.incoming-incoming.result.now c.incoming-incoming.ensures.edges c.loop-index-test.true

pub loop-index-preserved : goal.loop-index-preserved
loop-index-preserved c log number starts =
    let Due = DueAt c.args.graph.now log c.args.trace.now c.incoming-incoming.result.now in
    let gap =
    gap_at c.args.graph.now log c.args.start.now.node number c.loop-index.index c.incoming-incoming.result.now c.args.start.now.gaps.now _
    c.incoming-incoming.ensures.edges c.loop-index-test.true c.requires.room starts.are in
    subst (Begins (OneOf Due (c.loop-index.index + 1)) c.args.start.now.span.lo c.args.start.now.span.hi) (sym c.earlier-first.ensures)
    (begins_one_more Due c.args.start.now.span.lo c.args.start.now.span.hi c.loop-index.index c.loop-index.first c.due_by_edge.result
    (c.loop-index.invariant log number starts) (c.due_by_edge.ensures log number starts.here gap))

pub returns : goal.returns
returns c log number starts =
    some_by_indexes c.args.graph.now log c.args.trace.now c.args.start.now.node c.args.start.now.span.lo c.args.start.now.span.hi c.loop-index.index
    c.incoming-incoming.result.now c.loop-index.first c.incoming-incoming.ensures.edges (omega arith)
    (c.loop-index.invariant log number starts)
