use Rattle.std.proofs.Common.{◌+◌, Some, None, length, sym, subst, arith}
use Rattle.tfpg_graph.proofs.lemmas.reach.Sources.{incoming_within}
use Rattle.tfpg_trace.specs.inside.Due.{Begins, AllDue}
use Rattle.tfpg_trace.proofs.lemmas.Beginnings.{EachOf, each_of_none, begins_each_more, never_each}
use Rattle.tfpg_trace.proofs.lemmas.SpanOrder.{in_order}
use Rattle.tfpg_trace.proofs.lemmas.DueInto.{DueAt, all_by_indexes}
use Rattle.tfpg_trace.proofs.lemmas.GapsOver.{gap_at}
use Rattle.tfpg_trace.proofs.due.due_by_all.Goals as goal

pub loop-index-init : goal.loop-index-init
loop-index-init c log number starts =
    each_of_none
    (DueAt c.args.graph.now log c.args.trace.now c.incoming-incoming.result.now) c.args.start.now.span.lo c.args.start.now.span.hi
    (in_order log number c.args.start.now.span starts.here)

pub due_by_edge-requires : goal.due_by_edge-requires
due_by_edge-requires c =
    incoming_within c.args.graph.now c.args.start.now.node c.loop-index.index c.incoming-incoming.result.now c.incoming-incoming.ensures.edges c.loop-index-test.true

pub returns-in_err-due : goal.returns-in_err-due
returns-in_err-due c log number starts =
    let numbers = c.incoming-incoming.result.now in
    let Due = DueAt c.args.graph.now log c.args.trace.now numbers in
    let gap = gap_at c.args.graph.now log c.args.start.now.node number c.loop-index.index numbers c.args.start.now.gaps.now _
    c.incoming-incoming.ensures.edges c.loop-index-test.true c.requires.room starts.are in
    let never : Begins
    (AllDue c.args.graph.now log c.args.trace.now c.args.start.now.node) c.args.start.now.span.lo c.args.start.now.span.hi None =
    all_by_indexes c.args.graph.now log c.args.trace.now c.args.start.now.node c.args.start.now.span.lo c.args.start.now.span.hi
    (length numbers) numbers None
    c.incoming-incoming.ensures.edges (omega arith)
    (never_each Due c.args.start.now.span.lo c.args.start.now.span.hi (length numbers) c.loop-index.index c.loop-index-test.true
    (c.in_err-due.ensures log number starts.here gap)) in
    subst (Begins (AllDue c.args.graph.now log c.args.trace.now c.args.start.now.node) c.args.start.now.span.lo c.args.start.now.span.hi)
    (sym c.from_residual.ensures) never

pub loop-index-preserved : goal.loop-index-preserved
loop-index-preserved c log number starts =
    let Due = DueAt c.args.graph.now log c.args.trace.now c.incoming-incoming.result.now in
    let gap =
    gap_at c.args.graph.now log c.args.start.now.node number c.loop-index.index c.incoming-incoming.result.now c.args.start.now.gaps.now _
    c.incoming-incoming.ensures.edges c.loop-index-test.true c.requires.room starts.are in
    subst (λ first. Begins (EachOf Due (c.loop-index.index + 1)) c.args.start.now.span.lo c.args.start.now.span.hi (Some first))
    (sym c.max-first.ensures)
    (begins_each_more Due c.args.start.now.span.lo c.args.start.now.span.hi c.loop-index.index c.loop-index.first c.in_ok-due.due
    (c.loop-index.invariant log number starts) (c.in_ok-due.ensures log number starts.here gap))

pub returns : goal.returns
returns c log number starts =
    all_by_indexes c.args.graph.now log c.args.trace.now c.args.start.now.node c.args.start.now.span.lo c.args.start.now.span.hi c.loop-index.index
    c.incoming-incoming.result.now (Some c.loop-index.first) c.incoming-incoming.ensures.edges (omega arith)
    (c.loop-index.invariant log number starts)
