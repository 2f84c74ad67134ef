use Rattle.std.proofs.Common.{sym, ◌∙◌}
use Rattle.tfpg_trace.proofs.lemmas.DueEdges.{without_mode, behind}
use Rattle.tfpg_trace.proofs.due.due_by_edge.Goals as goal

pub returns-then-not-is_active_in : goal.returns-then-not-is_active_in
returns-then-not-is_active_in c log number here gap =
    without_mode c.args.graph.now log c.args.trace.now c.args.edge number c.args.span c.edge-propagation.result c.edge-propagation.ensures here
    (sym c.is_active_in.ensures ∙ c.if-not-is_active_in.true)

pub returns : goal.returns
returns c log number here gap =
    behind c.args.graph.now log c.args.trace.now c.args.edge number c.args.span c.edge-propagation.result c.edge-propagation.ensures here
    (sym c.is_active_in.ensures ∙ c.if-not-is_active_in.false) c.args.gap c.in_ok-start.start c.in_ok-delay.delay c.first_after_gap.result
    (gap c.edge-propagation.result c.edge-propagation.ensures) c.in_ok-delay.was (sym c.in_ok-start.ensures) c.first_after_gap.ensures
