use Rattle.std.proofs.Common.{arith}
use Rattle.tfpg_base.proofs.lemmas.Appended.{Appends-err_after}
use Rattle.tfpg_sim.specs.declared.limits.TheConstants.{FAILURE_COUNT}
use Rattle.tfpg_sim.proofs.lemmas.drawn.GraphTexts.{nodes_next}
use Rattle.tfpg_sim.proofs.generating.graph_text.append_discrepancies.Goals as goal

pub returns-in_err-append_node_by_number : goal.returns-in_err-append_node_by_number
returns-in_err-append_node_by_number c = Appends-err_after _ _ _ _ _ _ c.from_residual.ensures.0 c.loop-index.invariant c.in_err-append_node_by_number.ensures

pub loop-index-preserved : goal.loop-index-preserved
loop-index-preserved c = nodes_next FAILURE_COUNT c.loop-index.index c.args.kinds.now _ c.args.into.now.items c.loop-index.into.items c.append_node_by_number.new.into.items (omega arith) c.loop-index.invariant c.in_ok-append_node_by_number.ensures
