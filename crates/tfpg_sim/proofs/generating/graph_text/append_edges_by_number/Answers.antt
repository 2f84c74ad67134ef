use Rattle.tfpg_base.proofs.lemmas.Appended.{Appends-err_after}
use Rattle.tfpg_sim.proofs.generating.graph_text.append_edges_by_number.Goals as goal

pub returns-in_err-append_edge_by_number : goal.returns-in_err-append_edge_by_number
returns-in_err-append_edge_by_number c = Appends-err_after _ _ _ _ _ _ c.from_residual.ensures.0 c.loop-edge.invariant c.in_err-append_edge_by_number.ensures
