use Rattle.tfpg_base.proofs.lemmas.Appended.{Appends-err_after}
use Rattle.tfpg_json.proofs.reading.write_lines.append_edges.Goals as goal

pub returns-in_err-append_edge : goal.returns-in_err-append_edge
returns-in_err-append_edge c = Appends-err_after _ _ _ _ _ _ c.from_residual.ensures.0 c.loop-edge.invariant c.in_err-append_edge.ensures
