use Rattle.tfpg_base.proofs.lemmas.Appended.{Appends-err_after}
use Rattle.tfpg_json.proofs.reading.write_lines.append_nodes.Goals as goal

pub returns-in_err-append_node : goal.returns-in_err-append_node
returns-in_err-append_node c = Appends-err_after _ _ _ _ _ _ c.from_residual.ensures.0 c.loop-node.invariant c.in_err-append_node.ensures
