use Rattle.std.proofs.Common.{sym, subst}
use Rattle.tfpg_base.specs.Append.{Appends}
use Rattle.tfpg_graph.proofs.lemmas.writing.Spelled.{Spells-canonical}
use Rattle.tfpg_graph.proofs.lemmas.writing.TextPieces.{canonical_text-pieces}
use Rattle.tfpg_graph.proofs.writing.write.Goals as goal
use Rattle.tfpg_base.proofs.lemmas.Appended.{Appends-after_four}

pub returns-in_err-append_header-clause-spelled : goal.returns-in_err-append_header-clause-spelled
returns-in_err-append_header-clause-spelled c = Spells-canonical c.args.graph.now c.node_count-nodes.ensures.valid

pub returns-in_err-append_modes-clause-spelled : goal.returns-in_err-append_modes-clause-spelled
returns-in_err-append_modes-clause-spelled c = Spells-canonical c.args.graph.now c.node_count-nodes.ensures.valid

pub returns-in_err-append_nodes-clause-spelled : goal.returns-in_err-append_nodes-clause-spelled
returns-in_err-append_nodes-clause-spelled c = Spells-canonical c.args.graph.now c.node_count-nodes.ensures.valid

pub returns-in_err-append_edges-clause-spelled : goal.returns-in_err-append_edges-clause-spelled
returns-in_err-append_edges-clause-spelled c = Spells-canonical c.args.graph.now c.node_count-nodes.ensures.valid

pub returns-clause-text : goal.returns-clause-text
returns-clause-text c =
    subst (Appends c.append_line.result c.args.into.now.items c.append_line.new.into.items) (sym (canonical_text-pieces c.args.graph.now c.version_for-version.result c.version_for-version.ensures))
    (Appends-after_four _ c.args.into.now.items _ _ _ _ _ _ _ _ _ _
    c.in_ok-append_header.ensures c.in_ok-append_modes.ensures c.in_ok-append_nodes.ensures c.in_ok-append_edges.ensures c.append_line.ensures)

pub returns-clause-spelled : goal.returns-clause-spelled
returns-clause-spelled c = Spells-canonical c.args.graph.now c.node_count-nodes.ensures.valid
