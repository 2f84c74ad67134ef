use Rattle.std.proofs.Common.{sym, ◌∙◌}
use Rattle.std.proofs.lemmas.Result.{err_from_is_err_and}
use Rattle.tfpg_graph.specs.inside.reading.StatementSeen.{node_words_of}
use Rattle.tfpg_graph.proofs.lemmas.reading.causes.Judged.{ReadAs-err, ReadAs-ok}
use Rattle.tfpg_graph.proofs.lemmas.reading.causes.LineJudged.{node_cause-name, node_cause-number, node_cause-room}
use Rattle.tfpg_graph.proofs.reading.check_node.read_node.Goals as goal

pub returns-in-Some-clause-first : goal.returns-in-Some-clause-first
returns-in-Some-clause-first c =
    node_cause-name c.args.declared.now c.args.name.now (node_words_of c.args.words) c.in-Some.cause (sym c.node_name_cause.ensures.first ∙ c.in-Some.is)

pub returns-in_err-kind-clause-first : goal.returns-in_err-kind-clause-first
returns-in_err-kind-clause-first c =
    let p = err_from_is_err_and c.from_residual.result c.from_residual.ensures.1 in
    rw (p.1, p.2)
    (node_cause-number c.args.declared.now c.args.name.now (node_words_of c.args.words) (sym c.node_name_cause.ensures.first ∙ c.in_default.is) c.in_err-kind.field-0.0
    (ReadAs-err _ _ c.read_kind.result c.in_err-kind.field-0.0 c.in_err-kind.was c.read_kind.ensures.kind))

pub returns-in-Some-node_room_cause-clause-first : goal.returns-in-Some-node_room_cause-clause-first
returns-in-Some-node_room_cause-clause-first c =
    let read = ReadAs-ok _ _ c.read_kind.result c.in_ok-kind.kind c.in_ok-kind.was c.read_kind.ensures.kind in
    node_cause-room c.args.declared.now c.args.name.now (node_words_of c.args.words) (sym c.node_name_cause.ensures.first ∙ c.in_default.is) c.in_ok-kind.kind read.0 read.1
    ∙ sym c.node_room_cause.ensures.first ∙ c.in-Some-node_room_cause.is
