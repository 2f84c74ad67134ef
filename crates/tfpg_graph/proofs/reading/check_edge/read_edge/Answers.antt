use Rattle.std.proofs.Common.{rules, ◌≡◌, None, refl, sym, ◌∙◌}
use Rattle.std.proofs.lemmas.Result.{err_from_is_err_and}
use Rattle.tfpg_base.specs.Choice.{first_of}
use Rattle.tfpg_graph.specs.inside.reading.LineCauses.{end_causes}
use Rattle.tfpg_graph.proofs.lemmas.reading.causes.LineJudged.{edge_cause-name, edge_cause-delay, edge_cause-end, edge_cause-room}
use Rattle.tfpg_graph.proofs.reading.check_edge.read_edge.Goals as goal

pub returns-in_err-source-clause-first : goal.returns-in_err-source-clause-first
returns-in_err-source-clause-first c =
    let words = c.args.words in
    let p = err_from_is_err_and c.from_residual.result c.from_residual.ensures.1 in
    rw (p.1, p.2) (edge_cause-name c.args.declared.now words.source.now words.target.now words.tmin.now words.tmax.now words.modes.now c.in_err-source.field-0.0 c.in_err-source.ensures.refused)

pub returns-in_err-tmin-clause-first : goal.returns-in_err-tmin-clause-first
returns-in_err-tmin-clause-first c =
    let words = c.args.words in
    let p = err_from_is_err_and c.from_residual-in_err-tmin.result c.from_residual-in_err-tmin.ensures.1 in
    rw (p.1, p.2)
    (edge_cause-delay c.args.declared.now words.source.now words.target.now words.tmin.now words.tmax.now words.modes.now c.in_ok-source.ensures.clear
    c.in_err-tmin.field-0.0 c.in_err-tmin.ensures.delays)

pub returns-in-Some-clause-first : goal.returns-in-Some-clause-first
returns-in-Some-clause-first c =
    let words = c.args.words in
    edge_cause-end c.args.declared.now words.source.now words.target.now words.tmin.now words.tmax.now words.modes.now c.in_ok-source.ensures.clear
    c.in_ok-tmin.ensures.delays.0 c.in-Some.cause (sym c.end_cause.ensures.first ∙ c.in-Some.is)

pub returns-in-Some-edge_room_cause-clause-first : goal.returns-in-Some-edge_room_cause-clause-first
returns-in-Some-edge_room_cause-clause-first c =
    let words = c.args.words in
    let ended : first_of (end_causes c.args.declared.now words.source.now words.target.now) ≡ None = search rules in
    edge_cause-room c.args.declared.now words.source.now words.target.now words.tmin.now words.tmax.now words.modes.now c.in_ok-source.ensures.clear c.in_ok-tmin.ensures.delays.0 ended
    ∙ sym (c.edge_room_cause.ensures.first words.target.now c.in_ok-source.ensures.named.target_is) ∙ c.in-Some-edge_room_cause.is

pub modes_of-requires-clause-few : goal.modes_of-requires-clause-few
modes_of-requires-clause-few c = c.in_ok-source.ensures.few

pub returns-clause-first : goal.returns-clause-first
returns-clause-first c =
    let words = c.args.words in
    let ended : first_of (end_causes c.args.declared.now words.source.now words.target.now) ≡ None = search rules in (
      edge_cause-room c.args.declared.now words.source.now words.target.now words.tmin.now words.tmax.now words.modes.now c.in_ok-source.ensures.clear c.in_ok-tmin.ensures.delays.0 ended
          ∙ sym (c.edge_room_cause.ensures.first words.target.now c.in_ok-source.ensures.named.target_is) ∙ search rules,
      rw (c.in_ok-source.ensures.named.source_is, c.in_ok-source.ensures.named.target_is, c.in_ok-tmin.ensures.delays.1, c.modes_of.ensures.bits) refl,
    )
