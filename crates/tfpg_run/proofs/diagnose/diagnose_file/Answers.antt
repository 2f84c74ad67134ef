use Rattle.std.proofs.Common.{refl, Ok, Err}
use Rattle.tfpg_run.specs.World.{world, streams_of, watched_of}
use Rattle.tfpg_diagnose.proofs.lemmas.CountedHypotheses.{has_reports, not_too_many}
use Rattle.tfpg_run.proofs.lemmas.Stops.{stops_without_graph, stops_without_engine, stops_diagnosis, stops_when_done, diagnosed_for, not_done, fetch_not_done, table_not_done, stream_not_done, within_for}
use Rattle.tfpg_run.specs.EndsOf.{end_of_fetch_fault, end_of_stream_fault}
use Rattle.tfpg_run.specs.inside.Faults.{end_of_table_fault}
use Rattle.tfpg_panel.specs.Desk.{seen_by}
use Rattle.tfpg_run.proofs.diagnose.diagnose_file.Goals as goal

pub returns-in_err-graph-clause-stopped : goal.returns-in_err-graph-clause-stopped
returns-in_err-graph-clause-stopped g c =
    let before = world (g.F.Shelf.state c.args.shelf.now) (g.S.Source.state c.args.input.now) (g.K.Sink.state c.args.out.now) (seen_by g.P.Panel.state c.args.desk.now) in
    let now = world (g.F.Shelf.state c.fetch_graph.new.shelf) (g.S.Source.state c.args.input.now) (g.K.Sink.state c.args.out.now) (seen_by g.P.Panel.state c.args.desk.now) in
    stops_without_graph c.args.subject.now.terms c.args.subject.now.name.now before now c.from_residual.result
    c.in_err-graph.field-0.0 c.in_err-graph.ensures.fault refl c.from_residual.ensures.1

pub returns-in_err-engine-clause-stopped : goal.returns-in_err-engine-clause-stopped
returns-in_err-engine-clause-stopped g c =
    let before = world (g.F.Shelf.state c.args.shelf.now) (g.S.Source.state c.args.input.now) (g.K.Sink.state c.args.out.now) (seen_by g.P.Panel.state c.args.desk.now) in
    let now = world (g.F.Shelf.state c.fetch_graph.new.shelf) (g.S.Source.state c.args.input.now) (g.K.Sink.state c.args.out.now) (seen_by g.P.Panel.state c.args.desk.now) in
    stops_without_engine c.args.subject.now.terms c.args.subject.now.name.now before now c.from_residual-in_err-engine.result
    c.in_ok-graph.graph c.in_ok-graph.ensures.graph c.in_ok-graph.ensures.fetched c.in_err-engine.field-0.0 c.requires (c.a_desk_is_told_round_by_round.ensures.start (seen_by g.P.Panel.state c.args.desk.now) c.always_keeps_its_panels.ensures) c.in_err-engine.ensures.too_many refl c.from_residual-in_err-engine.ensures.1

pub returns-in_err-write_report-clause-stopped : goal.returns-in_err-write_report-clause-stopped
returns-in_err-write_report-clause-stopped g c =
    let before = world (g.F.Shelf.state c.args.shelf.now) (g.S.Source.state c.args.input.now) (g.K.Sink.state c.args.out.now) (seen_by g.P.Panel.state c.args.desk.now) in
    let now = world (g.F.Shelf.state c.fetch_graph.new.shelf) (g.S.Source.state c.write_report.new.input) (g.K.Sink.state c.write_report.new.out) (seen_by g.P.Panel.state c.write_report.new.desk) in
    stops_diagnosis c.args.subject.now.terms c.args.subject.now.name.now before now c.from_residual-in_err-write_report.result
    c.in_ok-graph.graph c.in_ok-graph.ensures.graph c.in_ok-graph.ensures.fetched (not_too_many c.in_ok-graph.graph c.args.subject.now.terms c.in_ok-engine.engine c.in_ok-engine.ensures.too_many) c.in_err-write_report.field-0.0
    (diagnosed_for _ _ _ _ (watched_of before) (watched_of now) (Err c.in_err-write_report.field-0.0) c.in_ok-engine.ensures.graph c.in_ok-engine.ensures.terms c.in_err-write_report.ensures.diagnoses) c.from_residual-in_err-write_report.ensures.1

pub returns-clause-done : goal.returns-clause-done
returns-clause-done g c =
    let before = world (g.F.Shelf.state c.args.shelf.now) (g.S.Source.state c.args.input.now) (g.K.Sink.state c.args.out.now) (seen_by g.P.Panel.state c.args.desk.now) in
    let now = world (g.F.Shelf.state c.fetch_graph.new.shelf) (g.S.Source.state c.write_report.new.input) (g.K.Sink.state c.write_report.new.out) (seen_by g.P.Panel.state c.write_report.new.desk) in
    stops_when_done c.args.subject.now.terms c.args.subject.now.name.now before now
    c.in_ok-graph.graph c.in_ok-graph.ensures.graph c.in_ok-graph.ensures.fetched (not_too_many c.in_ok-graph.graph c.args.subject.now.terms c.in_ok-engine.engine c.in_ok-engine.ensures.too_many)
    (diagnosed_for _ _ _ _ (watched_of before) (watched_of now) (Ok (tt {0})) c.in_ok-engine.ensures.graph c.in_ok-engine.ensures.terms c.in_ok-write_report.ensures.diagnoses)

pub write_report-requires-clause-has_reports : goal.write_report-requires-clause-has_reports
write_report-requires-clause-has_reports g c =
    has_reports c.in_ok-graph.graph c.args.subject.now.terms c.in_ok-engine.engine _ _ c.in_ok-engine.ensures.too_many c.in_ok-engine.ensures.graph c.in_ok-engine.ensures.terms c.requires

pub returns-in_err-graph-clause-work : goal.returns-in_err-graph-clause-work
returns-in_err-graph-clause-work g c done =
    absurd (not_done c.from_residual.result (end_of_fetch_fault c.in_err-graph.field-0.0) (fetch_not_done c.in_err-graph.field-0.0) c.from_residual.ensures.1 done)

pub returns-in_err-engine-clause-work : goal.returns-in_err-engine-clause-work
returns-in_err-engine-clause-work g c done =
    absurd (not_done c.from_residual-in_err-engine.result (end_of_table_fault c.in_err-engine.field-0.0) (table_not_done c.in_err-engine.field-0.0) c.from_residual-in_err-engine.ensures.1 done)

pub returns-in_err-write_report-clause-work : goal.returns-in_err-write_report-clause-work
returns-in_err-write_report-clause-work g c done =
    absurd (not_done c.from_residual-in_err-write_report.result (end_of_stream_fault c.in_err-write_report.field-0.0) (stream_not_done c.in_err-write_report.field-0.0) c.from_residual-in_err-write_report.ensures.1 done)

pub returns-clause-work : goal.returns-clause-work
returns-clause-work g c done =
    let before = world (g.F.Shelf.state c.args.shelf.now) (g.S.Source.state c.args.input.now) (g.K.Sink.state c.args.out.now) (seen_by g.P.Panel.state c.args.desk.now) in
    let now = world (g.F.Shelf.state c.fetch_graph.new.shelf) (g.S.Source.state c.write_report.new.input) (g.K.Sink.state c.write_report.new.out) (seen_by g.P.Panel.state c.write_report.new.desk) in
    record {
      graph = c.in_ok-graph.graph;
      gives = c.in_ok-graph.ensures.graph;
      works = within_for _ c.in_ok-graph.graph _ c.args.subject.now.terms (streams_of before) (streams_of now) c.args.work.now c.write_report.new.work c.in_ok-engine.ensures.graph c.in_ok-engine.ensures.terms c.in_ok-write_report.ensures.work;
    }
