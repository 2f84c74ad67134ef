use Rattle.std.proofs.Common.{length, refl, subst, List, ℕ, Ok, Err}
use Rattle.tfpg_base.specs.Words.{comma_parts}
use Rattle.tfpg_run.specs.World.{streams_of, world}
use Rattle.tfpg_streams.specs.Outputs.{WorksToEnd}
use Rattle.tfpg_run.specs.EndsOf.{end_of_fetch_fault, end_of_stream_fault}
use Rattle.tfpg_run.specs.fleet.FleetOutput.{fleet_problem}
use Rattle.tfpg_run.specs.fleet.FleetWork.{IsFleetOutputWithin}
use Rattle.tfpg_run.specs.inside.Faults.{end_of_table_fault}
use Rattle.tfpg_run.proofs.lemmas.Stops.{fetch_not_done, not_done, stream_not_done, table_not_done}
use Rattle.tfpg_run.proofs.lemmas.fleet.NewFleets.{counts_for_names, for_names, has_reports, not_too_many, stops_answering, stops_when_answered, stops_without_fleet}
use Rattle.tfpg_run.proofs.fleet.fleet_file.Goals as goal

pub returns-in_err-watch-clause-stopped : goal.returns-in_err-watch-clause-stopped
returns-in_err-watch-clause-stopped g c desk =
    let before = world (g.F.Shelf.state c.args.shelf.now) (g.S.Source.state c.args.input.now) (g.K.Sink.state c.args.out.now) desk in
    let now = world (g.F.Shelf.state c.fetch_graph_and_names.new.shelf) (g.S.Source.state c.args.input.now) (g.K.Sink.state c.args.out.now) desk in
    let names = comma_parts c.args.subject.now.names.now in
    stops_without_fleet c.args.subject.now.terms c.args.subject.now.file.now (comma_parts c.args.subject.now.names.now) before now c.from_residual-in_err-watch.result c.in_ok-graph.graph c.in_ok-graph.ensures.graph c.in_ok-graph.ensures.fetched
    c.in_err-watch.field-0.0 c.requires.terms
    (counts_for_names c.in_ok-graph.graph c.args.subject.now.terms c.in_ok-graph.names names _ c.in_ok-graph.ensures.names c.in_err-watch.ensures.too_many) refl c.from_residual-in_err-watch.ensures.1

pub answer_stream-requires-clause-has_reports : goal.answer_stream-requires-clause-has_reports
answer_stream-requires-clause-has_reports g c =
    has_reports c.in_ok-graph.graph c.args.subject.now.terms (length c.in_ok-graph.names)
    (not_too_many c.in_ok-graph.graph c.args.subject.now.terms (length c.in_ok-graph.names) c.in_ok-watch.watch c.in_ok-watch.ensures.too_many) c.requires.terms

pub returns-in_err-answer_stream-clause-stopped : goal.returns-in_err-answer_stream-clause-stopped
returns-in_err-answer_stream-clause-stopped g c desk =
    let before = world (g.F.Shelf.state c.args.shelf.now) (g.S.Source.state c.args.input.now) (g.K.Sink.state c.args.out.now) desk in
    let now = world (g.F.Shelf.state c.fetch_graph_and_names.new.shelf) (g.S.Source.state c.answer_stream.new.input) (g.K.Sink.state c.answer_stream.new.out) desk in
    let names = comma_parts c.args.subject.now.names.now in
    stops_answering c.args.subject.now.terms c.args.subject.now.file.now (comma_parts c.args.subject.now.names.now) before now c.from_residual-in_err-answer_stream.result c.in_ok-graph.graph c.in_ok-graph.ensures.graph c.in_ok-graph.ensures.fetched
    (not_too_many c.in_ok-graph.graph c.args.subject.now.terms (length names) c.in_ok-watch.watch
    (counts_for_names c.in_ok-graph.graph c.args.subject.now.terms c.in_ok-graph.names names _ c.in_ok-graph.ensures.names c.in_ok-watch.ensures.too_many))
    c.in_err-answer_stream.field-0.0
    (for_names c.in_ok-graph.graph c.args.subject.now.terms c.in_ok-graph.names names (streams_of before) (streams_of now) (Err c.in_err-answer_stream.field-0.0) c.in_ok-graph.ensures.names c.in_err-answer_stream.ensures.stopped)
    c.from_residual-in_err-answer_stream.ensures.1

pub returns-clause-done : goal.returns-clause-done
returns-clause-done g c desk =
    let before = world (g.F.Shelf.state c.args.shelf.now) (g.S.Source.state c.args.input.now) (g.K.Sink.state c.args.out.now) desk in
    let now = world (g.F.Shelf.state c.fetch_graph_and_names.new.shelf) (g.S.Source.state c.answer_stream.new.input) (g.K.Sink.state c.answer_stream.new.out) desk in
    let names = comma_parts c.args.subject.now.names.now in
    stops_when_answered c.args.subject.now.terms c.args.subject.now.file.now (comma_parts c.args.subject.now.names.now) before now c.in_ok-graph.graph c.in_ok-graph.ensures.graph c.in_ok-graph.ensures.fetched
    (not_too_many c.in_ok-graph.graph c.args.subject.now.terms (length names) c.in_ok-watch.watch
    (counts_for_names c.in_ok-graph.graph c.args.subject.now.terms c.in_ok-graph.names names _ c.in_ok-graph.ensures.names c.in_ok-watch.ensures.too_many))
    (for_names c.in_ok-graph.graph c.args.subject.now.terms c.in_ok-graph.names names (streams_of before) (streams_of now) (Ok (tt {0})) c.in_ok-graph.ensures.names c.in_ok-answer_stream.ensures.done)

pub returns-in_err-graph-clause-work : goal.returns-in_err-graph-clause-work
returns-in_err-graph-clause-work g c desk done =
    absurd (not_done c.from_residual.result (end_of_fetch_fault c.in_err-graph.field-0.0) (fetch_not_done c.in_err-graph.field-0.0) c.from_residual.ensures.1 done)

pub returns-in_err-watch-clause-work : goal.returns-in_err-watch-clause-work
returns-in_err-watch-clause-work g c desk done =
    absurd (not_done c.from_residual-in_err-watch.result (end_of_table_fault c.in_err-watch.field-0.0) (table_not_done c.in_err-watch.field-0.0) c.from_residual-in_err-watch.ensures.1 done)

pub returns-in_err-answer_stream-clause-work : goal.returns-in_err-answer_stream-clause-work
returns-in_err-answer_stream-clause-work g c desk done =
    absurd (not_done c.from_residual-in_err-answer_stream.result (end_of_stream_fault c.in_err-answer_stream.field-0.0) (stream_not_done c.in_err-answer_stream.field-0.0) c.from_residual-in_err-answer_stream.ensures.1 done)

pub returns-clause-work : goal.returns-clause-work
returns-clause-work g c desk done =
    let before = world (g.F.Shelf.state c.args.shelf.now) (g.S.Source.state c.args.input.now) (g.K.Sink.state c.args.out.now) desk in
    let now = world (g.F.Shelf.state c.fetch_graph_and_names.new.shelf) (g.S.Source.state c.answer_stream.new.input) (g.K.Sink.state c.answer_stream.new.out) desk in
    record {
      graph = c.in_ok-graph.graph;
      gives = c.in_ok-graph.ensures.graph;
      works = subst (λ (names : List (List ℕ)). WorksToEnd (IsFleetOutputWithin (fleet_problem c.in_ok-graph.graph c.args.subject.now.terms names) c.args.work.now c.answer_stream.new.work) (streams_of before) (streams_of now))
          c.in_ok-graph.ensures.names c.in_ok-answer_stream.ensures.work;
    }
