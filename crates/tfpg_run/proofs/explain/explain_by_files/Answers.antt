use Rattle.std.proofs.Common.{List, ℕ, Ok, Err, refl, inl, inr, subst}
use Rattle.tfpg_base.specs.Lines.{lines_of}
use Rattle.tfpg_log.specs.LogOfLines.{log_of_lines}
use Rattle.tfpg_streams.specs.Outputs.{TextEnds}
use Rattle.tfpg_answers.specs.Verdicts.{HasVerdict}
use Rattle.tfpg_run.specs.EndsOf.{end_of_no_map, end_of_output_fault}
use Rattle.tfpg_run.specs.World.{world, streams_of}
use Rattle.tfpg_run.specs.declared.end.End.TheVariants.{Done}
use Rattle.tfpg_run.specs.explain.Explaining.{ExplainingEnds}
use Rattle.tfpg_run.proofs.lemmas.Stops.{ends_by_files, stops_by_files}
use Rattle.tfpg_run.proofs.explain.explain_by_files.Goals as goal

pub returns-in_err-map-clause-stopped : goal.returns-in_err-map-clause-stopped
returns-in_err-map-clause-stopped g c desk =
    let before = world (g.F.Shelf.state c.args.shelf.now) (g.S.Source.state c.args.input.now) (g.K.Sink.state c.args.out.now) desk in
    let now = world (g.F.Shelf.state c.fetch_graph_and_text.new.shelf) (g.S.Source.state c.read_map.new.input) (g.K.Sink.state c.args.out.now) desk in
    let fault = c.in_err-map.field-0.0 in
    stops_by_files c.args.graph_name.now c.args.log_name.now (λ graph text. ExplainingEnds graph (log_of_lines graph (lines_of text)) (streams_of before) (streams_of now)) before now
    c.in_ok-graph.graph c.in_ok-graph.log_text.items c.in_ok-graph.ensures.given c.in_ok-graph.ensures.fetched c.from_residual-in_err-map.result (end_of_no_map fault) c.from_residual-in_err-map.ensures.1
    (inl (record { fault = fault; is_fault = c.in_err-map.ensures.none; end_is = refl; untouched = refl }))

pub returns-in_err-write_verdict-clause-stopped : goal.returns-in_err-write_verdict-clause-stopped
returns-in_err-write_verdict-clause-stopped g c desk =
    let before = world (g.F.Shelf.state c.args.shelf.now) (g.S.Source.state c.args.input.now) (g.K.Sink.state c.args.out.now) desk in
    let now = world (g.F.Shelf.state c.fetch_graph_and_text.new.shelf) (g.S.Source.state c.read_map.new.input) (g.K.Sink.state c.write_verdict.new.out) desk in
    let fault = c.in_err-write_verdict.field-0.0 in
    stops_by_files c.args.graph_name.now c.args.log_name.now (λ graph text. ExplainingEnds graph (log_of_lines graph (lines_of text)) (streams_of before) (streams_of now)) before now
    c.in_ok-graph.graph c.in_ok-graph.log_text.items c.in_ok-graph.ensures.given c.in_ok-graph.ensures.fetched c.from_residual-in_err-write_verdict.result (end_of_output_fault fault)
    c.from_residual-in_err-write_verdict.ensures.1
    (inr (
      c.in_ok-map.map,
      c.in_ok-map.ensures.map,
      record {
        result = Err fault;
        works = subst (λ (text : List ℕ). TextEnds (HasVerdict c.in_ok-graph.graph (log_of_lines c.in_ok-graph.graph (lines_of text)) c.in_ok-map.map) before.output now.output (Err fault))
            c.deref.ensures.value c.in_err-write_verdict.ensures.stopped;
        end_is = refl;
      },
    ))

pub returns-clause-done : goal.returns-clause-done
returns-clause-done g c desk =
    let before = world (g.F.Shelf.state c.args.shelf.now) (g.S.Source.state c.args.input.now) (g.K.Sink.state c.args.out.now) desk in
    let now = world (g.F.Shelf.state c.fetch_graph_and_text.new.shelf) (g.S.Source.state c.read_map.new.input) (g.K.Sink.state c.write_verdict.new.out) desk in
    ends_by_files c.args.graph_name.now c.args.log_name.now (λ graph text. ExplainingEnds graph (log_of_lines graph (lines_of text)) (streams_of before) (streams_of now)) before now
    c.in_ok-graph.graph c.in_ok-graph.log_text.items c.in_ok-graph.ensures.given c.in_ok-graph.ensures.fetched Done
    (inr (
      c.in_ok-map.map,
      c.in_ok-map.ensures.map,
      record { result = Ok tt; works = rw c.deref.ensures.value at c.in_ok-write_verdict.ensures.done; end_is = refl },
    ))
