use Rattle.std.proofs.Common.{Ok, Err, refl, inl, inr}
use Rattle.tfpg_diagnose.specs.JudgedReports.{problem_of}
use Rattle.tfpg_run.specs.EndsOf.{end_of_check_fault, end_of_output_fault}
use Rattle.tfpg_run.specs.World.{streams_of, world}
use Rattle.tfpg_run.specs.declared.end.End.TheVariants.{Done}
use Rattle.tfpg_run.specs.check.Checking.{CheckingEnds}
use Rattle.tfpg_run.proofs.lemmas.Stops.{ends_by_files, stops_by_files}
use Rattle.tfpg_run.proofs.check.check_by_files.Goals as goal

pub returns-in_err-rounds-clause-stopped : goal.returns-in_err-rounds-clause-stopped
returns-in_err-rounds-clause-stopped g c desk =
    let before = world (g.F.Shelf.state c.args.shelf.now) (g.S.Source.state c.args.input.now) (g.K.Sink.state c.args.out.now) desk in
    let now = world (g.F.Shelf.state c.fetch_graph_and_text.new.shelf) (g.S.Source.state c.judge_report.new.input) (g.K.Sink.state c.args.out.now) desk in
    let fault = c.in_err-rounds.field-0.0 in
    stops_by_files c.args.graph_name.now c.args.log_name.now (λ graph text. CheckingEnds (problem_of graph text) (streams_of before) (streams_of now)) before now
    c.in_ok-graph.graph c.in_ok-graph.log_text.items c.in_ok-graph.ensures.given c.in_ok-graph.ensures.fetched c.from_residual-in_err-rounds.result (end_of_check_fault fault) c.from_residual-in_err-rounds.ensures.1
    (inl (record { fault = fault; is_fault = c.in_err-rounds.ensures.stopped; end_is = refl; untouched = refl }))

pub returns-in_err-write_accepted-clause-stopped : goal.returns-in_err-write_accepted-clause-stopped
returns-in_err-write_accepted-clause-stopped g c desk =
    let before = world (g.F.Shelf.state c.args.shelf.now) (g.S.Source.state c.args.input.now) (g.K.Sink.state c.args.out.now) desk in
    let now = world (g.F.Shelf.state c.fetch_graph_and_text.new.shelf) (g.S.Source.state c.judge_report.new.input) (g.K.Sink.state c.write_accepted.new.out) desk in
    let fault = c.in_err-write_accepted.field-0.0 in
    stops_by_files c.args.graph_name.now c.args.log_name.now (λ graph text. CheckingEnds (problem_of graph text) (streams_of before) (streams_of now)) before now
    c.in_ok-graph.graph c.in_ok-graph.log_text.items c.in_ok-graph.ensures.given c.in_ok-graph.ensures.fetched c.from_residual-in_err-write_accepted.result (end_of_output_fault fault) c.from_residual-in_err-write_accepted.ensures.1
    (inr (c.in_ok-rounds.rounds, c.in_ok-rounds.ensures.accepted, record { result = Err fault; works = c.in_err-write_accepted.ensures.stopped; end_is = refl }))

pub returns-clause-done : goal.returns-clause-done
returns-clause-done g c desk =
    let before = world (g.F.Shelf.state c.args.shelf.now) (g.S.Source.state c.args.input.now) (g.K.Sink.state c.args.out.now) desk in
    let now = world (g.F.Shelf.state c.fetch_graph_and_text.new.shelf) (g.S.Source.state c.judge_report.new.input) (g.K.Sink.state c.write_accepted.new.out) desk in
    ends_by_files c.args.graph_name.now c.args.log_name.now (λ graph text. CheckingEnds (problem_of graph text) (streams_of before) (streams_of now)) before now
    c.in_ok-graph.graph c.in_ok-graph.log_text.items c.in_ok-graph.ensures.given c.in_ok-graph.ensures.fetched Done
    (inr (c.in_ok-rounds.rounds, c.in_ok-rounds.ensures.accepted, record { result = Ok tt; works = c.in_ok-write_accepted.ensures.done; end_is = refl }))
