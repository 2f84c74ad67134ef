use Rattle.std.proofs.Common.{Ok, Err, refl}
use Rattle.tfpg_streams.specs.declared.fault.OutputFault.TheVariants.{WriteFault}
use Rattle.tfpg_answers.specs.Questions.{HasQuestions}
use Rattle.tfpg_run.specs.World.{world}
use Rattle.tfpg_run.specs.inside.Faults.{end_of_table_fault}
use Rattle.tfpg_run.specs.TooMany.{TextEndsUnlessTooMany}
use Rattle.tfpg_run.specs.declared.end.End.TheVariants as ends
use Rattle.tfpg_run.proofs.lemmas.Stops.{ends_by_files, stops_by_files, text_with_table, text_without_table}
use Rattle.tfpg_run.proofs.lemmas.Written.{cut_text, whole_text}
use Rattle.tfpg_run.proofs.ask.ask_by_files.Goals as goal

pub returns-in_err-text-clause-stopped : goal.returns-in_err-text-clause-stopped
returns-in_err-text-clause-stopped g c = λ input desk.
    let terms = c.args.terms in
    let graph = c.in_ok-graph.graph in
    let log = c.in_ok-graph.log.items in
    let before = world (g.F.Shelf.state c.args.shelf.now) input (g.K.Sink.state c.args.out.now) desk in
    let now = world (g.F.Shelf.state c.fetch_graph_and_text.new.shelf) input (g.K.Sink.state c.args.out.now) desk in
    stops_by_files c.args.graph_name.now c.args.log_name.now (λ graph log. TextEndsUnlessTooMany (HasQuestions terms graph log) graph terms before now) before now graph log c.in_ok-graph.ensures.given c.in_ok-graph.ensures.fetched
    c.from_residual-in_err-text.result (end_of_table_fault c.in_err-text.field-0.0) c.from_residual-in_err-text.ensures.1
    (text_without_table graph terms before now (HasQuestions terms graph log) c.in_err-text.field-0.0 c.in_err-text.ensures.too_many refl refl)

pub returns-in_err-write_all-clause-stopped : goal.returns-in_err-write_all-clause-stopped
returns-in_err-write_all-clause-stopped g c = λ input desk.
    let terms = c.args.terms in
    let graph = c.in_ok-graph.graph in
    let log = c.in_ok-graph.log.items in
    let text = c.in_ok-text.text in
    let before = world (g.F.Shelf.state c.args.shelf.now) input (g.K.Sink.state c.args.out.now) desk in
    let now = world (g.F.Shelf.state c.fetch_graph_and_text.new.shelf) input (g.K.Sink.state c.write_all.new.out) desk in
    stops_by_files c.args.graph_name.now c.args.log_name.now (λ graph log. TextEndsUnlessTooMany (HasQuestions terms graph log) graph terms before now) before now graph log c.in_ok-graph.ensures.given c.in_ok-graph.ensures.fetched
    c.from_residual-in_err-write_all.result ends.WriteFault c.from_residual-in_err-write_all.ensures.1
    (text_with_table graph terms before now (HasQuestions terms graph log) text c.in_ok-text.ensures.too_many (Err WriteFault)
    (cut_text (HasQuestions terms graph log) before.output now.output text.items c.deref-2.result.now (rw c.deref.ensures.value at c.in_ok-text.ensures.questions) c.deref-2.ensures.value
    c.in_err-write_all.ensures.writes))

pub returns-clause-done : goal.returns-clause-done
returns-clause-done g c = λ input desk.
    let terms = c.args.terms in
    let graph = c.in_ok-graph.graph in
    let log = c.in_ok-graph.log.items in
    let text = c.in_ok-text.text in
    let before = world (g.F.Shelf.state c.args.shelf.now) input (g.K.Sink.state c.args.out.now) desk in
    let now = world (g.F.Shelf.state c.fetch_graph_and_text.new.shelf) input (g.K.Sink.state c.write_all.new.out) desk in
    ends_by_files c.args.graph_name.now c.args.log_name.now (λ graph log. TextEndsUnlessTooMany (HasQuestions terms graph log) graph terms before now) before now graph log c.in_ok-graph.ensures.given c.in_ok-graph.ensures.fetched ends.Done
    (text_with_table graph terms before now (HasQuestions terms graph log) text c.in_ok-text.ensures.too_many (Ok (tt {0}))
    (whole_text (HasQuestions terms graph log) before.output now.output text.items c.deref-2.result.now (rw c.deref.ensures.value at c.in_ok-text.ensures.questions) c.deref-2.ensures.value
    c.in_ok-write_all.ensures.writes))
