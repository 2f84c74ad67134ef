use Rattle.tfpg_run.specs.declared.end.End.TheVariants as ends
use Rattle.tfpg_run.specs.inside.Faults.{end_of_sim_fault}
use Rattle.std.proofs.Common.{refl}
use Rattle.tfpg_run.specs.World.{world}
use Rattle.tfpg_run.specs.simulate.Simulating.{HasSimulation, SimulationEnds}
use Rattle.tfpg_run.proofs.lemmas.Stops.{ends_by_files, stops_by_files}
use Rattle.tfpg_run.proofs.lemmas.simulate.Endings.{not_simulated, simulation_cut, simulation_written}
use Rattle.tfpg_run.proofs.simulate.simulate_files.Goals as goal

pub returns-in_err-text-clause-stopped : goal.returns-in_err-text-clause-stopped
returns-in_err-text-clause-stopped g c = λ input desk.
    let right = HasSimulation c.args.draw c.args.trace in
    let before = world (g.F.Shelf.state c.args.shelf.now) input (g.K.Sink.state c.args.out.now) desk in
    let now = world (g.F.Shelf.state c.fetch_graph_and_text.new.shelf) input (g.K.Sink.state c.args.out.now) desk in
    stops_by_files c.args.graph_name.now c.args.script_name.now (SimulationEnds right before now) before now c.in_ok-graph.graph c.in_ok-graph.script.items
    c.in_ok-graph.ensures.given c.in_ok-graph.ensures.fetched c.from_residual-in_err-text.result (end_of_sim_fault c.in_err-text.field-0.0) c.from_residual-in_err-text.ensures.1
    (not_simulated right before now c.in_ok-graph.graph c.in_ok-graph.script.items c.deref.result.now c.deref.ensures.value refl refl c.in_err-text.field-0.0 c.in_err-text.ensures.fault)

pub returns-in_err-write_all-clause-stopped : goal.returns-in_err-write_all-clause-stopped
returns-in_err-write_all-clause-stopped g c = λ input desk.
    let right = HasSimulation c.args.draw c.args.trace in
    let before = world (g.F.Shelf.state c.args.shelf.now) input (g.K.Sink.state c.args.out.now) desk in
    let now = world (g.F.Shelf.state c.fetch_graph_and_text.new.shelf) input (g.K.Sink.state c.write_all.new.out) desk in
    stops_by_files c.args.graph_name.now c.args.script_name.now (SimulationEnds right before now) before now c.in_ok-graph.graph c.in_ok-graph.script.items
    c.in_ok-graph.ensures.given c.in_ok-graph.ensures.fetched c.from_residual-in_err-write_all.result ends.WriteFault c.from_residual-in_err-write_all.ensures.1
    (simulation_cut right before now c.in_ok-graph.graph c.in_ok-graph.script.items c.deref.result.now c.deref.ensures.value c.in_ok-text.text.items c.deref-2.result.now c.in_ok-text.ensures.text
    c.deref-2.ensures.value c.in_err-write_all.ensures.writes)

pub returns-clause-done : goal.returns-clause-done
returns-clause-done g c = λ input desk.
    let right = HasSimulation c.args.draw c.args.trace in
    let before = world (g.F.Shelf.state c.args.shelf.now) input (g.K.Sink.state c.args.out.now) desk in
    let now = world (g.F.Shelf.state c.fetch_graph_and_text.new.shelf) input (g.K.Sink.state c.write_all.new.out) desk in
    ends_by_files c.args.graph_name.now c.args.script_name.now (SimulationEnds right before now) before now c.in_ok-graph.graph c.in_ok-graph.script.items
    c.in_ok-graph.ensures.given c.in_ok-graph.ensures.fetched ends.Done
    (simulation_written right before now c.in_ok-graph.graph c.in_ok-graph.script.items c.deref.result.now c.deref.ensures.value c.in_ok-text.text.items c.deref-2.result.now c.in_ok-text.ensures.text
    c.deref-2.ensures.value c.in_ok-write_all.ensures.writes)
