use Rattle.tfpg_base.specs.Lines.{lines_of}
use Rattle.tfpg_log.specs.LogOfLines.{log_of_lines}
use Rattle.tfpg_sim.proofs.lemmas.simulations.SimulatedSets.{simulated_members}
use Rattle.tfpg_run.proofs.lemmas.simulate.SimulatedMaps.{simulation_spells}
use Rattle.tfpg_run.proofs.simulate.simulation_text.Goals as goal

pub text_of-requires-clause-members : goal.text_of-requires-clause-members
text_of-requires-clause-members c = simulated_members c.args.graph.now c.args.script.now c.args.draw c.in_ok-simulated.simulated c.in_ok-simulated.ensures.simulated

pub returns-clause-text : goal.returns-clause-text
returns-clause-text c =
    let graph = c.args.graph.now in
    let simulated = c.in_ok-simulated.simulated in
    let says = c.in_ok-simulated.ensures in
    let members = simulated_members graph c.args.script.now c.args.draw simulated says.simulated in
    record {
      simulated = simulated;
      is = says.simulated;
      text_is = c.in_ok-text_of.ensures;
      spells = simulation_spells graph (log_of_lines graph (lines_of simulated.log)) simulated c.args.trace c.in_ok-text_of.field-0.items c.is_always_valid.ensures.valid
          (c.a_log_of_lines_is_of_its_graph.ensures.ordered graph (lines_of simulated.log)) (record { rising = c.len-rising.ensures.set.rising; members = members }) says.explained c.in_ok-text_of.ensures;
    }
