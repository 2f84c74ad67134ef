use Rattle.tfpg_sim.proofs.lemmas.simulations.OneSimulation.{one_simulation}
use Rattle.tfpg_sim.proofs.laws.only_ones.a_simulation_is_the_only_one.Goals as goal

pub returns : goal.returns
returns c = one_simulation
