use Rattle.tfpg_sim.proofs.lemmas.simulations.KeptRules.{keeps}
use Rattle.tfpg_sim.proofs.laws.a_simulated_trace_keeps_the_rules.Goals as goal

pub returns : goal.returns
returns c = λ graph entries number trace valid simulated node instant within upto. keeps graph entries number trace valid simulated node instant within upto
