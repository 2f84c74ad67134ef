use Rattle.tfpg_sim.proofs.lemmas.drawn.GeneratedGraphs.{generated_valid}
use Rattle.tfpg_sim.proofs.laws.a_generated_graph_is_valid.Goals as goal

pub returns : goal.returns
returns c = λ number size some few. generated_valid number size some few
