use Rattle.std.proofs.Common.{sym, ◌∙◌}
use Rattle.tfpg_sim.proofs.laws.only_ones.what_is_generated_is_the_only_one.Goals as goal

pub returns : goal.returns
returns c = λ number size one other graph script other_graph other_script.
    λ i. record { graph = (graph ∙ sym other_graph) i; script = (script ∙ sym other_script) i }
