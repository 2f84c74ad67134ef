-- Of 16 failure modes there are 137 sets of at most 2, whatever is monitored.
use Rattle.std.proofs.Common.{◌≡◌, ℕ, ◌<◌, length, refl, sym, arith}
use Rattle.tfpg_graph.specs.Graph.{Tfpg, failures}
use Rattle.tfpg_hyp.specs.Hypotheses.{HasHypotheses}
use Rattle.tfpg_hyp.specs.declared.limits.TheConstants.{MAX_HYPOTHESES}
use Rattle.tfpg_hyp.proofs.lemmas.Tables.{one_count, HasHypotheses-counted}
use Rattle.tfpg_sim.specs.declared.limits.TheConstants.{FAILURE_COUNT}
use Rattle.tfpg_run.specs.declared.limits.TheConstants.{GENERATED_K}
use Rattle.tfpg_run.specs.generate.Terms.{generated_terms}

-- they are not too many
pub few_hypotheses : (graph : Tfpg) (count : ℕ) → length (failures graph) ≡ FAILURE_COUNT → MAX_HYPOTHESES < count → HasHypotheses graph generated_terms count → ⊥
few_hypotheses graph count failing many has =
    let same : count ≡ 137 = one_count graph generated_terms count 137 has (HasHypotheses-counted graph generated_terms GENERATED_K 0 refl refl FAILURE_COUNT _ 137 (sym failing) refl refl) in
    omega (arith, same, many)
