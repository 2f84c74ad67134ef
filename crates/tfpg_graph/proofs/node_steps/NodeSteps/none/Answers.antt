use Rattle.std.proofs.Common.{ℕ, List, sym, subst}
use Rattle.tfpg_graph.specs.inside.zero_cycle.ZeroSearch.{AreStepsWithin}
use Rattle.tfpg_graph.proofs.lemmas.zero_cycle.StepRows.{AreStepsWithin-none}
use Rattle.tfpg_graph.proofs.node_steps.NodeSteps.none.Goals as goal

pub invariant_of-result : goal.invariant_of-result
invariant_of-result c = subst (λ (rows : List (List ℕ)). AreStepsWithin rows) (sym c.loop.invariant)
    (AreStepsWithin-none c.loop.counter)
