-- What holds before a node holds before the next.
use Rattle.std.proofs.Common.{ℕ, ◌+◌, inl, inr, subst, sym, List}
use Rattle.tfpg_base.proofs.lemmas.lists.Sequences.{below_or_last}
use Rattle.tfpg_base.specs.declared.activation.Activation.{Activation}
use Rattle.tfpg_graph.specs.Graph.{Tfpg}
use Rattle.tfpg_log.specs.Log.{Logbook}
use Rattle.tfpg_log.specs.Rules.{KeepsRulesOf}
use Rattle.tfpg_trace.specs.FirstFault.{NoneBefore}
use Rattle.tfpg_trace.specs.inside.RuleFaults.{KeepRulesBefore}

-- one node more that has it not
pub NoneBefore-more : (Has : ℕ → ℕ → Type 0) (end : ℕ) → NoneBefore Has end → ((time : ℕ) → Has end time → ⊥) → NoneBefore Has (end + 1)
NoneBefore-more Has end before here node time within has =
    elim (below_or_last node end within) [
      | inl earlier ↦ before node time earlier has
      | inr same ↦ here time (subst (λ n. Has n time) same has)
    ]

-- one node more that keeps the rules
pub KeepRulesBefore-more : (graph : Tfpg) (log : Logbook) (trace : List Activation) (end : ℕ) → KeepRulesBefore graph log trace end
    → KeepsRulesOf graph log trace end
    → KeepRulesBefore graph log trace (end + 1)
KeepRulesBefore-more graph log trace end before here node within =
    elim (below_or_last node end within) [
      | inl earlier ↦ before node earlier
      | inr same ↦ subst (KeepsRulesOf graph log trace) (sym same) here
    ]
