-- That a trace has no node that is late, and no stranger, by its activations.
use Rattle.std.proofs.Common.{◌≡◌, ◌<◌, ℕ, true, List, length, nat_le, sym, subst, arith}
use Rattle.std.specs.Prelude.{All}
use Rattle.std.specs.List.{list_all}
use Rattle.std.proofs.lemmas.Bool.Decides.{nat_tests}
use Rattle.std.proofs.lemmas.List.Sums.{AllPass-from_list_all}
use Rattle.tfpg_base.specs.declared.activation.Activation.{Activation}
use Rattle.tfpg_base.proofs.lemmas.TraceTimes.{time_holds}
use Rattle.tfpg_graph.specs.Graph.{Tfpg}
use Rattle.tfpg_log.specs.Log.{Logbook, now_of}
use Rattle.tfpg_trace.specs.FirstFault.{IsLate, IsStranger}
use Rattle.tfpg_trace.specs.inside.Strays.{IsOutside}

not_both : (time now : ℕ) → nat_le time now ≡ true → now < time → ⊥
not_both time now by_now late = grind (arith, nat_tests)

-- no node is late where no activation is after now
pub none_late : (log : Logbook) (trace : List Activation) (now : ℕ) (activations : List Activation) (node time : ℕ) → now ≡ now_of log
    → activations ≡ trace
    → list_all (λ (a : Activation). nat_le a.time now) activations ≡ true → IsLate log trace node time → ⊥
none_late log trace now activations node time is same all late =
    let each =
    subst (All (λ (a : Activation). nat_le a.time now ≡ true)) same
    (AllPass-from_list_all (λ (a : Activation). nat_le a.time now) activations all) in
    not_both time now (time_holds (λ (a : Activation). nat_le a.time now ≡ true) trace node time each late.at)
    (subst (λ (n : ℕ). n < time) (sym is) late.late)

-- no node is a stranger where no activation is of a failure mode outside the set
pub no_stranger : (graph : Tfpg) (set : List ℕ) (trace activations : List Activation) (node time : ℕ) → activations ≡ trace
    → All (λ (a : Activation). a.node < length graph.nodes → IsOutside graph set a.node → ⊥) activations → node < length graph.nodes
    → IsStranger graph set trace node time → ⊥
no_stranger graph set trace activations node time same each within stranger =
    time_holds (λ (a : Activation). a.node < length graph.nodes → IsOutside graph set a.node → ⊥) trace node time
    (subst (All (λ (a : Activation). a.node < length graph.nodes → IsOutside graph set a.node → ⊥)) same each) stranger.at within
    (record { failure = stranger.failure; outside = stranger.outside })
