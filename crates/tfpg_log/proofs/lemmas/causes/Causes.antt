-- Why a node is active in a trace that explains a log: it is a failure mode of the set, or the failure has arrived.
use Rattle.std.proofs.Common.{◌≡◌, ℕ, ◌<◌, ◌≤◌, Bool, true, false, ◌⊎◌, List, length, Option, Some, None, refl, ap, ◌∙◌, inl, inr}
use Rattle.std.specs.Option.{option_map_or}
use Rattle.std.specs.Prelude.{IsTrue, Contains, is_some, slice_get}
use Rattle.std.proofs.lemmas.List.Elements.{All-contains}
use Rattle.tfpg_base.proofs.lemmas.lists.Elements.{slice_get-there}
use Rattle.tfpg_base.proofs.lemmas.lists.Choices.{is_some-option_map}
use Rattle.tfpg_base.proofs.lemmas.TraceTimes.{activation_there}
use Rattle.tfpg_base.specs.declared.activation.Activation.{Activation}
use Rattle.tfpg_base.specs.Trace.{time_of}
use Rattle.tfpg_graph.specs.declared.kind.Kind.{Kind}
use Rattle.tfpg_graph.specs.declared.kind.Kind.TheVariants.{Failure, Or, And}
use Rattle.tfpg_graph.specs.Graph.{Tfpg, is_kind_at, is_failure, is_or, is_and, kind_at}
use Rattle.tfpg_log.specs.Log.{Logbook, now_of}
use Rattle.tfpg_log.specs.Rules.{SomeArrives, AllArrive}
use Rattle.tfpg_log.specs.Explains.{IsMember, Explains}

-- a node is a failure mode, an OR node or an AND node
abbrev IsOfKind : (Kind → Bool) → Option Kind → Type 0
IsOfKind is_kind kind = IsTrue (option_map_or is_kind kind false)

kinds : (kind : Option Kind) → is_some kind ≡ true → IsOfKind is_failure kind ⊎ (IsOfKind is_or kind ⊎ IsOfKind is_and kind)
kinds None h = absurd cc
kinds (Some (Failure rarity)) h = inl refl
kinds (Some (Or lag)) h = inr (inl refl)
kinds (Some (And lag)) h = inr (inr refl)

-- The node is a failure mode of the set, or the failure has arrived by some edge at an OR node, or by all at an AND node.
abbrev pub HasCause : Tfpg → Logbook → List ℕ → List Activation → ℕ → ℕ → Type 0
HasCause graph log set trace node time =
    IsMember graph set node
    ⊎ ((IsTrue (is_kind_at is_or graph node) × SomeArrives graph log trace node time)
    ⊎ (IsTrue (is_kind_at is_and graph node) × AllArrive graph log trace node time))

-- Each active node has a cause.
pub caused : (graph : Tfpg) (log : Logbook) (set : List ℕ) (trace : List Activation) (node time : ℕ) → Explains graph log set trace
    → time_of trace node ≡ Some time
    → HasCause graph log set trace node time
caused graph log set trace node time explains at =
    let active : Activation = record { node = node; time = time } in
    let member : Contains trace active = activation_there trace node time at in
    let in_graph : node < length graph.nodes = All-contains (λ a. a.node < length graph.nodes) trace active explains.trace_of.1 member in
    let may = (explains.rules node in_graph).may time (All-contains (λ a. a.time ≤ now_of log) trace active explains.by_now member) in
    elim
    (kinds (kind_at graph node)
    (is_some-option_map (λ n. n.kind) (slice_get graph.nodes node) ∙ ap is_some (slice_get-there graph.nodes node in_graph).1)) [
      | inl failure ↦
          inl
          (All-contains
          (λ a. IsTrue (is_kind_at is_failure graph a.node) → IsMember graph set a.node) trace active explains.from_set member failure)
      | inr (inl or) ↦ inr (inl (or, may.or_node or at))
      | inr (inr and) ↦ inr (inr (and, may.and_node and at))
    ]
