-- A node whose edges cannot become due before it is active keeps the must rule.
use Rattle.std.proofs.Common.{◌≡◌, ℕ, ◌<◌, List, Option, Some, None, refl, sym, inl, inr, arith}
use Rattle.std.specs.Prelude.{IfSome}
use Rattle.std.proofs.lemmas.Bool.{cases_lt}
use Rattle.std.proofs.lemmas.List.Elements.{All-contains}
use Rattle.tfpg_base.specs.declared.activation.Activation.{Activation}
use Rattle.tfpg_base.specs.Trace.{time_of}
use Rattle.tfpg_base.proofs.lemmas.lists.Elements.{All-from_members}
use Rattle.tfpg_graph.specs.declared.edge.Edge.{Edge}
use Rattle.tfpg_graph.specs.declared.kind.Kind.TheVariants.{Failure, Or, And}
use Rattle.tfpg_graph.specs.declared.kind.Lag.{Lag}
use Rattle.tfpg_graph.specs.Graph.{Tfpg, kind_at, is_or, is_and, edges_into}
use Rattle.tfpg_graph.proofs.lemmas.NodeAt.{not_so}
use Rattle.tfpg_log.specs.Log.{Logbook}
use Rattle.tfpg_log.specs.Rules.{IsActive, IsDue, KeepsMust}
use Rattle.tfpg_trace.specs.inside.Due.{CanBeDue, SomeCanBeDue, AllCanBeDue}

module _ (graph : Tfpg) (log : Logbook) (trace : List Activation) (node instant : ℕ) where
  -- a failure mode
  pub kept_at_failure : (rarity : ℕ) → kind_at graph node ≡ Some (Failure rarity) → KeepsMust graph log trace node instant
  kept_at_failure rarity kind = record {
    or_node = λ is edge member due. absurd (not_so graph node is_or (Failure rarity) kind refl is);
    and_node = λ is all. absurd (not_so graph node is_and (Failure rarity) kind refl is);
  }

  -- what is due at an instant before a time can become due before it
  due_can : (until : Option ℕ) (edge : Edge) → IfSome until (λ time. instant < time) → IsDue log trace edge instant
      → CanBeDue trace until edge
  due_can None edge below due = record { delay = due.0; finite = due.1; start = due.2.start; source = due.2.source; before = tt }
  due_can (Some time) edge below due = record {
    delay = due.0;
    finite = due.1;
    start = due.2.start;
    source = due.2.source;
    before = omega (arith, below, due.2.since);
  }

  -- the node is active, or the instant is before it is
  active_or : (until : Option ℕ) → until ≡ time_of trace node → (IfSome until (λ time. instant < time) → ⊥) → IsActive trace node instant
  active_or None at never = absurd (never tt)
  active_or (Some time) at never = elim (cases_lt instant time) [
    | inl below ↦ absurd (never below)
    | inr since ↦ (time, sym at, since)
  ]

  -- an OR node
  pub kept_at_or : (lag : Option Lag) (until : Option ℕ) → until ≡ time_of trace node → kind_at graph node ≡ Some (Or lag)
      → (SomeCanBeDue graph trace node until → ⊥)
      → KeepsMust graph log trace node instant
  kept_at_or lag until at kind never = record {
    or_node = λ is edge member due. active_or until at (λ below. never (edge, member, due_can until edge below due));
    and_node = λ is all. absurd (not_so graph node is_and (Or lag) kind refl is);
  }

  -- an AND node
  pub kept_at_and : (lag : Option Lag) (until : Option ℕ) → until ≡ time_of trace node → kind_at graph node ≡ Some (And lag)
      → (AllCanBeDue graph trace node until → ⊥)
      → KeepsMust graph log trace node instant
  kept_at_and lag until at kind never = record {
    or_node = λ is edge member due. absurd (not_so graph node is_or (And lag) kind refl is);
    and_node = λ is all. active_or until at
        (λ below. never (All-from_members (CanBeDue trace until) (edges_into graph node)
        (λ edge member. due_can until edge below (All-contains (λ e. IsDue log trace e instant) (edges_into graph node) edge all member))));
  }
