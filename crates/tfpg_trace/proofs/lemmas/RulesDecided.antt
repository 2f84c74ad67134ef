-- Whether a node of a trace keeps the propagation rules is decided, and where it does not, there is what is said of it.
use Rattle.std.proofs.Common.{◌≡◌, ℕ, suc, ◌+◌, ◌<◌, ◌≤◌, List, Some, ◌⊎◌, inl, inr, refl, arith}
use Rattle.std.proofs.Math.Logic.{⊎_swap}
use Rattle.std.specs.Prelude.{IsTrue, All, Contains}
use Rattle.tfpg_base.specs.declared.activation.Activation.{Activation}
use Rattle.tfpg_base.specs.Trace.{time_of}
use Rattle.tfpg_graph.specs.declared.edge.Edge.{Edge}
use Rattle.tfpg_graph.specs.Graph.{Tfpg, is_kind_at, is_or, is_and, edges_into}
use Rattle.tfpg_log.specs.Log.{Logbook, now_of, is_active_at}
use Rattle.tfpg_log.specs.Rules.{IsActive, HasAge, SomeArrives, AllArrive, KeepsMay, IsDue, KeepsMust, KeepsRulesOf}
use Rattle.tfpg_trace.specs.declared.verdict.Verdict.{Verdict}
use Rattle.tfpg_trace.specs.declared.verdict.Verdict.TheVariants as verdict
use Rattle.tfpg_trace.specs.Broken.{BreaksMay}
use Rattle.tfpg_trace.specs.inside.RuleFaults.{IsBroken}
use Rattle.tfpg_base.proofs.lemmas.lists.Decided.{IsDecided, first_below, all_below, both_decided, implied_decided, same_decided, test_decided, le_decided, some_decided, is_some_decided, some_member_decided, all_members_decided, from_each_decided}

-- whether a node is active at an instant
pub active_decided : (trace : List Activation) (node instant : ℕ) → IsDecided (IsActive trace node instant)
active_decided trace node instant = some_decided (λ time. time ≤ instant) (time_of trace node) (λ time. le_decided time instant)

module _ (log : Logbook) (trace : List Activation) (edge : Edge) (instant : ℕ) where
  -- the edge is active at each instant since then
  abbrev IsActiveSince : ℕ → Type 0
  IsActiveSince age = (x : ℕ) → x < suc instant → instant ≤ x + age → IsTrue (is_active_at log edge x)

  active_since_decided : (age : ℕ) → IsDecided (IsActiveSince age)
  active_since_decided age =
      all_below (λ x. instant ≤ x + age → IsTrue (is_active_at log edge x))
      (λ x. implied_decided (instant ≤ x + age) (IsTrue (is_active_at log edge x)) (le_decided instant (x + age))
      (test_decided (is_active_at log edge x)))
      (suc instant)

  -- Whether the edge has an age is decided.
  age_decided : (age : ℕ) → IsDecided (HasAge log trace edge instant age)
  age_decided age =
      same_decided (((start : ℕ) × (time_of trace edge.source ≡ Some start) × (start + age ≤ instant)) × IsActiveSince age)
      (HasAge log trace edge instant age)
      (λ is. record { start = is.0.0; source = is.0.1; since = is.0.2; active_since = λ x from upto. is.1 x (omega (arith, upto)) from })
      (λ has. ((has.start, has.source, has.since), λ x below from. has.active_since x from (omega (arith, below))))
      (both_decided ((start : ℕ) × (time_of trace edge.source ≡ Some start) × (start + age ≤ instant)) (IsActiveSince age)
      (some_decided (λ start. start + age ≤ instant) (time_of trace edge.source) (λ start. le_decided (start + age) instant))
      (active_since_decided age))

  -- So is whether it is due.
  due_decided : IsDecided (IsDue log trace edge instant)
  due_decided = some_decided (λ tmax. HasAge log trace edge instant tmax) edge.tmax age_decided

module _ (graph : Tfpg) (log : Logbook) (trace : List Activation) (node : ℕ) where
  module _ (instant : ℕ) where
    some_arrives_decided : IsDecided (SomeArrives graph log trace node instant)
    some_arrives_decided =
        some_member_decided (λ (edge : Edge). HasAge log trace edge instant edge.tmin)
        (λ (edge : Edge). age_decided log trace edge instant edge.tmin) (edges_into graph node)

    all_arrive_decided : IsDecided (AllArrive graph log trace node instant)
    all_arrive_decided =
        all_members_decided (λ (edge : Edge). HasAge log trace edge instant edge.tmin)
        (λ (edge : Edge). age_decided log trace edge instant edge.tmin) (edges_into graph node)

    -- what the may rule says at a node of a kind
    abbrev IsMayOf : Type 0 → Type 0 → Type 0
    IsMayOf Kind Arrives = Kind → time_of trace node ≡ Some instant → Arrives

    may_of_decided : (Kind Arrives : Type 0) → IsDecided Kind → IsDecided Arrives → IsDecided (IsMayOf Kind Arrives)
    may_of_decided Kind Arrives kind arrives =
        implied_decided Kind (time_of trace node ≡ Some instant → Arrives) kind
        (implied_decided (time_of trace node ≡ Some instant) Arrives (is_some_decided (time_of trace node) instant) arrives)

    -- Whether the node keeps the may rule at an instant is decided.
    may_decided : IsDecided (KeepsMay graph log trace node instant)
    may_decided =
        same_decided
        (IsMayOf (IsTrue (is_kind_at is_or graph node)) (SomeArrives graph log trace node instant)
        × IsMayOf (IsTrue (is_kind_at is_and graph node)) (AllArrive graph log trace node instant))
        (KeepsMay graph log trace node instant)
        (λ both. record { or_node = both.0; and_node = both.1 })
        (λ keeps. (keeps.or_node, keeps.and_node))
        (both_decided (IsMayOf (IsTrue (is_kind_at is_or graph node)) (SomeArrives graph log trace node instant))
        (IsMayOf (IsTrue (is_kind_at is_and graph node)) (AllArrive graph log trace node instant))
        (may_of_decided (IsTrue (is_kind_at is_or graph node)) (SomeArrives graph log trace node instant)
        (test_decided (is_kind_at is_or graph node)) some_arrives_decided)
        (may_of_decided (IsTrue (is_kind_at is_and graph node)) (AllArrive graph log trace node instant)
        (test_decided (is_kind_at is_and graph node)) all_arrive_decided))

    -- what the must rule says at an OR node, and at an AND node
    abbrev IsMustOfOr : Type 0
    IsMustOfOr =
        IsTrue (is_kind_at is_or graph node) → (edge : Edge) → Contains (edges_into graph node) edge → IsDue log trace edge instant
        → IsActive trace node instant

    abbrev IsMustOfAnd : Type 0
    IsMustOfAnd =
        IsTrue (is_kind_at is_and graph node) → All (λ (edge : Edge). IsDue log trace edge instant) (edges_into graph node)
        → IsActive trace node instant

    must_of_or_decided : IsDecided IsMustOfOr
    must_of_or_decided =
        implied_decided (IsTrue (is_kind_at is_or graph node))
        ((edge : Edge) → Contains (edges_into graph node) edge → IsDue log trace edge instant → IsActive trace node instant)
        (test_decided (is_kind_at is_or graph node))
        (from_each_decided (λ (edge : Edge). IsDue log trace edge instant) (λ (edge : Edge). due_decided log trace edge instant)
        (IsActive trace node instant) (edges_into graph node)
        (active_decided trace node instant))

    must_of_and_decided : IsDecided IsMustOfAnd
    must_of_and_decided =
        implied_decided (IsTrue (is_kind_at is_and graph node))
        (All (λ (edge : Edge). IsDue log trace edge instant) (edges_into graph node) → IsActive trace node instant)
        (test_decided (is_kind_at is_and graph node))
        (implied_decided (All (λ (edge : Edge). IsDue log trace edge instant) (edges_into graph node)) (IsActive trace node instant)
        (all_members_decided (λ (edge : Edge). IsDue log trace edge instant) (λ (edge : Edge). due_decided log trace edge instant)
        (edges_into graph node))
        (active_decided trace node instant))

    -- Whether the node keeps the must rule at an instant is decided.
    must_decided : IsDecided (KeepsMust graph log trace node instant)
    must_decided =
        same_decided (IsMustOfOr × IsMustOfAnd) (KeepsMust graph log trace node instant)
        (λ both. record { or_node = both.0; and_node = both.1 })
        (λ keeps. (keeps.or_node, keeps.and_node))
        (both_decided IsMustOfOr IsMustOfAnd must_of_or_decided must_of_and_decided)

  -- a node that breaks the may rule does so at its time
  breaks_may : (instant : ℕ) → instant ≤ now_of log → (KeepsMay graph log trace node instant → ⊥) → BreaksMay graph log trace node instant
  breaks_may instant by_now broken = elim (is_some_decided (time_of trace node) instant) [
    | inl at ↦ record { at = at; by_now = by_now; broken = broken }
    | inr other ↦ absurd (broken (record { or_node = λ kind at. absurd (other at); and_node = λ kind at. absurd (other at) }))
  ]

  -- at no instant up to now, or at all of them
  first_upto_now : (P Q : ℕ → Type 0) → ((instant : ℕ) → P instant ⊎ Q instant)
      → ((instant : ℕ) × (instant ≤ now_of log) × P instant × ((earlier : ℕ) → earlier < instant → Q earlier))
      ⊎ ((instant : ℕ) → instant ≤ now_of log → Q instant)
  first_upto_now P Q choice = elim (first_below P Q choice (suc (now_of log))) [
    | inl found ↦ inl (found.0, omega (arith, found.1.below), found.1.holds, found.1.before)
    | inr all ↦ inr (λ instant by_now. all instant (omega (arith, by_now)))
  ]

  -- Something is said of a node that does not keep the rules.
  pub rules_decided : ((said : Verdict) × IsBroken graph log trace node said) ⊎ KeepsRulesOf graph log trace node
  rules_decided =
      elim
      (first_upto_now (λ instant. KeepsMay graph log trace node instant → ⊥) (KeepsMay graph log trace node)
      (λ instant. ⊎_swap (may_decided instant))) [
        | inl may ↦ inl (verdict.May node may.0, inl (record { time = may.0; is = refl; breaks = breaks_may may.0 may.1 may.2 }))
        | inr may ↦
            elim
            (first_upto_now (λ instant. KeepsMust graph log trace node instant → ⊥) (KeepsMust graph log trace node)
            (λ instant. ⊎_swap (must_decided instant))) [
              | inl must ↦ inl (
                verdict.Must node must.0,
                inr (record {
                  time = must.0;
                  is = refl;
                  may = λ instant breaks. breaks.broken (may instant breaks.by_now);
                  breaks = record { by_now = must.1; broken = must.2; first = must.3 };
                }),
              )
              | inr must ↦ inr (record { may = may; must = must })
            ]
      ]
