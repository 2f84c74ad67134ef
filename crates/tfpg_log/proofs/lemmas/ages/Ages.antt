-- Laws of the age of an edge.
use Rattle.std.proofs.Common.{◌≡◌, ℕ, zero, suc, ◌+◌, ◌-◌, ◌≤◌, inl, inr, List, Some, subst, arith}
use Rattle.std.specs.Prelude.{IsTrue, ◌↔◌}
use Rattle.std.proofs.lemmas.Bool.{both_ways, cases_Bool, cases_eq, cases_lt}
use Rattle.tfpg_base.specs.declared.activation.Activation.{Activation}
use Rattle.tfpg_base.specs.Trace.{time_of}
use Rattle.tfpg_graph.specs.declared.edge.Edge.{Edge}
use Rattle.tfpg_log.specs.Log.{Logbook, is_active_at}
use Rattle.tfpg_log.specs.Rules.{IsActive, HasAge, IsAge}

module _ (log : Logbook) (trace : List Activation) (edge : Edge) where
  -- the edge is active in the mode of an instant
  abbrev IsEdgeActiveAt : ℕ → Type 0
  IsEdgeActiveAt instant = IsTrue (is_active_at log edge instant)

  -- An edge has an age exactly where its source is active and the edge is active in the mode of the instant.
  pub has_age : (instant : ℕ) → HasAge log trace edge instant 0 ↔ (IsActive trace edge.source instant × IsEdgeActiveAt instant)
  has_age instant = (
    λ has. ((has.start, has.source, omega (arith, has.since)), has.active_since instant (omega arith) (omega arith)),
    λ both. record {
      start = both.0.0;
      source = both.0.1;
      since = omega (arith, both.0.2);
      active_since = λ other from upto. let same : instant ≡ other = omega arith in subst IsEdgeActiveAt same both.1;
    },
  )

  -- What is at least a number is at least any lesser one,
  pub has_less : (instant age less : ℕ) → less ≤ age → HasAge log trace edge instant age → HasAge log trace edge instant less
  has_less instant age less few has = record {
    start = has.start;
    source = has.source;
    since = omega (arith, has.since);
    active_since = λ other from upto. has.active_since other (omega arith) upto;
  }

  -- so what is at least a number plus one is at least the number.
  pub has_lesser : (instant age : ℕ) → HasAge log trace edge instant (age + 1) → HasAge log trace edge instant age
  has_lesser instant age has = has_less instant (age + 1) age (omega arith) has

  -- No age is more than the time since the source became active.
  pub age_since_start : (instant age start : ℕ) → time_of trace edge.source ≡ Some start → HasAge log trace edge instant age
      → start + age ≤ instant
  age_since_start instant age start at has = let same : start ≡ has.start = cc in omega (arith, same, has.since)

  -- From an instant to the next the age grows by one, where the edge is active at the next.
  pub grows : (instant age : ℕ)
      → HasAge log trace edge (instant + 1) (age + 1) ↔ (HasAge log trace edge instant age × IsEdgeActiveAt (instant + 1))
  grows instant age = (
    λ has. (
      record {
        start = has.start;
        source = has.source;
        since = omega (arith, has.since);
        active_since = λ other from upto. has.active_since other (omega arith) (omega arith);
      },
      has.active_since (instant + 1) (omega arith) (omega arith),
    ),
    λ both. record {
      start = both.0.start;
      source = both.0.source;
      since = omega (arith, both.0.since);
      active_since = λ other from upto. elim (cases_eq (instant + 1) other) [
        | inl same ↦ subst IsEdgeActiveAt same both.1
        | inr unlike ↦ both.0.active_since other (omega arith) (omega (arith, unlike))
      ];
    },
  )

  -- Two ages at one instant are equal.
  pub one_age : (instant one other : ℕ) → IsAge log trace edge instant one → IsAge log trace edge instant other → one ≡ other
  one_age instant one other is same = omega (arith, is.greatest other same.has, same.greatest one is.has)

  module _ (instant start : ℕ) (at : time_of trace edge.source ≡ Some start) where
    -- the edge was active for so long
    abbrev IsEdgeActiveFor : ℕ → Type 0
    IsEdgeActiveFor age = (other : ℕ) → instant ≤ other + age → other ≤ instant → IsEdgeActiveAt other

    -- from an age on to the greatest, where so many instants are left
    to_greatest : (left age : ℕ) → start + age + left ≡ instant → IsEdgeActiveFor age
        → (greatest : ℕ) × IsAge log trace edge instant greatest
    to_greatest zero age sum active = (
      age,
      record {
        has = record { start = start; source = at; since = omega arith; active_since = active };
        greatest = λ other more. omega (arith, age_since_start instant other start at more);
      },
    )
    to_greatest (suc left) age sum active = elim (cases_Bool (is_active_at log edge (start + left))) [
      | inl active_there ↦ to_greatest left (suc age) (omega arith)
          (λ other from upto. elim (cases_eq (start + left) other) [
            | inl same ↦ subst IsEdgeActiveAt same active_there
            | inr unlike ↦ active other (omega (arith, unlike)) upto
          ])
      | inr inactive ↦ (
        age,
        record {
          has = record { start = start; source = at; since = omega arith; active_since = active };
          greatest = λ other more. elim (cases_lt age other) [
            | inl above ↦
                absurd
                (both_ways (is_active_at log edge (start + left)) inactive (more.active_since (start + left) (omega arith) (omega arith)))
            | inr upto ↦ upto
          ];
        },
      )
    ]

  -- An edge that has an age has a greatest one.
  pub has_greatest : (instant : ℕ) → HasAge log trace edge instant 0 → (age : ℕ) × IsAge log trace edge instant age
  has_greatest instant has = to_greatest instant has.start has.source (instant - has.start) 0 (omega (arith, has.since)) has.active_since
