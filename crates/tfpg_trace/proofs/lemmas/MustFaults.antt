-- Where a node first breaks the must rule: where it first must be active and is not.
use Rattle.std.proofs.Common.{◌≡◌, ℕ, ◌≤◌, List, Option, Some, None, refl, inl, inr, ap, sym, ◌∙◌, arith}
use Rattle.std.proofs.lemmas.Bool.{cases_lt}
use Rattle.tfpg_base.specs.declared.activation.Activation.{Activation}
use Rattle.tfpg_graph.specs.declared.kind.Kind.TheVariants.{Or, And}
use Rattle.tfpg_graph.specs.declared.kind.Lag.{Lag}
use Rattle.tfpg_graph.specs.Graph.{Tfpg, kind_at, is_or, is_and}
use Rattle.tfpg_graph.proofs.lemmas.NodeAt.{kind_test, not_so}
use Rattle.tfpg_log.specs.declared.span.Span.{Span}
use Rattle.tfpg_log.specs.Log.{Logbook, now_of}
use Rattle.tfpg_log.specs.Rules.{IsActive, KeepsMust}
use Rattle.tfpg_log.specs.Spans.{span_at}
use Rattle.tfpg_log.proofs.lemmas.instants.SpanRuns.{lies_inside}
use Rattle.tfpg_trace.specs.inside.Due.{Begins, SomeDue, AllDue, MustBeActive}
use Rattle.tfpg_trace.specs.inside.FirstFaultIn.{IsFirstFaultIn}
use Rattle.tfpg_trace.proofs.lemmas.Beginnings.{carried}
use Rattle.tfpg_trace.proofs.lemmas.SpanOrder.{none_inside, numbered, by_now}

-- what a look-up says of a span up to now
pub span_reported : (log : Logbook) (number now : ℕ) (found : Option Span) → now ≡ now_of log → found ≡ span_at log number now
    → span_at log number (now_of log) ≡ found
span_reported log number now found now_is e = sym (e ∙ ap (span_at log number) now_is)

module _ (graph : Tfpg) (log : Logbook) (trace : List Activation) (node : ℕ) where
  -- An OR node must be active where some edge into it is due.
  pub must_by_some : (lo hi : ℕ) (lag : Option Lag) (found : Option ℕ) → kind_at graph node ≡ Some (Or lag)
      → Begins (SomeDue graph log trace node) lo hi found
      → Begins (MustBeActive graph log trace node) lo hi found
  must_by_some lo hi lag found kind begins =
      carried (SomeDue graph log trace node) (MustBeActive graph log trace node) lo hi found
      (λ instant from upto some. inl (kind_test graph node is_or (Or lag) kind, some))
      (λ instant from upto must. elim must [
        | inl some ↦ some.1
        | inr all ↦ absurd (not_so graph node is_and (Or lag) kind refl all.0)
      ])
      begins

  -- An AND node must be active where all edges into it are due.
  pub must_by_all : (lo hi : ℕ) (lag : Option Lag) (found : Option ℕ) → kind_at graph node ≡ Some (And lag)
      → Begins (AllDue graph log trace node) lo hi found
      → Begins (MustBeActive graph log trace node) lo hi found
  must_by_all lo hi lag found kind begins =
      carried (AllDue graph log trace node) (MustBeActive graph log trace node) lo hi found
      (λ instant from upto all. inr (kind_test graph node is_and (And lag) kind, all))
      (λ instant from upto must. elim must [
        | inl some ↦ absurd (not_so graph node is_or (And lag) kind refl some.0)
        | inr all ↦ all.1
      ])
      begins

  -- A node keeps the must rule where it must not be active,
  pub keeps_unless : (instant : ℕ) → (MustBeActive graph log trace node instant → ⊥) → KeepsMust graph log trace node instant
  keeps_unless instant never = record {
    or_node = λ is edge member due. absurd (never (inl (is, (edge, member, due))));
    and_node = λ is all. absurd (never (inr (is, all)));
  }

  -- and where it is active,
  pub keeps_active : (instant : ℕ) → IsActive trace node instant → KeepsMust graph log trace node instant
  keeps_active instant active = record {
    or_node = λ is edge member due. active;
    and_node = λ is all. active;
  }

  -- and nowhere else.
  pub active_where_must : (instant : ℕ) → KeepsMust graph log trace node instant → MustBeActive graph log trace node instant
      → IsActive trace node instant
  active_where_must instant keeps must = elim must [
    | inl some ↦ keeps.or_node some.0 some.1.0 some.1.1 some.1.2
    | inr all ↦ keeps.and_node all.0 all.1
  ]

  -- what is active stays so
  pub still_active : (instant later : ℕ) → IsActive trace node instant → instant ≤ later → IsActive trace node later
  still_active instant later active behind = (active.0, active.1, omega (arith, active.2, behind))

  module _ (number : ℕ) where
    -- Where there is no such span, none of its instants breaks the rule.
    pub without_span : span_at log number (now_of log) ≡ None → IsFirstFaultIn graph log trace node number None
    without_span none = λ instant within at. absurd (none_inside log number none instant within at)

    module _ (span : Span) (here : span_at log number (now_of log) ≡ Some span) where
      -- Where the node must be active at none of its instants, none breaks the rule.
      pub never_due : Begins (MustBeActive graph log trace node) span.lo span.hi None → IsFirstFaultIn graph log trace node number None
      never_due never = λ instant within at.
          let lies = lies_inside log number span here instant within at in
          keeps_unless instant (never instant lies.0 lies.1)

      module _ (due : ℕ) (begins : Begins (MustBeActive graph log trace node) span.lo span.hi (Some due)) where
        -- Where it is active at the first of those at which it must be, none breaks the rule.
        pub in_time : IsActive trace node due → IsFirstFaultIn graph log trace node number None
        in_time active = λ instant within at.
            let lies = lies_inside log number span here instant within at in
            elim (cases_lt instant due) [
              | inl before ↦ keeps_unless instant (begins.not_before instant lies.0 before)
              | inr behind ↦ keeps_active instant (still_active due instant active behind)
            ]

        -- And where it is not, that one is the first to break the rule.
        pub first_fault : (IsActive trace node due → ⊥) → IsFirstFaultIn graph log trace node number (Some due)
        first_fault not_active =
            let now : due ≤ now_of log = by_now log number span here due begins.upto in
            record {
              by_now = now;
              inside = numbered log number span here due begins.from begins.upto;
              broken = λ keeps. not_active (active_where_must due keeps (begins.since due (omega arith) begins.upto));
              first = λ earlier before at.
                  let lies = lies_inside log number span here earlier (omega (arith, now, before)) at in
                  keeps_unless earlier (begins.not_before earlier lies.0 before);
            }
