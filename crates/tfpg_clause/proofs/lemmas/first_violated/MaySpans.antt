-- The may clauses of a node by their spans: only that of the span that holds its time may be violated.
use Rattle.std.proofs.Common.{◌≡◌, ℕ, ◌+◌, ◌<◌, ◌≤◌, List, ◌∷◌, ◌++◌, length, get_or, Some, None, sym, ap, subst, ◌∙◌, ◌⊎◌, inl, inr, arith, pos}
use Rattle.std.specs.Prelude.{All, Contains, IsSomeAnd, option_map}
use Rattle.std.proofs.lemmas.Bool.{cases_eq}
use Rattle.std.proofs.lemmas.List.{get_or_default}
use Rattle.tfpg_base.specs.declared.constraint.Constraint.{Constraint}
use Rattle.tfpg_base.specs.Constraint.{Meets}
use Rattle.tfpg_base.proofs.lemmas.lists.Elements.{Contains-cons_cases}
use Rattle.std.proofs.lemmas.List.Elements.{Contains-append_right, Contains-get_or}
use Rattle.tfpg_base.proofs.lemmas.lists.Choices.{option_map-some, IsSomeAnd-from, IsSomeAnd-there}
use Rattle.tfpg_base.proofs.lemmas.lists.Passing.{Contains-filter_map, Contains-filter_map_only}
use Rattle.tfpg_graph.specs.Graph.{Tfpg}
use Rattle.tfpg_log.specs.declared.span.Span.{Span}
use Rattle.tfpg_log.specs.Log.{Logbook, now_of}
use Rattle.tfpg_log.specs.Spans.{span_number, span_at}
use Rattle.tfpg_log.proofs.lemmas.instants.SpanRuns.{is_span}
use Rattle.tfpg_base.specs.Bounds.{at_most}
use Rattle.tfpg_clause.specs.Clauses.{outside_span, MeetsClause}
use Rattle.tfpg_clause.specs.inside.Alternatives.{arrival_over, arrivals_over}
use Rattle.tfpg_clause.specs.inside.FirstSpan.{MeetsIfAny, IsFirstSpan, MeetsEach, may_over}
use Rattle.tfpg_clause.proofs.lemmas.constraints.BoundsMet.{says_at_least, says_before}
use Rattle.tfpg_clause.proofs.lemmas.rules.MayClauses.{before_span, after_span, met_outside}
use Rattle.tfpg_log.proofs.lemmas.instants.SpanRuns.{lies_inside}

module _ (graph : Tfpg) (log : Logbook) (times : List ℕ) (number horizon : ℕ) (span : Span) (edges : List ℕ) where
  -- an alternative of an edge is one of all
  pub arrived_by : (k : ℕ) → k < length edges
      → IsSomeAnd (arrival_over graph log number horizon span (get_or edges k 0)) (All (Meets times))
      → MeetsClause times (arrivals_over graph log number horizon span edges)
  arrived_by k within met =
      let one = IsSomeAnd-there (All (Meets times)) (arrival_over graph log number horizon span (get_or edges k 0)) met in (
        one.0,
        Contains-filter_map (arrival_over graph log number horizon span) edges (get_or edges k 0) one.0
            (Contains-get_or edges k 0 within) one.1,
        one.2,
      )

  -- none is, where none is of an edge
  pub none_arrived :
      ((k : ℕ) → k < length edges → IsSomeAnd (arrival_over graph log number horizon span (get_or edges k 0)) (All (Meets times)) → ⊥)
      → MeetsClause times (arrivals_over graph log number horizon span edges) → ⊥
  none_arrived none met =
      let one = Contains-filter_map_only (arrival_over graph log number horizon span) edges met.0 met.1 in
      let index = one.1 in
      let same : get_or edges index.0 0 ≡ one.0 = get_or_default edges index.0 0 one.0 index.1 ∙ index.2 in
      none index.0 index.1
      (IsSomeAnd-from (All (Meets times)) (arrival_over graph log number horizon span (get_or edges index.0 0)) met.0
      (ap (arrival_over graph log number horizon span) same ∙ one.2) met.2)

module _ (graph : Tfpg) (log : Logbook) (times : List ℕ) (node : ℕ) (edges : List ℕ) where
  -- the clause of a span that does not hold the time is met
  met_elsewhere : (number : ℕ) → (get_or times node 0 ≤ now_of log → span_number log (get_or times node 0) ≡ number → ⊥)
      → MeetsIfAny times (may_over graph log node edges (now_of log) number)
  met_elsewhere number other all at =
      let parts =
      option_map-some (λ (s : Span). outside_span node s ++ arrivals_over graph log number (now_of log) s edges)
      (span_at log number (now_of log)) all at in
      let span : Span = parts.0 in
      let is = is_span log number (now_of log) span parts.1 in
      subst (MeetsClause times) parts.2
      (met_outside times node span (arrivals_over graph log number (now_of log) span edges)
      (λ from till. absurd (other (omega (arith, till, is.run.in_range)) (is.numbered (get_or times node 0) from till))))

  -- A time after now violates none,
  pub never_violated : now_of log < get_or times node 0 → MeetsEach times (may_over graph log node edges (now_of log))
  never_violated late number = met_elsewhere number (λ within numbered. omega arith)

  module _ (number : ℕ) (numbered : span_number log (get_or times node 0) ≡ number) where
    elsewhere : (other : ℕ) → (other ≡ number → ⊥) → MeetsIfAny times (may_over graph log node edges (now_of log) other)
    elsewhere other apart = met_elsewhere other (λ within at. apart (sym at ∙ numbered))

    -- and of any other time that of its span alone may be violated
    pub met_each : MeetsIfAny times (may_over graph log node edges (now_of log) number)
        → MeetsEach times (may_over graph log node edges (now_of log))
    met_each here other = elim (cases_eq other number) [
      | inl same ↦ subst (λ n. MeetsIfAny times (may_over graph log node edges (now_of log) n)) (sym same) here
      | inr apart ↦ elsewhere other apart
    ]

    -- where there is no such span,
    pub met_without : None ≡ span_at log number (now_of log) → MeetsEach times (may_over graph log node edges (now_of log))
    met_without none =
        met_each
        (λ all at. absurd
        (let gone = option_map-some (λ (s : Span). outside_span node s ++ arrivals_over graph log number (now_of log) s edges)
        (span_at log number (now_of log)) all at in cc (gone.1, none)))

    module _ (span : Span) (here : span_at log number (now_of log) ≡ Some span) where
      -- where the failure arrives,
      pub met_by_arrival : MeetsClause times (arrivals_over graph log number (now_of log) span edges)
          → MeetsEach times (may_over graph log node edges (now_of log))
      met_by_arrival met = met_each (λ all at.
          let parts =
          option_map-some (λ (s : Span). outside_span node s ++ arrivals_over graph log number (now_of log) s edges)
          (span_at log number (now_of log)) all at in
          let same : span ≡ parts.0 = cc (here, parts.1) in
          let whole : (outside_span node span ++ arrivals_over graph log number (now_of log) span edges) ≡ all =
          ap (λ (s : Span). outside_span node s ++ arrivals_over graph log number (now_of log) s edges) same ∙ parts.2 in
          subst (MeetsClause times) whole
          (met.0, Contains-append_right (outside_span node span) (arrivals_over graph log number (now_of log) span edges) met.0 met.1, met.2))

      -- and it is where the failure does not arrive
      pub is_first : get_or times node 0 ≤ now_of log → (MeetsClause times (arrivals_over graph log number (now_of log) span edges) → ⊥)
          → IsFirstSpan times (may_over graph log node edges (now_of log)) number
      is_first within none = record {
        violated = record {
          all = outside_span node span ++ arrivals_over graph log number (now_of log) span edges;
          there = ap (option_map (λ (s : Span). outside_span node s ++ arrivals_over graph log number (now_of log) s edges)) here;
          not_met =
              λ met. by met.0 met.2
              (Contains-cons_cases (before_span node span)
              (after_span node span ∷ arrivals_over graph log number (now_of log) span edges) met.0 met.1);
        };
        before = λ other below. elsewhere other (λ same. omega arith);
      }
        where
          lies : (span.lo ≤ get_or times node 0) × (get_or times node 0 ≤ span.hi)
          lies = lies_inside log number span here (get_or times node 0) within numbered

          by : (alternative : List Constraint) → All (Meets times) alternative
              → (before_span node span ≡ alternative)
              ⊎ Contains (after_span node span ∷ arrivals_over graph log number (now_of log) span edges) alternative → ⊥
          by alternative all (inl first) =
              let one : All (Meets times) (before_span node span) = subst (All (Meets times)) (sym first) all in
              omega (arith, says_before times node span.lo (one 0 (at_most node (pos 0)) (omega arith)), lies.0)
          by alternative all (inr others) =
              elim
              (Contains-cons_cases (after_span node span) (arrivals_over graph log number (now_of log) span edges) alternative others) [
                | inl second ↦ (
                    let one : All (Meets times) (after_span node span) = subst (All (Meets times)) (sym second) all in
                    omega (arith, says_at_least times node (span.hi + 1) (one 0 (at_most node (pos 0)) (omega arith)), lies.1)
                    )
                | inr arrival ↦ none (alternative, arrival, all)
              ]
