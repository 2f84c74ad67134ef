-- The clauses of a node or an edge by their spans, as the code has them.
use Rattle.std.proofs.Common.{◌≡◌, ℕ, true, false, nat_eq, List, [], ◌∷◌, ◌++◌, Option, Some, None, sym, ap, subst, ◌∙◌}
use Rattle.std.specs.Prelude.{filter_map, option_map, option_and_then, slice_get}
use Rattle.std.specs.Bool.{then_some}
use Rattle.std.specs.List.{cons_option}
use Rattle.std.proofs.lemmas.Bool.{both_ways}
use Rattle.std.proofs.lemmas.Option.{none-some}
use Rattle.tfpg_base.specs.declared.constraint.Constraint.{Constraint}
use Rattle.tfpg_graph.specs.declared.edge.Edge.{Edge}
use Rattle.tfpg_graph.specs.Graph.{Tfpg, is_kind_at, is_or, is_and, incoming, edges_into}
use Rattle.tfpg_log.specs.declared.span.Span.{Span}
use Rattle.tfpg_log.specs.Log.{Logbook}
use Rattle.tfpg_log.specs.Spans.{span_at}
use Rattle.tfpg_clause.specs.Clauses.{outside_span, arrival}
use Rattle.tfpg_clause.specs.inside.ClausesByKind.{or_may, and_may}
use Rattle.tfpg_clause.specs.inside.Alternatives.{arrivals_over, target_of_kind}
use Rattle.tfpg_clause.specs.inside.FirstSpan.{MeetsEach, FindsFirst, may_over}
use Rattle.tfpg_base.proofs.lemmas.lists.Numbered.{filtered_by_number}
use Rattle.tfpg_base.proofs.lemmas.lists.Choices.{option_and_then-always}
use Rattle.tfpg_clause.proofs.lemmas.rules.RulesMet.{may_holds}
use Rattle.tfpg_clause.proofs.lemmas.alternatives.ClauseFound.{no_may_of_edge}

-- what is found among clauses is found among the same clauses
pub FindsFirst-same : (times : List ℕ) (one other : ℕ → Option (List (List Constraint))) (result : Option ℕ)
    → ((span : ℕ) → one span ≡ other span)
    → FindsFirst times one result → FindsFirst times other result
FindsFirst-same times one other result same found = subst (λ clauses. FindsFirst times clauses result) (λ i span. same span i) found

module _ (graph : Tfpg) (log : Logbook) (times : List ℕ) (horizon : ℕ) where
  module _ (node : ℕ) where
    -- where there are some, by the numbers of its edges
    pub or_may_over : is_kind_at is_or graph node ≡ true → (number : ℕ)
        → or_may graph log node number horizon ≡ may_over graph log node (incoming graph node) horizon number
    or_may_over or number =
        (λ i.
        option_and_then
        (λ (span : Span).
        then_some (or i)
        (outside_span node span ++ filtered_by_number (λ edge. nat_eq edge.target node) (arrival log number horizon span) graph.edges i))
        (span_at log number horizon))
        ∙ option_and_then-always
        (λ (span : Span). outside_span node span ++ arrivals_over graph log number horizon span (incoming graph node))
        (span_at log number horizon)

    -- the may clauses of an OR node
    pub or_may_found_first : (edges : List ℕ) (result : Option ℕ) → is_kind_at is_or graph node ≡ true → edges ≡ incoming graph node
        → FindsFirst times (may_over graph log node edges horizon) result
        → FindsFirst times (λ number. or_may graph log node number horizon) result
    or_may_found_first edges result or are found =
        FindsFirst-same times (may_over graph log node edges horizon) (λ number. or_may graph log node number horizon) result
        (λ number. ap (λ (es : List ℕ). may_over graph log node es horizon number) are ∙ sym (or_may_over or number)) found

    -- another node has none
    pub no_or_may : is_kind_at is_or graph node ≡ false → MeetsEach times (λ number. or_may graph log node number horizon)
    no_or_may other number all at =
        absurd
        (both_ways (is_kind_at is_or graph node) other
        (may_holds log (is_kind_at is_or graph node) node (edges_into graph node) number horizon all at))

  module _ (edge target : ℕ) where
    -- where there are some, by the number of the edge
    pub and_may_over : (number : ℕ) (o : Option Edge) → Some target ≡ option_map (λ (e : Edge). e.target) o
        → is_kind_at is_and graph target ≡ true
        → option_and_then (λ e. and_may graph log e number horizon) o
        ≡ option_map (λ (span : Span). outside_span target span ++ cons_option (option_and_then (arrival log number horizon span) o) [])
        (span_at log number horizon)
    and_may_over number None own and = absurd cc
    and_may_over number (Some e) own and =
        let same : e.target ≡ target = cc in
        (λ i.
        option_and_then
        (λ (span : Span). then_some (both i) (outside_span (same i) span ++ filter_map (arrival log number horizon span) (e ∷ [])))
        (span_at log number horizon))
        ∙ option_and_then-always (λ (span : Span). outside_span target span ++ cons_option (arrival log number horizon span e) [])
        (span_at log number horizon)
      where
        both : is_kind_at is_and graph e.target ≡ true
        both = let same : e.target ≡ target = cc in ap (is_kind_at is_and graph) same ∙ and

    -- the may clauses of an edge into an AND node
    pub and_may_found_first : (result : Option ℕ) → Some target ≡ option_map (λ (e : Edge). e.target) (slice_get graph.edges edge)
        → is_kind_at is_and graph target ≡ true
        → FindsFirst times (may_over graph log target (edge ∷ []) horizon) result
        → FindsFirst times (λ number. option_and_then (λ e. and_may graph log e number horizon) (slice_get graph.edges edge)) result
    and_may_found_first result own and found =
        FindsFirst-same times (may_over graph log target (edge ∷ []) horizon)
        (λ number. option_and_then (λ e. and_may graph log e number horizon) (slice_get graph.edges edge)) result
        (λ number. sym (and_may_over number (slice_get graph.edges edge) own and)) found

  -- an edge that enters no AND node has none
  pub no_and_may : (edge : Option Edge) → None ≡ target_of_kind is_and graph edge
      → MeetsEach times (λ number. option_and_then (λ e. and_may graph log e number horizon) edge)
  no_and_may edge none number all at = absurd (none-some all (sym (no_may_of_edge graph log number horizon edge none) ∙ at))
