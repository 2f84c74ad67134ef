-- May clauses and the may rule: a clause is met at each horizon where the rule holds, and the rule holds where the clause of each
-- span up to now is met.
use Rattle.std.proofs.Common.{◌≡◌, ℕ, ◌+◌, ◌<◌, ◌≤◌, Bool, true, leb, List, [], ◌∷◌, ◌++◌, get_or, max, Some, refl, sym, ap, subst, ◌∙◌, ◌⊎◌, inl, inr, arith, pos}
use Rattle.std.specs.Prelude.{All, Contains, filter_map, ◌-ℤ◌, option_and_then}
use Rattle.std.specs.Bool.{then_some}
use Rattle.std.proofs.lemmas.Bool.{cases_lt, le-leb}
use Rattle.std.proofs.lemmas.List.Elements.{All-cons, All-nil, All-contains, Contains-append_right}
use Rattle.std.proofs.lemmas.Option.{option_and_then_some}
use Rattle.tfpg_base.specs.declared.activation.Activation.{Activation}
use Rattle.tfpg_base.specs.declared.constraint.Constraint.{Constraint}
use Rattle.tfpg_base.specs.Trace.{time_of}
use Rattle.tfpg_base.proofs.lemmas.lists.Elements.{Contains-head, Contains-tail, Contains-cons_cases}
use Rattle.tfpg_graph.specs.declared.edge.Edge.{Edge}
use Rattle.tfpg_log.specs.declared.span.Span.{Span}
use Rattle.tfpg_log.specs.declared.span.Window.{Window}
use Rattle.tfpg_log.specs.Log.{Logbook, now_of}
use Rattle.tfpg_log.specs.Rules.{HasAge}
use Rattle.tfpg_log.specs.AgeInWindow.{HasAgeInWindow}
use Rattle.tfpg_log.specs.Spans.{span_number, span_at, window_of}
use Rattle.tfpg_log.proofs.lemmas.instants.SpanRuns.{is_span, has_span}
use Rattle.tfpg_log.proofs.lemmas.ages.WindowAges.{exactly}
use Rattle.tfpg_base.specs.Bounds.{at_most, at_least, at_least_after}
use Rattle.tfpg_base.specs.Constraint.{Meets}
use Rattle.tfpg_base.proofs.lemmas.lists.Passing.{Contains-filter_map, Contains-filter_map_only}
use Rattle.tfpg_base.proofs.lemmas.lists.Choices.{then_some-true}
use Rattle.tfpg_clause.specs.Clauses.{outside_span, arrival, may_by, MeetsClause}
use Rattle.tfpg_clause.proofs.lemmas.constraints.BoundsMet.{met_at_most, met_before, met_at_least, met_at_least_after, says_at_least, says_at_least_after, says_before}
use Rattle.tfpg_clause.proofs.lemmas.traces.TraceAgrees.{Agree}
use Rattle.tfpg_clause.proofs.lemmas.alternatives.ClauseFound.{may_found}

-- the alternative that the target becomes active before the span
abbrev pub before_span : ℕ → Span → List Constraint
before_span target span = at_most target (pos span.lo -ℤ pos 1) ∷ []

-- the alternative that it becomes active after the span
abbrev pub after_span : ℕ → Span → List Constraint
after_span target span = at_least target (span.hi + 1) ∷ []

-- A may clause is met by one of these in a span that does not hold the number of its target, and in any where it is met by
-- another alternative.
pub met_outside : (numbers : List ℕ) (target : ℕ) (span : Span) (arrivals : List (List Constraint))
    → (span.lo ≤ get_or numbers target 0 → get_or numbers target 0 ≤ span.hi → MeetsClause numbers arrivals)
    → MeetsClause numbers (outside_span target span ++ arrivals)
met_outside numbers target span arrivals inside =
    by (cases_lt (get_or numbers target 0) span.lo) (cases_lt span.hi (get_or numbers target 0))
  where
    by : (get_or numbers target 0 < span.lo) ⊎ (span.lo ≤ get_or numbers target 0)
        → (span.hi < get_or numbers target 0) ⊎ (get_or numbers target 0 ≤ span.hi)
        → MeetsClause numbers (outside_span target span ++ arrivals)
    by (inl before) till = (
      before_span target span,
      Contains-head (before_span target span) (after_span target span ∷ arrivals),
      All-cons (Meets numbers) (at_most target (pos span.lo -ℤ pos 1)) [] (met_before numbers target span.lo before) (All-nil _),
    )
    by (inr from) (inl after) = (
      after_span target span,
      Contains-tail (before_span target span) (after_span target span ∷ arrivals) (after_span target span)
          (Contains-head (after_span target span) arrivals),
      All-cons (Meets numbers) (at_least target (span.hi + 1)) [] (met_at_least numbers target (span.hi + 1) (omega (arith, after)))
          (All-nil _),
    )
    by (inr from) (inr till) =
        let met = inside from till in
        (met.0, Contains-append_right (before_span target span ∷ after_span target span ∷ []) arrivals met.0 met.1, met.2)

module _ (log : Logbook) (trace : List Activation) (numbers : List ℕ) (count : ℕ) (agree : Agree count (now_of log) trace numbers) where
  -- Where the target becomes active, the failure arrives by one of these edges.
  abbrev pub ArrivesBy : ℕ → List Edge → Type 0
  ArrivesBy target edges =
      (instant : ℕ) → instant ≤ now_of log → time_of trace target ≡ Some instant
      → (edge : Edge) × Contains edges edge × HasAge log trace edge instant edge.tmin

  module _ (target : ℕ) (edges : List Edge) (own : All (λ (edge : Edge). edge.target ≡ target) edges) (number : ℕ) where
    -- the bounds of an arrival
    abbrev bounds : Span → Window → Edge → List Constraint
    bounds span window edge =
        at_least_after edge.target edge.source edge.tmin ∷ at_least edge.target (max span.lo (window.lo + edge.tmin)) ∷ at_most edge.target
        (pos span.hi) ∷ []

    met_bounds : (span : Span) (window : Window) (edge : Edge) → edge.target ≡ target
        → get_or numbers edge.source 0 + edge.tmin ≤ get_or numbers target 0
        → span.lo ≤ get_or numbers target 0 → window.lo + edge.tmin ≤ get_or numbers target 0 → get_or numbers target 0 ≤ span.hi
        → All (Meets numbers) (bounds span window edge)
    met_bounds span window edge is after from since upto =
        let same : get_or numbers edge.target 0 ≡ get_or numbers target 0 = ap (λ node. get_or numbers node 0) is in
        let last : List Constraint = at_most edge.target (pos span.hi) ∷ [] in
        All-cons (Meets numbers) (at_least_after edge.target edge.source edge.tmin)
        (at_least edge.target (max span.lo (window.lo + edge.tmin)) ∷ last)
        (met_at_least_after numbers edge.target edge.source edge.tmin (omega (arith, same, after)))
        (All-cons (Meets numbers) (at_least edge.target (max span.lo (window.lo + edge.tmin))) last
        (met_at_least numbers edge.target (max span.lo (window.lo + edge.tmin)) (omega (arith, same, from, since)))
        (All-cons (Meets numbers) (at_most edge.target (pos span.hi)) []
        (met_at_most numbers edge.target span.hi (omega (arith, same, upto))) (All-nil _)))

    -- the alternative by an edge that arrives within the span
    arrives_in : (horizon : ℕ) (span : Span) → span_at log number horizon ≡ Some span → horizon ≤ now_of log → (edge : Edge)
        → Contains edges edge
        → span.lo ≤ get_or numbers target 0 → get_or numbers target 0 ≤ span.hi → HasAge log trace edge (get_or numbers target 0) edge.tmin
        → (alternative : List Constraint) × Contains (filter_map (arrival log number horizon span) edges) alternative
        × All (Meets numbers) alternative
    arrives_in horizon span at upto edge member from till has =
        let is = is_span log number horizon span at in
        let time : ℕ = get_or numbers target 0 in
        let by : HasAgeInWindow (window_of log edge (span_number log time) horizon) trace edge time edge.tmin =
        (exactly log trace edge time horizon edge.tmin (omega (arith, till, is.run.in_range)) upto).0 has in
        let there : window_of log edge number horizon ≡ Some by.window =
        subst (λ n. window_of log edge n horizon ≡ Some by.window) (is.numbered time from till) by.there in
        let room : leb (by.window.lo + edge.tmin) span.hi ≡ true =
        le-leb (by.window.lo + edge.tmin) span.hi (omega (arith, by.since_window, till)) in
        let alternative : arrival log number horizon span edge ≡ Some (bounds span by.window edge) =
        ap (option_and_then (λ (w : Window). then_some (leb (w.lo + edge.tmin) span.hi) (bounds span w edge))) there
        ∙ ap (λ (b : Bool). then_some b (bounds span by.window edge)) room in (
          bounds span by.window edge,
          Contains-filter_map (arrival log number horizon span) edges edge (bounds span by.window edge) member alternative,
          met_bounds span by.window edge (All-contains (λ (e : Edge). e.target ≡ target) edges edge own member)
              (omega (arith, agree.number_is edge.source by.start by.source, by.since_source)) from by.since_window till,
        )

    -- The clause of a span is met where the rule holds.
    pub may_is_met : (holds : Bool) (horizon : ℕ) (clause : List (List Constraint)) → target < count → horizon ≤ now_of log
        → ArrivesBy target edges
        → may_by log holds target edges number horizon ≡ Some clause → MeetsClause numbers clause
    may_is_met holds horizon clause within upto rule allowed =
        option_and_then_some
        (λ (span : Span). then_some holds (outside_span target span ++ filter_map (arrival log number horizon span) edges))
        (span_at log number horizon) clause allowed
        (λ span at rest.
        let parts = then_some-true holds (outside_span target span ++ filter_map (arrival log number horizon span) edges) clause rest in
        subst (MeetsClause numbers) parts.1 (by span at))
      where
        by : (span : Span) → span_at log number horizon ≡ Some span
            → MeetsClause numbers (outside_span target span ++ filter_map (arrival log number horizon span) edges)
        by span at =
            met_outside numbers target span (filter_map (arrival log number horizon span) edges)
            (λ from till.
            let is = is_span log number horizon span at in
            let now : get_or numbers target 0 ≤ now_of log = omega (arith, till, is.run.in_range, upto) in
            let arrives = rule (get_or numbers target 0) now (agree.early target within now) in
            arrives_in horizon span at upto arrives.0 arrives.1 from till arrives.2)

    -- an alternative by an edge says that the failure arrives
    arrived_from : (horizon : ℕ) (span : Span) → span_at log number horizon ≡ Some span → horizon ≤ now_of log
        → All (λ (edge : Edge). edge.source < count) edges → (alternative : List Constraint)
        → (instant : ℕ) → span_number log instant ≡ number → instant ≤ horizon → get_or numbers target 0 ≡ instant
        → Contains (filter_map (arrival log number horizon span) edges) alternative → All (Meets numbers) alternative
        → (edge : Edge) × Contains edges edge × HasAge log trace edge instant edge.tmin
    arrived_from horizon span at upto sources alternative instant numbered within is member met =
        let found = Contains-filter_map_only (arrival log number horizon span) edges alternative member in
        let edge : Edge = found.0 in
        option_and_then_some
        (λ (w : Window). then_some (leb (w.lo + edge.tmin) span.hi) (bounds span w edge))
        (window_of log edge number horizon) alternative found.2
        (λ window there rest.
        let parts = then_some-true (leb (window.lo + edge.tmin) span.hi) (bounds span window edge) alternative rest in
        let all : All (Meets numbers) (bounds span window edge) = subst (All (Meets numbers)) (sym parts.1) met in
        let own_target : edge.target ≡ target = All-contains (λ (e : Edge). e.target ≡ target) edges edge own found.1 in
        let same : get_or numbers edge.target 0 ≡ get_or numbers target 0 = ap (λ node. get_or numbers node 0) own_target in
        let after =
        says_at_least_after numbers edge.target edge.source edge.tmin
        (all 0 (at_least_after edge.target edge.source edge.tmin) (omega arith)) in
        let since =
        says_at_least numbers edge.target (max span.lo (window.lo + edge.tmin))
        (all 1 (at_least_after edge.target edge.source edge.tmin) (omega arith)) in
        let start : ℕ = get_or numbers edge.source 0 in
        let source : time_of trace edge.source ≡ Some start =
        agree.early edge.source (All-contains (λ (e : Edge). e.source < count) edges edge sources found.1)
        (omega (arith, after, same, is, within, upto)) in (
          edge,
          found.1,
          (exactly log trace edge instant horizon edge.tmin within upto).1
              (record {
                window = window;
                there = subst (λ n. window_of log edge n horizon ≡ Some window) (sym numbered) there;
                start = start;
                source = source;
                since_window = omega (arith, since, same, is);
                since_source = omega (arith, after, same, is);
              }),
        ))

  -- The rule holds where the clause of each span is met.
  pub may_is_kept : (holds : Bool) (target : ℕ) (edges : List Edge) → holds ≡ true → All (λ (edge : Edge). edge.target ≡ target) edges
      → All (λ (edge : Edge). edge.source < count) edges
      → ((number : ℕ) (clause : List (List Constraint)) → may_by log holds target edges number (now_of log) ≡ Some clause
      → MeetsClause numbers clause) → ArrivesBy target edges
  may_is_kept holds target edges passes own sources met instant upto at =
      let span = has_span log instant (now_of log) upto (omega arith) in
      let number : ℕ = span_number log instant in
      let clause =
      may_found log holds target edges number (now_of log) passes span.0
      (filter_map (arrival log number (now_of log) span.0) edges) span.1 refl in
      let alternative = met number (outside_span target span.0 ++ filter_map (arrival log number (now_of log) span.0) edges) clause in
      let is : get_or numbers target 0 ≡ instant = agree.number_is target instant at in
      let arrivals : List (List Constraint) = filter_map (arrival log number (now_of log) span.0) edges in
      elim
      (Contains-cons_cases (at_most target (pos span.0.lo -ℤ pos 1) ∷ [])
      ((at_least target (span.0.hi + 1) ∷ []) ∷ arrivals) alternative.0 alternative.1) [
        | inl before ↦
            absurd
            (let all : All (Meets numbers) (at_most target (pos span.0.lo -ℤ pos 1) ∷ []) = subst (All (Meets numbers))
            (sym before) alternative.2 in
            omega (arith, says_before numbers target span.0.lo (all 0 (at_most target (pos 0)) (omega arith)), is, span.2))
        | inr more ↦ elim (Contains-cons_cases (at_least target (span.0.hi + 1) ∷ []) arrivals alternative.0 more) [
          | inl after ↦
              absurd
              (let all : All (Meets numbers) (at_least target (span.0.hi + 1) ∷ []) = subst (All (Meets numbers))
              (sym after) alternative.2 in
              omega (arith, says_at_least numbers target (span.0.hi + 1) (all 0 (at_most target (pos 0)) (omega arith)), is, span.3))
          | inr arrives ↦
              arrived_from target edges own number (now_of log) span.0 span.1
              (omega arith) sources alternative.0 instant refl upto is arrives alternative.2
        ]
      ]
