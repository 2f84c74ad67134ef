-- Clauses of windows by their spans: only the first span of a window has one.
use Rattle.std.proofs.Common.{◌≡◌, ℕ, ◌+◌, ◌<◌, ◌≤◌, Bool, true, leb, cond, List, Option, Some, None, refl, sym, ap, subst, ◌∙◌, inl, inr, arith}
use Rattle.std.specs.Prelude.{◌↔◌}
use Rattle.std.proofs.lemmas.Bool.{cases_lt, cases_eq, le-leb}
use Rattle.tfpg_base.specs.declared.constraint.Constraint.{Constraint}
use Rattle.tfpg_log.specs.declared.span.Window.{Window}
use Rattle.tfpg_log.specs.Log.{Logbook, now_of}
use Rattle.tfpg_log.specs.Spans.{span_number}
use Rattle.tfpg_log.specs.Runs.{IsWindowRound}
use Rattle.tfpg_log.proofs.lemmas.instants.SpanRuns.{is_span, number_rises}
use Rattle.tfpg_log.proofs.lemmas.instants.WindowInstants.{round_each}
use Rattle.tfpg_clause.specs.Clauses.{MeetsClause}
use Rattle.tfpg_clause.specs.inside.FirstSpan.{MeetsIfAny, IsViolated, MeetsEach, MeetsUpTo}

-- Times violate a clause that they do not meet, if there is one.
pub violated_from : (times : List ℕ) (clause : Option (List (List Constraint))) → (MeetsIfAny times clause → ⊥) → IsViolated times clause
violated_from times None not_met = absurd (not_met (λ all at. absurd cc))
violated_from times (Some all) not_met = record {
  all = all;
  there = refl;
  not_met =
      λ met. not_met
      (λ other at. let same : all ≡ other = cc in subst (λ (clause : List (List Constraint)). MeetsClause times clause) same met);
}

module _ (log : Logbook) (times : List ℕ) (passes : ℕ → Bool) (windows : ℕ → Option Window) (clauses : ℕ → Option (List (List Constraint)))
    (found : (number : ℕ) (window : Window) → (windows number ≡ Some window) ↔ IsWindowRound log passes number (now_of log) window)
    (begins : (number : ℕ) (all : List (List Constraint)) → clauses number ≡ Some all
    → (window : Window) × (windows number ≡ Some window) × (window.first ≡ number)) where
  -- an instant of the span lies in its window
  around : (number : ℕ) (window : Window) → windows number ≡ Some window
      → (instant : ℕ) × (span_number log instant ≡ number) × (window.lo ≤ instant) × (instant ≤ window.hi) × (window.hi ≤ now_of log)
  around number window at =
      let is = (found number window).0 at in
      let span = is_span log number (now_of log) is.round.0 is.round.1 in (
        is.round.0.lo,
        span.numbered is.round.0.lo (omega arith) span.run.in_order,
        is.round.2.0,
        omega (arith, span.run.in_order, is.round.2.1),
        is.run.in_range,
      )

  -- A window is that of the span of each of its instants.
  throughout : (number instant : ℕ) (window : Window) → windows number ≡ Some window → window.lo ≤ instant → instant ≤ window.hi
      → windows (span_number log instant) ≡ Some window
  throughout number instant window at from till =
      (found (span_number log instant) window).1
      (round_each log passes number (now_of log) instant window ((found number window).0 at) from till)

  -- So a later span of the window has no clause,
  none_later : (number other : ℕ) (window : Window) → windows number ≡ Some window → number < other → other ≤ span_number log window.hi
      → (all : List (List Constraint))
      → clauses other ≡ Some all → ⊥
  none_later number other window at after till all there =
      let own = begins other all there in
      let here = around number window at in
      let inside = around other own.0 own.1 in
      elim (cases_lt window.hi inside.0) [
        | inl past ↦ (
            let last : span_number log window.hi ≡ other =
            omega (arith, till, number_rises log window.hi inside.0 (omega (arith, past)), inside.1) in
            not_first own window.hi last (omega (arith, here.2, here.3)) (omega arith) here
            )
        | inr within ↦ elim (cases_lt inside.0 here.0) [
          | inl before ↦ omega (arith, number_rises log inside.0 here.0 (omega (arith, before)), inside.1, here.1, after)
          | inr since ↦ not_first own inside.0 inside.1 (omega (arith, here.2, since)) within here
        ]
      ]
    where
      not_first : (own : (w : Window) × (windows other ≡ Some w) × (w.first ≡ other)) → (instant : ℕ) → span_number log instant ≡ other
          → window.lo ≤ instant → instant ≤ window.hi
          → (x : ℕ) × (span_number log x ≡ number) × (window.lo ≤ x) × (x ≤ window.hi) × (window.hi ≤ now_of log) → ⊥
      not_first own instant numbered from upto here =
          let round : windows other ≡ Some window =
          subst (λ n. windows n ≡ Some window) numbered (throughout number instant window at from upto) in
          let same : own.0 ≡ window = cc (own.1, round) in
          let first : own.0.first ≡ window.first = ap (λ (w : Window). w.first) same in
          omega (arith, own.2, first, ((found number window).0 at).first_span, number_rises log window.lo here.0 here.2, here.1, after)

  -- and after the span of an instant a clause is met, where it is in a window that begins later.
  met_past : (end other : ℕ)
      → ((window : Window) → windows other ≡ Some window → window.lo ≤ now_of log → end < window.lo → MeetsIfAny times (clauses other))
      → span_number log end < other
      → MeetsIfAny times (clauses other)
  met_past end other late after all there =
      let own = begins other all there in
      let inside = around other own.0 own.1 in
      let first : other ≡ span_number log own.0.lo = omega (arith, own.2, ((found other own.0).0 own.1).first_span) in
      elim (cases_lt end own.0.lo) [
        | inl later ↦ late own.0 own.1 (omega (arith, inside.2, inside.3, inside.4)) later all there
        | inr upto ↦ absurd (omega (arith, number_rises log own.0.lo end upto, first, after))
      ]

  -- Each clause is met, where it is in a window that ends by now.
  pub met_each : ((other : ℕ) (window : Window) → windows other ≡ Some window → window.hi ≤ now_of log → MeetsIfAny times (clauses other))
      → MeetsEach times clauses
  met_each met other all there =
      let own = begins other all there in
      met other own.0 own.1 (around other own.0 own.1).4 all there

  -- Before the span of an instant a clause is met, where it is in a window that ends before the instant, and the window round the instant
  -- does not begin with its span.
  met_unless_round : (instant other : ℕ)
      → ((window : Window) → windows other ≡ Some window → window.hi < instant → MeetsIfAny times (clauses other))
      → other < span_number log instant → ((window : Window) → windows (span_number log instant) ≡ Some window → window.first ≡ other → ⊥)
      → MeetsIfAny times (clauses other)
  met_unless_round instant other early before none all there =
      let own = begins other all there in
      let first : other ≡ span_number log own.0.lo = omega (arith, own.2, ((found other own.0).0 own.1).first_span) in
      elim (cases_lt own.0.hi instant) [
        | inl past ↦ early own.0 own.1 past all there
        | inr till ↦ elim (cases_lt instant own.0.lo) [
          | inl after ↦ absurd (omega (arith, number_rises log instant own.0.lo (omega (arith, after)), first, before))
          | inr from ↦ absurd (none own.0 (throughout other instant own.0 own.1 from till) own.2)
        ]
      ]

  module _ (instant : ℕ)
      (early : (other : ℕ) (window : Window) → windows other ≡ Some window → window.hi < instant → MeetsIfAny times (clauses other)) where
    -- Where the clauses are met in windows that end before an instant, they are before the span of the instant, if there is no window round
    -- it,
    pub met_before : None ≡ windows (span_number log instant) → (other : ℕ) → other < span_number log instant
        → MeetsIfAny times (clauses other)
    met_before none other before = met_unless_round instant other (early other) before (λ window at first. absurd (cc (none, at)))

    -- and else before the first span of that.
    pub met_before_window : (window : Window) → windows (span_number log instant) ≡ Some window → (other : ℕ) → other < window.first
        → MeetsIfAny times (clauses other)
    met_before_window window at other before =
        let here = around (span_number log instant) window at in
        let first : window.first ≡ span_number log window.lo = ((found (span_number log instant) window).0 at).first_span in
        met_unless_round instant other (early other) (omega (arith, before, first, number_rises log window.lo here.0 here.2, here.1))
        (λ own there begins_here.
        let same : own ≡ window = cc (there, at) in
        omega (arith, before, begins_here, ap (λ (w : Window). w.first) same))

  -- Where there is no window, there is no clause.
  pub met_without : (number : ℕ) → None ≡ windows number → MeetsUpTo times clauses number (Some number)
  met_without number none = (
    omega arith,
    λ other from till all at.
        let same : other ≡ number = omega (arith, from, till) in
        let own = begins other all at in
        let there : windows number ≡ Some own.0 = subst (λ n. windows n ≡ Some own.0) same own.1 in
        absurd cc,
  )

  -- Where the clause is met, so are those up to the end of the window.
  pub met_within : (number : ℕ) (window : Window) (result : Option ℕ) → windows number ≡ Some window → MeetsIfAny times (clauses number)
      → result ≡ cond (leb window.hi (now_of log)) (Some (span_number log window.hi)) None → MeetsUpTo times clauses number result
  met_within number window result at here is =
      let inside = around number window at in
      let test : leb window.hi (now_of log) ≡ true = le-leb window.hi (now_of log) inside.4 in
      let some : Some (span_number log window.hi) ≡ result =
      sym (is ∙ ap (λ (b : Bool). cond b (Some (span_number log window.hi)) None) test) in
      subst (MeetsUpTo times clauses number) some (
        omega (arith, number_rises log inside.0 window.hi inside.3, inside.1),
        λ other from till all there.
            elim (cases_eq other number) [
              | inl same ↦ here all (subst (λ n. clauses n ≡ Some all) same there)
              | inr apart ↦ absurd (none_later number other window at (omega (arith, from, apart)) till all there)
            ],
      )

  -- The clauses are met that are met up to the span of an instant, and in windows that begin later.
  pub met_all : (number end until : ℕ)
      → ((other : ℕ) (window : Window) → windows other ≡ Some window → window.lo ≤ now_of log → end < window.lo
      → MeetsIfAny times (clauses other))
      → span_number log end ≤ until → ((other : ℕ) → other < number → MeetsIfAny times (clauses other))
      → ((other : ℕ) → number ≤ other → other ≤ until → MeetsIfAny times (clauses other)) → MeetsEach times clauses
  met_all number end until late last before here other = elim (cases_lt other number) [
    | inl below ↦ before other below
    | inr from ↦ elim (cases_lt until other) [
      | inl past ↦ met_past end other (late other) (omega (arith, last, past))
      | inr till ↦ here other from till
    ]
  ]

-- the clauses met so far, and those up to a span
pub met_below : (times : List ℕ) (clauses : ℕ → Option (List (List Constraint))) (number until : ℕ)
    → ((other : ℕ) → other < number → MeetsIfAny times (clauses other))
    → ((other : ℕ) → number ≤ other → other ≤ until → MeetsIfAny times (clauses other)) → (other : ℕ) → other < until + 1
    → MeetsIfAny times (clauses other)
met_below times clauses number until before here other below = elim (cases_lt other number) [
  | inl earlier ↦ before other earlier
  | inr from ↦ here other from (omega arith)
]
