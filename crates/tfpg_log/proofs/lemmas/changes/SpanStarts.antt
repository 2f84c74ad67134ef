-- The spans of a log by the changes of mode that begin them.
use Rattle.std.proofs.Common.{◌≡◌, ℕ, zero, suc, ◌+◌, ◌<◌, ◌≤◌, Bool, true, false, cond, eqb, leb, ltb, List, length, Option, Some, None, ◌&&◌, refl, inl, inr, sym, subst, ◌∙◌, arith}
use Rattle.std.specs.List.Sorted.{IsPartitionPoint}
use Rattle.std.proofs.lemmas.Bool.{cases_lt, cases_Bool, and_parts, and_from, leb-true, le-leb, lt-ltb, ltb-true, ltb-false, cond-true, cond-false, both_ways}
use Rattle.std.proofs.lemmas.Bool.Decides.{nat_tests}
use Rattle.tfpg_base.proofs.lemmas.lists.Sequences.{count-same, count-unlike}
use Rattle.tfpg_log.specs.declared.mode_change.ModeChange.{ModeChange}
use Rattle.tfpg_log.specs.declared.span.Span.{Span}
use Rattle.tfpg_log.specs.Log.{Logbook, now_of, mode_at}
use Rattle.tfpg_log.specs.Spans.{span_number, span_at}
use Rattle.tfpg_log.specs.Runs.{IsSpanOf}
use Rattle.tfpg_log.specs.inside.SpanIndex.{change_at, begin_of_span, mode_of_span, end_of_span, span_in, IsInSpan, BeginSpans}
use Rattle.tfpg_log.proofs.lemmas.changes.SpanChanges.{one_span}
use Rattle.tfpg_log.proofs.lemmas.instants.SpanRuns.{is_span, span_is_found}

-- Where so many changes come before an instant and the others do not, it lies in the span of that number.
pub within_point : (changes : List ModeChange) (number instant : ℕ) → number ≤ length changes
    → IsPartitionPoint (λ (change : ModeChange). ltb change.time instant ≡ true)
    (λ (change : ModeChange). ltb change.time instant ≡ false) changes number
    → IsInSpan changes number instant
within_point changes zero instant counted point = record {
  counted = counted;
  begun = omega arith;
  unended =
      λ more. let late =
      ltb-false (change_at changes 0).time instant (point.1 0 (record { time = 0; mode = 0 }) (omega arith) more) in omega arith;
}
within_point changes (suc index) instant counted point = record {
  counted = counted;
  begun =
      let early =
      ltb-true (change_at changes index).time instant (point.0 index (record { time = 0; mode = 0 }) (omega arith) (omega arith)) in
      omega arith;
  unended = λ more.
      let late =
      ltb-false (change_at changes (suc index)).time instant (point.1 (suc index) (record { time = 0; mode = 0 }) (omega arith) more) in
      omega arith;
}

module _ (log : Logbook) (changes : List ModeChange) (spans : BeginSpans (mode_at log) changes) where
  -- ---- the number of an instant

  -- the next instant lies in the same span, where the next span begins after it
  still_within : (number instant : ℕ) → IsInSpan changes number instant
      → (number < length changes → suc instant < begin_of_span changes (suc number))
      → IsInSpan changes number (suc instant)
  still_within number instant within unended = record { counted = within.counted; begun = omega (arith, within.begun); unended = unended }

  -- and else in the next span
  next_within : (number instant : ℕ) → IsInSpan changes number instant → number < length changes
      → begin_of_span changes (suc number) ≤ suc instant
      → IsInSpan changes (suc number) (suc instant)
  next_within number instant within more begun = record {
    counted = omega arith;
    begun = begun;
    unended = λ further. omega (arith, within.unended more, spans.rise (suc number) further);
  }

  next_number : (number instant : ℕ) → IsInSpan changes number instant
      → IsInSpan changes (number + cond (eqb (mode_at log instant) (mode_at log (suc instant))) 0 1) (suc instant)
  next_number number instant within =
      let count = number + cond (eqb (mode_at log instant) (mode_at log (suc instant))) 0 1 in
      let here : mode_at log instant ≡ mode_of_span changes number = spans.hold number instant within in
      let kept : (number < length changes → suc instant < begin_of_span changes (suc number)) → IsInSpan changes count (suc instant) =
      λ unended.
      let still = still_within number instant within unended in
      subst (λ n. IsInSpan changes n (suc instant))
      (sym
      (count-same (mode_at log instant) (mode_at log (suc instant)) number (here ∙ sym (spans.hold number (suc instant) still)))) still in
      elim (cases_lt number (length changes)) [
        | inl more ↦ elim (cases_lt (suc instant) (begin_of_span changes (suc number))) [
          | inl unended ↦ kept (λ lt. unended)
          | inr begun ↦ (let next = next_within number instant within more begun in
              subst (λ n. IsInSpan changes n (suc instant))
              (sym (count-unlike (mode_at log instant) (mode_at log (suc instant)) number
              (λ same. spans.differ number more (sym here ∙ same ∙ spans.hold (suc number) (suc instant) next)))) next)
        ]
        | inr all ↦ kept (λ more. absurd (omega arith))
      ]

  -- Each instant lies in the span of its number.
  pub number_within : (instant : ℕ) → IsInSpan changes (span_number log instant) instant
  number_within zero = record { counted = omega arith; begun = omega arith; unended = λ some. omega arith }
  number_within (suc instant) = next_number (span_number log instant) instant (number_within instant)

  -- In whose span it lies, that is its number.
  pub number_is : (number instant : ℕ) → IsInSpan changes number instant → span_number log instant ≡ number
  number_is number instant within = one_span changes spans.rise (span_number log instant) number instant (number_within instant) within

  -- ---- the span of a number

  -- the last instant of a span up to a horizon
  pub record IsEnd (number horizon hi : ℕ) : Type 0 where
    pub from : begin_of_span changes number ≤ hi
    pub in_range : hi ≤ horizon
    pub unended : number < length changes → hi < begin_of_span changes (suc number)
    pub next : hi < horizon → (number < length changes) × (begin_of_span changes (suc number) ≡ suc hi)

  end_by_test : (number horizon : ℕ) (more before : Bool) → ltb number (length changes) ≡ more
      → ltb (change_at changes number).time horizon ≡ before
      → begin_of_span changes number ≤ horizon → IsEnd number horizon (cond (more && before) (change_at changes number).time horizon)
  end_by_test number horizon true true some early begun =
      let lt = ltb-true number (length changes) some in record {
        from = omega (arith, spans.rise number lt);
        in_range = omega (arith, ltb-true (change_at changes number).time horizon early);
        unended = λ more. omega arith;
        next = λ before. (lt, omega arith);
      }
  end_by_test number horizon true false some late begun = record {
    from = begun;
    in_range = omega arith;
    unended = λ more. grind (arith, nat_tests);
    next = λ before. absurd (omega arith);
  }
  end_by_test number horizon false before none early begun = record {
    from = begun;
    in_range = omega arith;
    unended = λ more. absurd (both_ways (ltb number (length changes)) none (lt-ltb number (length changes) more));
    next = λ below. absurd (omega arith);
  }

  -- The end of a span that begins by the horizon is its last instant up to there.
  pub is_end : (number horizon : ℕ) → begin_of_span changes number ≤ horizon → IsEnd number horizon (end_of_span changes number horizon)
  is_end number horizon begun =
      end_by_test number horizon (ltb number (length changes)) (ltb (change_at changes number).time horizon) refl refl begun

  module _ (number horizon hi : ℕ) (counted : number ≤ length changes) (end : IsEnd number horizon hi) where
    -- each instant from the first to the last lies in the span
    pub in_span : (instant : ℕ) → begin_of_span changes number ≤ instant → instant ≤ hi → IsInSpan changes number instant
    in_span instant from upto = record { counted = counted; begun = from; unended = λ more. omega (arith, end.unended more) }

    not_after : (instant : ℕ) → instant ≡ hi + 1 → instant ≤ horizon → mode_at log instant ≡ mode_of_span changes number → ⊥
    not_after instant behind upto same =
        let next = end.next (omega arith) in
        let within : IsInSpan changes (suc number) instant =
        record {
          counted = omega (arith, next.0);
          begun = omega (arith, next.1);
          unended = λ more. omega (
            arith,
            next.1,
            spans.rise (suc number) more,
          );
        } in
        spans.differ number next.0 (sym same ∙ spans.hold (suc number) instant within)

  not_before : (number instant : ℕ) → number ≤ length changes → instant + 1 ≡ begin_of_span changes number
      → mode_at log instant ≡ mode_of_span changes number → ⊥
  not_before zero instant counted before same = absurd (omega arith)
  not_before (suc number) instant counted before same =
      let within : IsInSpan changes number instant =
      record { counted = omega arith; begun = omega (arith, spans.rise number (omega arith)); unended = λ more. omega arith } in
      spans.differ number (omega arith) (sym (spans.hold number instant within) ∙ same)

  -- What begins by the horizon is the span of its number.
  pub span_there : (number horizon : ℕ) → horizon ≤ now_of log → number ≤ length changes → begin_of_span changes number ≤ horizon
      → IsSpanOf log number horizon
      (record { lo = begin_of_span changes number; hi = end_of_span changes number horizon; mode = mode_of_span changes number })
  span_there number horizon by_now counted begun =
      let hi : ℕ = end_of_span changes number horizon in
      let end = is_end number horizon begun in
      record {
        by_now = by_now;
        run = record {
          in_order = end.from;
          in_range = end.in_range;
          throughout = λ instant from upto. spans.hold number instant (in_span number horizon hi counted end instant from upto);
          not_before = λ instant before same. not_before number instant counted before same;
          not_after = not_after number horizon hi counted end;
        };
        numbered = λ instant from upto. number_is number instant (in_span number horizon hi counted end instant from upto);
      }

  -- The span of a number begins by the horizon.
  pub begins_by : (number horizon : ℕ) (span : Span) → span_at log number horizon ≡ Some span
      → (number ≤ length changes) × (begin_of_span changes number ≤ horizon)
  begins_by number horizon span there =
      let is = is_span log number horizon span there in
      let within : IsInSpan changes number span.lo =
      subst (λ n. IsInSpan changes n span.lo) (is.numbered span.lo (omega arith) is.run.in_order) (number_within span.lo) in
      (within.counted, omega (arith, within.begun, is.run.in_order, is.run.in_range))

  none_there : (number horizon : ℕ) (found : Option Span) → span_at log number horizon ≡ found
      → leb number (length changes) && leb (begin_of_span changes number) horizon ≡ false
      → None ≡ found
  none_there number horizon None at late = refl
  none_there number horizon (Some span) at late =
      let by = begins_by number horizon span at in
      absurd (both_ways (leb number (length changes) && leb (begin_of_span changes number) horizon) late
      (and_from (leb number (length changes)) (leb (begin_of_span changes number) horizon) (le-leb number (length changes) by.0)
      (le-leb (begin_of_span changes number) horizon by.1)))

  -- Up to a horizon that is not after now the changes give the spans.
  pub span_in_is : (number horizon : ℕ) → horizon ≤ now_of log → span_in changes number horizon ≡ span_at log number horizon
  span_in_is number horizon by_now = elim (cases_Bool (leb number (length changes) && leb (begin_of_span changes number) horizon)) [
    | inl early ↦ (let parts = and_parts (leb number (length changes)) (leb (begin_of_span changes number) horizon) early in
        let span : Span =
        record { lo = begin_of_span changes number; hi = end_of_span changes number horizon; mode = mode_of_span changes number } in
        cond-true (leb number (length changes) && leb (begin_of_span changes number) horizon) (Some span) None early
        ∙ sym (span_is_found log number horizon span
        (span_there number horizon by_now (leb-true number (length changes) parts.0)
        (leb-true (begin_of_span changes number) horizon parts.1))))
    | inr late ↦ cond-false (leb number (length changes) && leb (begin_of_span changes number) horizon) _ None late
        ∙ none_there number horizon (span_at log number horizon) refl late
  ]
