-- The windows of a log by the changes of mode that begin its spans.
use Rattle.std.proofs.Common.{◌≡◌, ℕ, zero, suc, ◌+◌, ◌≤◌, Bool, true, false, cond, leb, ltb, List, length, Option, Some, None, ◌&&◌, inl, inr, sym, ap, ◌∙◌, arith}
use Rattle.std.specs.Prelude.{IsTrue, option_and_then}
use Rattle.std.proofs.lemmas.Bool.{cases_lt, and_from, le-leb, lt-ltb, cond-true, cond-false, both_ways}
use Rattle.tfpg_log.specs.declared.active_modes.ActiveModes.{ActiveModes}
use Rattle.tfpg_log.specs.declared.mode_change.ModeChange.{ModeChange}
use Rattle.tfpg_log.specs.declared.span.Span.{Span}
use Rattle.tfpg_log.specs.declared.span.Window.{Window}
use Rattle.tfpg_log.specs.Log.{Logbook, now_of, mode_at}
use Rattle.tfpg_log.specs.Spans.{span_number, span_at, window_round}
use Rattle.tfpg_log.specs.Runs.{IsMaximalRun, Overlaps, IsWindowRound}
use Rattle.tfpg_log.specs.inside.SpanIndex.{change_at, begin_of_span, mode_of_span, end_of_span, span_in, IsInSpan, BeginSpans}
use Rattle.tfpg_log.specs.inside.ActiveModes.{has_mode, is_active_before, is_active_after, IsRunStart, IsRunEnd}
use Rattle.tfpg_log.proofs.lemmas.changes.SpanChanges.{begins_rise}
use Rattle.tfpg_log.proofs.lemmas.instants.SpanRuns.{is_span, found_span}
use Rattle.tfpg_log.proofs.lemmas.changes.SpanStarts.{number_within, number_is, IsEnd, is_end, begins_by, span_in_is}
use Rattle.tfpg_log.proofs.lemmas.instants.WindowRuns.{whole, window_is_found}

begin_by_test : (lo hi mode : ℕ) (span : Span) (b : Bool) → Some span ≡ cond b (Some (record { lo = lo; hi = hi; mode = mode })) None
    → span.lo ≡ lo
begin_by_test lo hi mode span true some =
    let found : Span = record { lo = lo; hi = hi; mode = mode } in
    let same : span ≡ found = cc in
    ap (λ (s : Span). s.lo) same
begin_by_test lo hi mode span false some = absurd cc

-- the span begins where the changes say
begin_is : (changes : List ModeChange) (number horizon : ℕ) (span : Span) → Some span ≡ span_in changes number horizon
    → span.lo ≡ begin_of_span changes number
begin_is changes number horizon span some =
    begin_by_test (begin_of_span changes number) (end_of_span changes number horizon) (mode_of_span changes number) span
    (leb number (length changes) && leb (begin_of_span changes number) horizon) some

module _ (log : Logbook) (changes : List ModeChange) (spans : BeginSpans (mode_at log) changes) (modes : ActiveModes) where
  -- whether the mode of an instant is one of these
  abbrev passes : ℕ → Bool
  passes instant = has_mode modes (mode_at log instant)

  passes_alike : (one other : ℕ) → mode_at log one ≡ mode_at log other → passes one ≡ passes other
  passes_alike one other same = ap (has_mode modes) same

  -- the window that the definition finds round the span of a number
  abbrev found_round : ℕ → ℕ → Option Window
  found_round number horizon =
      option_and_then (λ span. window_round log (λ instant. has_mode modes (mode_at log instant)) span horizon) (span_at log number horizon)

  -- Without a span there is no window.
  pub none_without_span : (number horizon : ℕ) → horizon ≤ now_of log → None ≡ span_in changes number horizon
      → None ≡ found_round number horizon
  none_without_span number horizon by_now none =
      ap (option_and_then (λ span. window_round log (λ instant. has_mode modes (mode_at log instant)) span horizon))
      (none ∙ span_in_is log changes spans number horizon by_now)

  -- Nor is there one round a span of another mode.
  pub none_in_other_mode : (number horizon : ℕ) (span : Span) → horizon ≤ now_of log → Some span ≡ span_in changes number horizon
      → has_mode modes span.mode ≡ false
      → None ≡ found_round number horizon
  none_in_other_mode number horizon span by_now some other =
      let there : Some span ≡ span_at log number horizon = some ∙ span_in_is log changes spans number horizon by_now in
      let fails : passes span.lo ≡ false = ap (has_mode modes) (found_span log number horizon span (sym there)).mode_is ∙ other in
      sym (cond-false (passes span.lo) _ None fails)
      ∙ ap (option_and_then (λ s. window_round log (λ instant. has_mode modes (mode_at log instant)) s horizon)) there

  before_first : (first instant : ℕ) → first ≤ length changes → is_active_before modes changes first ≡ false
      → instant + 1 ≡ begin_of_span changes first
      → passes instant ≡ true → ⊥
  before_first zero instant counted alone before passing = absurd (omega arith)
  before_first (suc first) instant counted alone before passing =
      let within : IsInSpan changes first instant =
      record { counted = omega arith; begun = omega (arith, spans.rise first (omega arith)); unended = λ more. omega arith } in
      both_ways (has_mode modes (mode_of_span changes first)) alone (sym (ap (has_mode modes) (spans.hold first instant within)) ∙ passing)

  module _ (number horizon : ℕ) (span : Span) (by_now : horizon ≤ now_of log) (some : Some span ≡ span_in changes number horizon) where
    there : Some span ≡ span_at log number horizon
    there = some ∙ span_in_is log changes spans number horizon by_now

    by : (number ≤ length changes) × (begin_of_span changes number ≤ horizon)
    by = begins_by log changes spans number horizon span (sym there)

    module _ (first last : ℕ) (is_first : IsRunStart modes changes number first)
        (is_last : IsRunEnd modes changes number horizon last) where
      end : IsEnd log changes spans last horizon (end_of_span changes last horizon)
      end = is_end log changes spans last horizon is_last.begun

      active : (other : ℕ) → first ≤ other → other ≤ last → has_mode modes (mode_of_span changes other) ≡ true
      active other from upto = elim (cases_lt number other) [
        | inl behind ↦ is_last.throughout other (omega arith) upto
        | inr before ↦ is_first.throughout other from before
      ]

      -- the first span begins by the horizon
      pub first_begins : begin_of_span changes first ≤ horizon
      first_begins = omega (arith, begins_rise changes spans.rise first number is_first.upto by.0, by.1)

      -- an instant of the window lies in one of its spans
      from_first : (instant : ℕ) → begin_of_span changes first ≤ instant → first ≤ span_number log instant
      from_first instant from = let within = number_within log changes spans instant in elim (cases_lt (span_number log instant) first) [
        | inl below ↦ absurd (omega (
          arith,
          within.unended (omega (arith, is_first.upto, by.0)),
          begins_rise changes spans.rise (suc (span_number log instant)) first (omega arith) (omega (arith, is_first.upto, by.0)),
        ))
        | inr upto ↦ upto
      ]

      upto_last : (instant : ℕ) → instant ≤ end_of_span changes last horizon → span_number log instant ≤ last
      upto_last instant upto = let within = number_within log changes spans instant in elim (cases_lt last (span_number log instant)) [
        | inl above ↦ absurd (omega (
          arith,
          end.unended (omega (arith, within.counted)),
          begins_rise changes spans.rise (suc last) (span_number log instant) (omega arith) within.counted,
          within.begun,
        ))
        | inr by_last ↦ by_last
      ]

      throughout : (instant : ℕ) → begin_of_span changes first ≤ instant → instant ≤ end_of_span changes last horizon
          → passes instant ≡ true
      throughout instant from upto =
          ap (has_mode modes) (spans.hold (span_number log instant) instant (number_within log changes spans instant))
          ∙ active (span_number log instant) (from_first instant from) (upto_last instant upto)

      after_last : (instant : ℕ) → instant ≡ end_of_span changes last horizon + 1 → instant ≤ horizon → passes instant ≡ true → ⊥
      after_last instant behind upto passing =
          let next = end.next (omega arith) in
          let within : IsInSpan changes (suc last) instant =
          record {
            counted = omega (arith, next.0);
            begun = omega (arith, next.1);
            unended = λ more. omega (
              arith,
              next.1,
              spans.rise (suc last) more,
            );
          } in
          let mode : has_mode modes (change_at changes last).mode ≡ true =
          sym (ap (has_mode modes) (spans.hold (suc last) instant within)) ∙ passing in
          both_ways (is_active_after modes changes last horizon) is_last.alone
          (and_from (ltb last (length changes)) (ltb (change_at changes last).time horizon && has_mode modes (change_at changes last).mode)
          (lt-ltb last (length changes) next.0)
          (and_from (ltb (change_at changes last).time horizon) (has_mode modes (change_at changes last).mode)
          (lt-ltb (change_at changes last).time horizon (omega (arith, next.1))) mode))

      run : IsMaximalRun (λ instant. IsTrue (passes instant)) (begin_of_span changes first) (end_of_span changes last horizon) horizon
      run = record {
        in_order =
            omega (arith, begins_rise changes spans.rise first last (omega (arith, is_first.upto, is_last.from)) is_last.counted, end.from);
        in_range = end.in_range;
        throughout = throughout;
        not_before =
            λ instant before passing. before_first first instant (omega (arith, is_first.upto, by.0)) is_first.alone before passing;
        not_after = after_last;
      }

      first_within : IsInSpan changes first (begin_of_span changes first)
      first_within = record { counted = omega (arith, is_first.upto, by.0); begun = omega arith; unended = spans.rise first }

      meets : Overlaps span (record { first = first; lo = begin_of_span changes first; hi = end_of_span changes last horizon })
      meets =
          let is = is_span log number horizon span (sym there) in
          let begins = begin_is changes number horizon span some in (
            omega (arith, begins_rise changes spans.rise first number is_first.upto by.0, begins, is.run.in_order),
            omega (arith, begins_rise changes spans.rise number last is_last.from is_last.counted, begins, end.from),
          )

      is_window : IsWindowRound log (λ instant. has_mode modes (mode_at log instant)) number horizon
          (record { first = first; lo = begin_of_span changes first; hi = end_of_span changes last horizon })
      is_window =
          let found : Window = record { first = first; lo = begin_of_span changes first; hi = end_of_span changes last horizon } in
          let lies = whole log passes horizon passes_alike found run in
          record {
            run = run;
            whole_spans = lies;
            round = (span, sym there, lies number span (sym there) meets);
            first_span = sym (number_is log changes spans first (begin_of_span changes first) first_within);
          }

      -- So the beginning of the first span is not missed.
      pub no_beginning : None ≡ cond (leb (begin_of_span changes first) horizon) (Some (begin_of_span changes first)) None → ⊥
      no_beginning none =
          let begins =
          cond-true (leb (begin_of_span changes first) horizon) (Some (begin_of_span changes first)) None
          (le-leb (begin_of_span changes first) horizon first_begins) in
          absurd cc

      -- What the walk over the spans finds is the window.
      pub window_walked : (lo hi : ℕ) → Some lo ≡ cond (leb (begin_of_span changes first) horizon) (Some (begin_of_span changes first)) None
          → hi ≡ end_of_span changes last horizon
          → Some (record { first = first; lo = lo; hi = hi }) ≡ found_round number horizon
      window_walked lo hi begun ended =
          let begins =
          cond-true (leb (begin_of_span changes first) horizon) (Some (begin_of_span changes first)) None
          (le-leb (begin_of_span changes first) horizon first_begins) in
          let from : lo ≡ begin_of_span changes first = cc in
          let found : Window = record { first = first; lo = begin_of_span changes first; hi = end_of_span changes last horizon } in
          (λ i. Some (record { first = first; lo = from i; hi = ended i }))
          ∙ sym (window_is_found log passes horizon passes_alike number found is_window)
