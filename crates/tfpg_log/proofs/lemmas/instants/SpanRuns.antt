-- A span is a maximal run of instants of one mode, and each instant lies in one.
use Rattle.std.proofs.Common.{◌≡◌, ℕ, zero, suc, ◌+◌, ◌≤◌, Bool, true, false, cond, eqb, leb, inl, inr, Option, Some, None, refl, sym, ap, subst, ◌∙◌, arith}
use Rattle.std.specs.Prelude.{MatchOption, ◌↔◌}
use Rattle.std.proofs.lemmas.Bool.{both_ways, eqb-true, eqb-false, eq-eqb, le-leb, leb-true, cond-true, cases_lt}
use Rattle.tfpg_base.specs.Trials.{least, greatest}
use Rattle.tfpg_base.proofs.lemmas.lists.Sequences.{never_falls, count-same, same-from_count}
use Rattle.tfpg_base.proofs.lemmas.lists.Trials.{NonePassesUpTo, IsLeast, IsGreatest, least_found, greatest_found, least_there, greatest_there, least_upto, greatest_from}
use Rattle.tfpg_log.specs.declared.span.Span.{Span}
use Rattle.tfpg_log.specs.Log.{Logbook, now_of, mode_at}
use Rattle.tfpg_log.specs.Spans.{span_number, span_between, span_at}
use Rattle.tfpg_log.specs.Runs.{IsMaximalRun, IsSpanOf}
use Rattle.tfpg_log.proofs.lemmas.instants.MaximalRuns.{one_run}

-- ---- the numbers of spans

module _ (log : Logbook) where
  -- A later instant has no lesser number.
  pub number_rises : (lo hi : ℕ) → lo ≤ hi → span_number log lo ≤ span_number log hi
  number_rises lo hi upto = never_falls (span_number log) (λ instant. omega arith) lo hi upto

  -- instants of one number have one mode
  one_mode : (lo hi : ℕ) → lo ≤ hi → span_number log hi ≡ span_number log lo → mode_at log hi ≡ mode_at log lo
  one_mode lo zero upto e = let same : 0 ≡ lo = omega arith in ap (mode_at log) same
  one_mode lo (suc hi) upto e = elim (cases_lt hi lo) [
    | inl above ↦ (let same : suc hi ≡ lo = omega arith in ap (mode_at log) same)
    | inr below ↦ (let rises : span_number log lo ≤ span_number log hi = number_rises lo hi below in
        let kept : span_number log (suc hi) ≡ span_number log hi = omega (arith, e, rises, number_rises hi (suc hi) (omega arith)) in
        let mode : mode_at log hi ≡ mode_at log (suc hi) =
        same-from_count (mode_at log hi) (mode_at log (suc hi)) (span_number log hi) kept in
        sym mode ∙ one_mode lo hi below (sym kept ∙ e))
  ]

  -- two instants of one mode, one after the other, have one number
  one_number : (before instant : ℕ) → before + 1 ≡ instant → mode_at log before ≡ mode_at log instant
      → span_number log before ≡ span_number log instant
  one_number before instant next mode =
      let same : suc before ≡ instant = omega arith in
      sym (count-same (mode_at log before) (mode_at log (suc before)) (span_number log before) (mode ∙ sym (ap (mode_at log) same)))
      ∙ ap (span_number log) same

  module _ (number horizon : ℕ) where
    -- whether an instant has the number
    abbrev has_number : ℕ → Bool
    has_number instant = eqb (span_number log instant) number

    -- the span is the one that the search finds
    pub record IsFoundSpan (span : Span) : Type 0 where
      pub by_now : horizon ≤ now_of log
      pub first : IsLeast has_number horizon span.lo
      pub last : IsGreatest has_number horizon span.hi
      pub mode_is : mode_at log span.lo ≡ span.mode

    between : (span : Span) (lo hi : Option ℕ) → horizon ≤ now_of log
        → MatchOption lo (NonePassesUpTo has_number horizon) (IsLeast has_number horizon)
        → MatchOption hi (NonePassesUpTo has_number horizon) (IsGreatest has_number horizon) → span_between log lo hi ≡ Some span
        → IsFoundSpan span
    between span None hi by_now first last e = absurd cc
    between span (Some lo) None by_now first last e = absurd cc
    between span (Some lo) (Some hi) by_now first last e =
        let found : Span = record { lo = lo; hi = hi; mode = mode_at log lo } in
        let same : found ≡ span = cc in
        subst IsFoundSpan same (record { by_now = by_now; first = first; last = last; mode_is = refl })

    by_test : (span : Span) (b : Bool) → leb horizon (now_of log) ≡ b
        → cond b (span_between log (least has_number horizon) (greatest has_number horizon)) None ≡ Some span → IsFoundSpan span
    by_test span true at e =
        between span (least has_number horizon) (greatest has_number horizon) (leb-true horizon (now_of log) at)
        (least_found has_number horizon)
        (greatest_found has_number horizon) e
    by_test span false at e = absurd cc

    -- The span of a number is the one that the search finds.
    pub found_span : (span : Span) → span_at log number horizon ≡ Some span → IsFoundSpan span
    found_span span e = by_test span (leb horizon (now_of log)) refl e

    module _ (span : Span) (found : IsFoundSpan span) where
      first_number : span_number log span.lo ≡ number
      first_number = eqb-true (span_number log span.lo) number found.first.here

      last_number : span_number log span.hi ≡ number
      last_number = eqb-true (span_number log span.hi) number found.last.here

      -- A span that is found ends at its first instant or after.
      pub in_order : span.lo ≤ span.hi
      in_order = elim (cases_lt span.hi span.lo) [
        | inl before ↦ absurd (both_ways (has_number span.hi) (found.first.none_below span.hi before) found.last.here)
        | inr upto ↦ upto
      ]

      numbered : (instant : ℕ) → span.lo ≤ instant → instant ≤ span.hi → span_number log instant ≡ number
      numbered instant from upto =
          omega (arith, number_rises span.lo instant from, number_rises instant span.hi upto, first_number, last_number)

      -- Each instant of a span that is found has its mode.
      pub in_mode : (instant : ℕ) → span.lo ≤ instant → instant ≤ span.hi → mode_at log instant ≡ span.mode
      in_mode instant from upto = one_mode span.lo instant from (numbered instant from upto ∙ sym first_number) ∙ found.mode_is

      not_before : (instant : ℕ) → instant + 1 ≡ span.lo → mode_at log instant ≡ span.mode → ⊥
      not_before instant next mode =
          eqb-false (span_number log instant) number (found.first.none_below instant (omega arith))
          (one_number instant span.lo next (mode ∙ sym found.mode_is) ∙ first_number)

      not_after : (instant : ℕ) → instant ≡ span.hi + 1 → instant ≤ horizon → mode_at log instant ≡ span.mode → ⊥
      not_after instant next upto mode =
          eqb-false (span_number log instant) number (found.last.none_above instant (omega arith) upto)
          (sym (one_number span.hi instant (sym next) (in_mode span.hi in_order (omega arith) ∙ sym mode)) ∙ last_number)

      found_is_span : IsSpanOf log number horizon span
      found_is_span = record {
        by_now = found.by_now;
        run = record {
          in_order = in_order;
          in_range = found.last.within;
          throughout = in_mode;
          not_before = not_before;
          not_after = not_after;
        };
        numbered = numbered;
      }

    -- The span of a number is a maximal run of one mode.
    pub is_span : (span : Span) → span_at log number horizon ≡ Some span → IsSpanOf log number horizon span
    is_span span e = found_is_span span (found_span span e)

  -- two ends that are found make a span
  some_between : (lo hi : ℕ) (first last : Option ℕ) → first ≡ Some lo → last ≡ Some hi
      → span_between log first last ≡ Some (record { lo = lo; hi = hi; mode = mode_at log lo })
  some_between lo hi first last e f = rw (e, f) refl

  -- Each instant lies in the span of its number.
  pub has_span : (instant horizon : ℕ) → instant ≤ horizon → horizon ≤ now_of log
      → (span : Span) × (span_at log (span_number log instant) horizon ≡ Some span) × (span.lo ≤ instant) × (instant ≤ span.hi)
  has_span instant horizon within by_now =
      let number : ℕ = span_number log instant in
      let here : has_number number horizon instant ≡ true = eq-eqb (span_number log instant) number refl in
      let first = least_there (has_number number horizon) horizon instant within here in
      let last = greatest_there (has_number number horizon) horizon instant within here in (
        record { lo = first.0; hi = last.0; mode = mode_at log first.0 },
        cond-true (leb horizon (now_of log)) _ _ (le-leb horizon (now_of log) by_now) ∙ some_between first.0 last.0 _ _ first.1 last.1,
        least_upto (has_number number horizon) horizon first.0 instant first.2 here,
        greatest_from (has_number number horizon) horizon last.0 instant last.2 within here,
      )

  -- So an instant up to now lies in the span of its number.
  pub lies_inside : (number : ℕ) (span : Span) → span_at log number (now_of log) ≡ Some span → (instant : ℕ) → instant ≤ now_of log
      → span_number log instant ≡ number
      → (span.lo ≤ instant) × (instant ≤ span.hi)
  lies_inside number span here instant within numbered =
      let there = has_span instant (now_of log) within (omega arith) in
      let at : span_at log number (now_of log) ≡ Some there.0 = subst (λ n. span_at log n (now_of log) ≡ Some there.0) numbered there.1 in
      let same : there.0 ≡ span = cc (at, here) in
      subst (λ (s : Span). (s.lo ≤ instant) × (instant ≤ s.hi)) same (there.2, there.3)

  -- ---- the one span of a number

  same_span : (one other : Span) → one.lo ≡ other.lo → one.hi ≡ other.hi → one.mode ≡ other.mode → one ≡ other
  same_span one other lo hi mode =
      ap (λ l. let span : Span = record { lo = l; hi = one.hi; mode = one.mode } in span) lo
      ∙ ap (λ h. let span : Span = record { lo = other.lo; hi = h; mode = one.mode } in span) hi
      ∙ ap (λ m. let span : Span = record { lo = other.lo; hi = other.hi; mode = m } in span) mode

  -- The search finds what is the span of a number.
  pub span_is_found : (number horizon : ℕ) (span : Span) → IsSpanOf log number horizon span → span_at log number horizon ≡ Some span
  span_is_found number horizon span is =
      let there = has_span span.lo horizon (omega (arith, is.run.in_order, is.run.in_range)) is.by_now in
      let first : span_number log span.lo ≡ number = is.numbered span.lo (omega arith) is.run.in_order in
      let at : span_at log number horizon ≡ Some there.0 = subst (λ n. span_at log n horizon ≡ Some there.0) first there.1 in
      let other = is_span number horizon there.0 at in
      let mode : there.0.mode ≡ span.mode =
      sym (other.run.throughout span.lo there.2 there.3) ∙ is.run.throughout span.lo (omega arith) is.run.in_order in
      let run : IsMaximalRun (λ instant. mode_at log instant ≡ span.mode) there.0.lo there.0.hi horizon =
      subst (λ m. IsMaximalRun (λ instant. mode_at log instant ≡ m) there.0.lo there.0.hi horizon) mode other.run in
      let ends =
      one_run (λ instant. mode_at log instant ≡ span.mode) horizon there.0.lo there.0.hi span.lo span.hi span.lo run is.run there.2 there.3
      (omega arith) is.run.in_order in
      at ∙ ap Some (same_span there.0 span ends.0 ends.1 mode)

  -- The search finds a span exactly where it is the span of the number.
  pub span_found : (number horizon : ℕ) (span : Span) → (span_at log number horizon ≡ Some span) ↔ IsSpanOf log number horizon span
  span_found number horizon span = (is_span number horizon span, span_is_found number horizon span)
