-- Spans follow one another, and each has all instants of its number.
use Rattle.std.proofs.Common.{◌≡◌, ℕ, ◌≤◌, Some, None, subst, arith}
use Rattle.tfpg_log.specs.declared.span.Span.{Span}
use Rattle.tfpg_log.specs.Log.{Logbook, now_of, mode_at}
use Rattle.tfpg_log.specs.Spans.{span_number, span_at}
use Rattle.tfpg_log.proofs.lemmas.instants.SpanRuns.{is_span, has_span}

module _ (log : Logbook) where
  module _ (number : ℕ) where
    -- Where there is no span of a number, no instant up to now has it.
    pub none_inside : span_at log number (now_of log) ≡ None → (instant : ℕ) → instant ≤ now_of log → span_number log instant ≡ number → ⊥
    none_inside none instant within numbered =
        let there = has_span log instant (now_of log) within (omega arith) in
        let at : span_at log number (now_of log) ≡ Some there.0 = subst (λ n. span_at log n (now_of log) ≡ Some there.0) numbered there.1 in
        cc (at, none)

    module _ (span : Span) (here : span_at log number (now_of log) ≡ Some span) where
      -- Each instant of the span has the number,
      pub numbered : (instant : ℕ) → span.lo ≤ instant → instant ≤ span.hi → span_number log instant ≡ number
      numbered = (is_span log number (now_of log) span here).numbered

      -- is up to now,
      pub by_now : (instant : ℕ) → instant ≤ span.hi → instant ≤ now_of log
      by_now instant upto = omega (arith, upto, (is_span log number (now_of log) span here).run.in_range)

      -- and has the span's mode
      pub in_mode : (instant : ℕ) → span.lo ≤ instant → instant ≤ span.hi → mode_at log instant ≡ span.mode
      in_mode = (is_span log number (now_of log) span here).run.throughout

      -- The span has instants, from the first to the last.
      pub in_order : span.lo ≤ span.hi
      in_order = (is_span log number (now_of log) span here).run.in_order
