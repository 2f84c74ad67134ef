-- Maximal runs of instants: what spans and windows are, said without a search.
use Rattle.std.specs.Prelude.{◌≡◌, ℕ, ◌+◌, ◌≤◌, Bool, IsTrue, Some}
use Rattle.tfpg_log.specs.declared.span.Span.{Span}
use Rattle.tfpg_log.specs.declared.span.Window.{Window}
use Rattle.tfpg_log.specs.Log.{Logbook, now_of, mode_at}
use Rattle.tfpg_log.specs.Spans.{span_number, span_at}

-- The instants from the one to the other are a maximal run, up to a horizon, of those of which something holds: it
-- holds of each of them, and of none that adjoins them.
pub record IsMaximalRun (Holds : ℕ → Type 0) (lo hi horizon : ℕ) : Type 0 where
  pub in_order : lo ≤ hi
  pub in_range : hi ≤ horizon
  pub throughout : (instant : ℕ) → lo ≤ instant → instant ≤ hi → Holds instant
  pub not_before : (instant : ℕ) → instant + 1 ≡ lo → Holds instant → ⊥
  pub not_after : (instant : ℕ) → instant ≡ hi + 1 → instant ≤ horizon → Holds instant → ⊥

-- The span is that of a number, up to a horizon that is not after now: a maximal run of instants of one mode, each of
-- which has the number.
pub record IsSpanOf (log : Logbook) (number horizon : ℕ) (span : Span) : Type 0 where
  pub by_now : horizon ≤ now_of log
  pub run : IsMaximalRun (λ instant. mode_at log instant ≡ span.mode) span.lo span.hi horizon
  pub numbered : (instant : ℕ) → span.lo ≤ instant → instant ≤ span.hi → span_number log instant ≡ number

-- some instant of the span lies in the window
abbrev pub Overlaps : Span → Window → Type 0
Overlaps span window = (window.lo ≤ span.hi) × (span.lo ≤ window.hi)

-- each instant of the span lies in the window
abbrev pub LiesIn : Span → Window → Type 0
LiesIn span window = (window.lo ≤ span.lo) × (span.hi ≤ window.hi)

-- The window is the one round the span of a number: a maximal run of passing instants, made of whole spans, with that
-- span among them, and with the number of its first span.
pub record IsWindowRound (log : Logbook) (passes : ℕ → Bool) (number horizon : ℕ) (window : Window) : Type 0 where
  pub run : IsMaximalRun (λ instant. IsTrue (passes instant)) window.lo window.hi horizon
  pub whole_spans : (other : ℕ) (span : Span) → span_at log other horizon ≡ Some span
      → Overlaps span window → LiesIn span window
  pub round : (span : Span) × (span_at log number horizon ≡ Some span) × LiesIn span window
  pub first_span : window.first ≡ span_number log window.lo
