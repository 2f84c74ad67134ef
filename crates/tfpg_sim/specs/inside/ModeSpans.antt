-- The spans of one mode up to the stop. No public contract cites this.
use Rattle.std.specs.Prelude.{◌≡◌, ℕ, ◌+◌, ◌≤◌, List, [], ◌∷◌, nat_le, if◌then◌else◌}
use Rattle.tfpg_sim.specs.declared.entry.Entry.{Entry}
use Rattle.tfpg_sim.specs.declared.entry.Entry.TheVariants.{Start, Mode, Sweep, Tick, Stop}
use Rattle.tfpg_log.specs.declared.span.Span.{Span}
use Rattle.tfpg_log.specs.Log.{Logbook, mode_at}

-- These are the spans from one instant to before another: each begins where the one before it ends, and has one mode.
abbrev pub AreSpans : Logbook → ℕ → ℕ → List Span → Type 0
AreSpans log end begin [] = begin ≡ end
AreSpans log end begin (span ∷ spans) =
    (span.lo ≡ begin) × (span.lo ≤ span.hi)
    × ((instant : ℕ) → span.lo ≤ instant → instant ≤ span.hi → mode_at log instant ≡ span.mode)
    × AreSpans log end (span.hi + 1) spans

-- the span that a line ends, where it has an instant
abbrev pub closed_by : Span → Entry → List Span
closed_by current (Start time node) = []
closed_by current (Mode time mode) =
    if nat_le current.lo time then record { lo = current.lo; hi = time; mode = current.mode } ∷ [] else []
closed_by current (Sweep time) = []
closed_by current (Tick time) = []
closed_by current (Stop time) = []

-- the span from a line on
abbrev pub current_after : Span → Entry → Span
current_after current (Start time node) = current
current_after current (Mode time mode) = record { lo = time + 1; hi = current.hi; mode = mode }
current_after current (Sweep time) = current
current_after current (Tick time) = current
current_after current (Stop time) = current
