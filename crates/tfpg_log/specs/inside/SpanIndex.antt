-- How a log keeps its spans: as the changes of mode that begin one, in order. Span 0 begins at 0 in mode 0, and each
-- further span at the instant after its change.
use Rattle.std.specs.Prelude.{◌≡◌, ℕ, zero, suc, ◌+◌, ◌-◌, ◌≤◌, ◌<◌, List, [], ◌∷◌, ◌++◌, length, take, ◌&&◌, ◌==◌, nat_lt, nat_le, if◌then◌else◌, Option, Some, None, slice_index_or}
use Rattle.tfpg_log.specs.declared.mode_change.ModeChange.{ModeChange}
use Rattle.tfpg_log.specs.declared.span.Span.{Span}

-- the change at an index
abbrev pub change_at : List ModeChange → ℕ → ModeChange
change_at changes index = slice_index_or changes index (record { time = 0; mode = 0 })

-- the first instant of the span of a number
abbrev pub begin_of_span : List ModeChange → ℕ → ℕ
begin_of_span changes zero = 0
begin_of_span changes (suc index) = (change_at changes index).time + 1

-- the mode of the span of a number
abbrev pub mode_of_span : List ModeChange → ℕ → ℕ
mode_of_span changes zero = 0
mode_of_span changes (suc index) = (change_at changes index).mode

-- the last instant, up to a horizon, of a span that begins by it: the next span begins after its change
abbrev pub end_of_span : List ModeChange → ℕ → ℕ → ℕ
end_of_span changes number horizon =
    if nat_lt number (length changes) && nat_lt (change_at changes number).time horizon
    then (change_at changes number).time else horizon

-- the span of a number up to a horizon, where there is one that begins by it
abbrev pub span_in : List ModeChange → ℕ → ℕ → Option Span
span_in changes number horizon =
    if nat_le number (length changes) && nat_le (begin_of_span changes number) horizon
    then Some (record {
      lo = begin_of_span changes number;
      hi = end_of_span changes number horizon;
      mode = mode_of_span changes number;
    })
    else None

-- The instant lies in the span of the number: that begins by then, and the next one does not.
pub record IsInSpan (changes : List ModeChange) (number instant : ℕ) : Type 0 where
  pub counted : number ≤ length changes
  pub begun : begin_of_span changes number ≤ instant
  pub unended : number < length changes → instant < begin_of_span changes (suc number)

-- The changes begin the spans of the modes of the instants: each span begins after the one before and has another mode,
-- which is that of its instants.
pub record BeginSpans (modes : ℕ → ℕ) (changes : List ModeChange) : Type 0 where
  pub rise : (number : ℕ) → number < length changes → begin_of_span changes number < begin_of_span changes (suc number)
  pub differ : (number : ℕ) → number < length changes → mode_of_span changes number ≡ mode_of_span changes (suc number) → ⊥
  pub hold : (number instant : ℕ) → IsInSpan changes number instant → modes instant ≡ mode_of_span changes number

-- the changes that begin a span by an instant, where one more change comes at it: of two with one time the later decides
abbrev pub kept_at : List ModeChange → ℕ → List ModeChange
kept_at changes time =
    if begin_of_span changes (length changes) == time + 1 then take (length changes - 1) changes else changes

-- the changes with one more after them, where its mode is another than that of the last span
abbrev pub with_other_mode : List ModeChange → ℕ → ℕ → List ModeChange
with_other_mode changes time mode =
    if mode_of_span changes (length changes) == mode then changes else changes ++ record { time = time; mode = mode } ∷ []

-- the changes that begin spans after one more change
abbrev pub with_change : List ModeChange → ℕ → ℕ → List ModeChange
with_change changes time mode = with_other_mode (kept_at changes time) time mode
