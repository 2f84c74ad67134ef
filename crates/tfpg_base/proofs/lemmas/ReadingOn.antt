-- One call after another: what a caller that hands in the same source knows after each result.
use Rattle.std.proofs.Common.{◌≡◌, ◌⊎◌, inl, inr, ℕ, ◌<◌, ◌≤◌, List, length, Option, Some, None, Result, Ok, refl, ◌∙◌}
use Rattle.std.proofs.lemmas.Option.{same_Some}
use Rattle.tfpg_base.specs.declared.line.Line.{Line}
use Rattle.tfpg_base.specs.declared.line.Line.TheVariants as line
use Rattle.tfpg_base.specs.declared.line.LineFault.{LineFault}
use Rattle.tfpg_base.specs.Outside.{SourceState, Takes, IsAtEnd}
use Rattle.tfpg_base.specs.Lines.{Reading, LinesState, LinesRepresent, IsNext, GoesFurther, Continues, with_bytes, with_line, ended_after_line, next_whole}
use Rattle.tfpg_base.specs.declared.limits.TheConstants.{LONGEST_LINE}

-- Nothing has ended the reader, or the last line was given and the source has ended.
abbrev pub CanContinue : Reading → SourceState → Type 0
CanContinue reading source = (reading.ended ≡ None) ⊎ ((reading.ended ≡ Some (Ok line.End)) × IsAtEnd source)

-- a reader that returned a line can continue
pub CanContinue-with_line : (reading : Reading) (first : List ℕ) (source : SourceState) → IsNext reading first (IsAtEnd source) → CanContinue (with_line reading first) source
CanContinue-with_line reading first source next = go (next_whole reading) next.whole where
  go : (whole : Option (List ℕ)) → (whole ≡ Some first) ⊎ IsAtEnd source → (ended_after_line whole ≡ None) ⊎ ((ended_after_line whole ≡ Some (Ok line.End)) × IsAtEnd source)
  go (Some found) is = inl refl
  go None (inl is) = absurd (cc)
  go None (inr end) = inr (refl, end)

-- a call that returns anything but the end is a turn of a reader that nothing has ended
pub Continues-turn : (reading : Reading) (before after : SourceState) (result : Result Line LineFault) (reader : LinesState) → CanContinue reading before → (result ≡ Ok line.End → ⊥) → Continues reading reading.ended before after result reader → GoesFurther reading before after result reader
Continues-turn reading before after result reader goes_on other continues = go reading.ended goes_on continues where
  go : (ended : Option (Result Line LineFault)) → (ended ≡ None) ⊎ ((ended ≡ Some (Ok line.End)) × IsAtEnd before) → Continues reading ended before after result reader → GoesFurther reading before after result reader
  go None is same = same
  go (Some ending) (inl is) same = absurd (cc)
  go (Some ending) (inr is) same = absurd (other (same.0 ∙ same_Some ending (Ok line.End) is.0))

-- A call took these bytes and returned this line, and the reader can continue.
pub record GaveLine (reading : Reading) (before after : SourceState) (reader : LinesState) : Type 0 where
  pub more : List ℕ
  pub first : List ℕ
  pub takes : Takes before after more
  pub no_fault : after.faults ≡ before.faults
  pub next : IsNext (with_bytes reading more) first (IsAtEnd after)
  pub stands : LinesRepresent reader (with_line (with_bytes reading more) first)
  pub goes_on : CanContinue (with_line (with_bytes reading more) first) after

module _ (reading : Reading) (before after : SourceState) (reader : LinesState) (goes_on : CanContinue reading before) where
  -- a call that returns a text has read it
  pub Continues-text : Continues reading reading.ended before after (Ok line.Text) reader → (gave : GaveLine reading before after reader) × (length gave.first ≤ LONGEST_LINE) × (reader.text ≡ gave.first)
  Continues-text continues =
      let turn = Continues-turn reading before after (Ok line.Text) reader goes_on (λ e. cc) continues in
      let given = turn.returns in
      (record { more = turn.more; first = given.0; takes = turn.takes; no_fault = turn.faults; next = given.1; stands = given.4; goes_on = CanContinue-with_line (with_bytes reading turn.more) given.0 after given.1 }, given.2, given.3)

  -- a call that returns that a line is too long has passed it
  pub Continues-too_long : Continues reading reading.ended before after (Ok line.TooLong) reader → (gave : GaveLine reading before after reader) × (LONGEST_LINE < length gave.first)
  Continues-too_long continues =
      let turn = Continues-turn reading before after (Ok line.TooLong) reader goes_on (λ e. cc) continues in
      let given = turn.returns in
      (record { more = turn.more; first = given.0; takes = turn.takes; no_fault = turn.faults; next = given.1; stands = given.4; goes_on = CanContinue-with_line (with_bytes reading turn.more) given.0 after given.1 }, given.2)
