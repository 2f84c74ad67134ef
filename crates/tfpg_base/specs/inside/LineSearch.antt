-- What one call of a reader of lines finds, apart from its history: how the bytes after the lines given go on.
use Rattle.std.specs.Prelude.{◌≡◌, ◌⊎◌, ℕ, ◌+◌, ◌<◌, ◌≤◌, List, [], ◌∷◌, ◌++◌, length, take, drop, nat_le, if◌then◌else◌, Bool, true, false, Some, None, Result, Ok, Err}
use Rattle.tfpg_base.specs.declared.line.Line.{Line}
use Rattle.tfpg_base.specs.declared.line.Line.TheVariants as line
use Rattle.tfpg_base.specs.declared.line.LineFault.{LineFault}
use Rattle.tfpg_base.specs.declared.line.LineFault.TheVariants as fault
use Rattle.tfpg_base.specs.Outside.{SourceState, Takes, IsAtEnd}
use Rattle.tfpg_base.specs.Lines.{LinesState, HasNoLineEnd}
use Rattle.tfpg_base.specs.declared.limits.TheConstants.{LONGEST_LINE, MAX_BYTES, BUFFER_SIZE}

-- The line ends at the first byte that ends one.
pub record IsAtLineEnd (bytes : List ℕ) (count : ℕ) : Type 0 where
  pub within : count < length bytes
  pub line : HasNoLineEnd (take count bytes)
  pub whole : bytes ≡ take count bytes ++ 10 ∷ drop (count + 1) bytes

-- what the result for a line is
abbrev pub returned_line : List ℕ → Line
returned_line bytes = if nat_le (length bytes) LONGEST_LINE then line.Text else line.TooLong

-- what is lent of a line
abbrev pub lent_of : List ℕ → List ℕ
lent_of bytes = if nat_le (length bytes) LONGEST_LINE then bytes else []

-- The bytes are a line, its line end, and what waits.
pub record BeginsWith (bytes first : List ℕ) (now : LinesState) : Type 0 where
  pub whole : bytes ≡ first ++ 10 ∷ now.waiting
  pub ended : now.ended ≡ None

-- The bytes are a last line, without a line end.
pub record IsLastLine (bytes first : List ℕ) (source_ended : Type 0) (now : LinesState) : Type 0 where
  pub whole : bytes ≡ first
  pub some : 0 < length first
  pub source : source_ended
  pub ended : now.ended ≡ Some (Ok line.End)

-- The line at the front of the bytes was given.
pub record IsGiven (bytes first : List ℕ) (lines : ℕ) (source_ended : Type 0) (now : LinesState) : Type 0 where
  pub line : HasNoLineEnd first
  pub ends : BeginsWith bytes first now ⊎ IsLastLine bytes first source_ended now
  pub number : now.number ≡ lines + 1
  pub few : now.taken ≤ MAX_BYTES

-- All that waited was given as the last line, or there was nothing to give.
abbrev pub GivesLast : LinesState → Bool → LinesState → Type 0
GivesLast old true now = (0 < length old.waiting) × (now.text ≡ old.waiting) × (now.number ≡ old.number + 1)
GivesLast old false now = (old.waiting ≡ []) × (now.text ≡ []) × (now.number ≡ old.number)

-- No line was returned, and the result ends the reader.
pub record IsEnded (lines : ℕ) (ending : Result Line LineFault) (now : LinesState) : Type 0 where
  pub number : now.number ≡ lines
  pub text : now.text ≡ []
  pub ended : now.ended ≡ Some ending

-- what a call found in these bytes
abbrev pub FoundLine : List ℕ → ℕ → Type 0 → Result Line LineFault → LinesState → Type 0
FoundLine bytes lines source_ended (Ok line.Text) now =
    (first : List ℕ) × IsGiven bytes first lines source_ended now × (length first ≤ LONGEST_LINE) × (now.text ≡ first)
FoundLine bytes lines source_ended (Ok line.TooLong) now =
    (first : List ℕ) × IsGiven bytes first lines source_ended now × (LONGEST_LINE < length first) × (now.text ≡ [])
FoundLine bytes lines source_ended (Ok line.End) now =
    (bytes ≡ []) × source_ended × (now.taken ≤ MAX_BYTES) × IsEnded lines (Ok line.End) now
FoundLine bytes lines source_ended (Err fault.ReadFault) now =
    HasNoLineEnd bytes × (now.taken ≤ MAX_BYTES) × IsEnded lines (Err fault.ReadFault) now
FoundLine bytes lines source_ended (Err fault.TooMuchInput) now =
    (first : List ℕ) × (last : ℕ) × HasNoLineEnd first × (bytes ≡ first ++ last ∷ []) × (now.taken ≡ MAX_BYTES + 1) × IsEnded lines (Err fault.TooMuchInput) now

-- these bytes were taken
pub record Took (old now : LinesState) (before after : SourceState) (more : List ℕ) : Type 0 where
  pub takes : Takes before after more
  pub count : now.taken ≡ old.taken + length more

-- The bytes of a call: those with which no line ended, and then one piece.
pub record Pieces (old : LinesState) (more : List ℕ) : Type 0 where
  pub front : List ℕ
  pub piece : List ℕ
  pub whole : more ≡ front ++ piece
  pub part : HasNoLineEnd (old.waiting ++ front)
  pub few : old.taken + length front ≤ MAX_BYTES
  pub small : length piece ≤ BUFFER_SIZE

-- Bytes were taken, and wait.
pub record IsRefilled (old now : LinesState) (before after : SourceState) (count : ℕ) : Type 0 where
  pub more : List ℕ
  pub took : Took old now before after more
  pub length : length more ≡ count
  pub small : count ≤ BUFFER_SIZE
  pub end : count ≡ 0 → IsAtEnd after
  pub few : now.taken ≤ MAX_BYTES
  pub waiting : now.waiting ≡ old.waiting ++ more
  pub number : now.number ≡ old.number
  pub ended : now.ended ≡ old.ended

-- bytes were taken, or a fault ended the reader
abbrev pub Refilled : LinesState → SourceState → SourceState → Result ℕ LineFault → LinesState → Type 0
Refilled old before after (Ok count) now = IsRefilled old now before after count
Refilled old before after (Err fault.ReadFault) now =
    Took old now before after [] × (now.taken ≤ MAX_BYTES) × IsEnded old.number (Err fault.ReadFault) now
Refilled old before after (Err fault.TooMuchInput) now =
    (last : ℕ) × Took old now before after (last ∷ []) × (now.taken ≡ MAX_BYTES + 1) × IsEnded old.number (Err fault.TooMuchInput) now

-- bytes were taken until a line, the end or a fault was found
abbrev pub Searched : LinesState → SourceState → SourceState → Result Line LineFault → LinesState → Type 0
Searched old before after result now =
    (more : List ℕ) × Took old now before after more × Pieces old more × FoundLine (old.waiting ++ more) old.number (IsAtEnd after) result now
