-- Bytes as lines, and what a reader of lines has taken and returned.
use Rattle.std.specs.Prelude.{◌≡◌, ◌⊎◌, ℕ, ◌+◌, ◌-◌, ◌<◌, ◌≤◌, List, [], ◌∷◌, ◌++◌, length, take, nat_lt, ◌==◌, Bool, false, Option, Some, None, Result, Ok, Err, IsSome, All, slice_get, slice_index_or}
use Rattle.std.specs.List.{slice_split, flat_map}
use Rattle.tfpg_base.specs.declared.limits.TheConstants.{LONGEST_LINE, MAX_BYTES, BUFFER_SIZE}
use Rattle.tfpg_base.specs.declared.line.Line.{Line}
use Rattle.tfpg_base.specs.declared.line.Line.TheVariants as line
use Rattle.tfpg_base.specs.declared.line.LineFault.{LineFault}
use Rattle.tfpg_base.specs.declared.line.LineFault.TheVariants as fault
use Rattle.tfpg_base.specs.Outside.{SourceState, Takes, IsAtEnd, Rose}

-- whether a byte ends a line
abbrev pub ends_line : ℕ → Bool
ends_line byte = byte == 10

-- The bytes between line ends. There is always a last part, which may be empty.
abbrev pub parts_of : List ℕ → List (List ℕ)
parts_of bytes = slice_split ends_line bytes

-- the lines whose line end is among the bytes
abbrev pub whole_lines : List ℕ → List (List ℕ)
whole_lines bytes = take (length (parts_of bytes) - 1) (parts_of bytes)

-- the bytes after the last line end
abbrev pub last_part : List ℕ → List ℕ
last_part bytes = slice_index_or (parts_of bytes) (length (parts_of bytes) - 1) []

-- a part is a line where it has a byte
abbrev pub line_of_part : List ℕ → List (List ℕ)
line_of_part [] = []
line_of_part (byte ∷ bytes) = (byte ∷ bytes) ∷ []

-- The lines of bytes, without their line ends. A last line without one is a line where it has a byte.
abbrev pub lines_of : List ℕ → List (List ℕ)
lines_of bytes = whole_lines bytes ++ line_of_part (last_part bytes)

-- Whether a line has more bytes than a line may have.
abbrev pub is_too_long : List ℕ → Bool
is_too_long line = nat_lt LONGEST_LINE (length line)

-- The history of a reader of lines: all the bytes that it took, all the lines that it
-- returned, and the result that ended it, if one has.
pub record Reading : Type 0 where
  pub taken : List ℕ
  pub given : List (List ℕ)
  pub ended : Option (Result Line LineFault)

-- nothing taken, nothing returned
abbrev pub new_reading : Reading
new_reading = record { taken = []; given = []; ended = None }

-- the next line that has come whole and is not returned yet
abbrev pub next_whole : Reading → Option (List ℕ)
next_whole reading = slice_get (whole_lines (take MAX_BYTES reading.taken)) (length reading.given)

-- the history after these bytes were taken
abbrev pub with_bytes : Reading → List ℕ → Reading
with_bytes reading bytes = record reading { taken = reading.taken ++ bytes }

-- what is returned after a line: a line that has come without a line end is the last, and after it comes the end
abbrev pub ended_after_line : Option (List ℕ) → Option (Result Line LineFault)
ended_after_line (Some whole) = None
ended_after_line None = Some (Ok line.End)

-- the history after one more line was returned
abbrev pub with_line : Reading → List ℕ → Reading
with_line reading line = record reading { given = reading.given ++ line ∷ []; ended = ended_after_line (next_whole reading) }

-- the history after a result that ends it
abbrev pub ended_by : Reading → Result Line LineFault → Reading
ended_by reading ending = record reading { ended = Some ending }

-- what contracts see of a reader: the bytes in its buffer, how many it took, what it lends, and what ended it
pub record LinesState : Type 0 where
  pub waiting : List ℕ
  pub taken : ℕ
  pub text : List ℕ
  pub number : ℕ
  pub ended : Option (Result Line LineFault)

-- a line with its line end
abbrev pub with_line_end : List ℕ → List ℕ
with_line_end line = line ++ 10 ∷ []

-- no byte of it ends a line
abbrev pub HasNoLineEnd : List ℕ → Type 0
HasNoLineEnd bytes = All (λ byte. ends_line byte ≡ false) bytes

-- while nothing has ended it, the buffer holds the bytes taken that come after the lines returned
pub record IsGoingOn (reader : LinesState) (reading : Reading) : Type 0 where
  pub bytes : reading.taken ≡ flat_map with_line_end reading.given ++ reader.waiting
  pub lines : All HasNoLineEnd reading.given
  pub few : reader.taken ≤ MAX_BYTES

-- The reader represents this history.
pub record LinesRepresent (reader : LinesState) (reading : Reading) : Type 0 where
  pub number : reader.number ≡ length reading.given
  pub taken : reader.taken ≡ length reading.taken
  pub ended : reader.ended ≡ reading.ended
  pub going_on : reading.ended ≡ None → IsGoingOn reader reading
  pub all_given : reading.ended ≡ Some (Ok line.End) → lines_of reading.taken ≡ reading.given

-- The line is the next one, after those returned, of all the bytes taken, which are not too many. It has come whole, or the source has ended.
pub record IsNext (reading : Reading) (line : List ℕ) (source_ended : Type 0) : Type 0 where
  pub few : length reading.taken ≤ MAX_BYTES
  pub front : take (length reading.given + 1) (lines_of reading.taken) ≡ reading.given ++ line ∷ []
  pub whole : (next_whole reading ≡ Some line) ⊎ source_ended

-- What a reader that nothing has ended returns, with the bytes of this call among those taken.
abbrev pub ReturnsNext : Reading → Type 0 → Result Line LineFault → LinesState → Type 0
ReturnsNext reading source_ended (Ok line.Text) reader =
    (next : List ℕ) × IsNext reading next source_ended × (length next ≤ LONGEST_LINE) × (reader.text ≡ next)
    × LinesRepresent reader (with_line reading next)
ReturnsNext reading source_ended (Ok line.TooLong) reader =
    (next : List ℕ) × IsNext reading next source_ended × (LONGEST_LINE < length next) × (reader.text ≡ [])
    × LinesRepresent reader (with_line reading next)
ReturnsNext reading source_ended (Ok line.End) reader =
    (lines_of reading.taken ≡ reading.given) × source_ended × (length reading.taken ≤ MAX_BYTES) × (reader.text ≡ [])
    × LinesRepresent reader (ended_by reading (Ok line.End))
ReturnsNext reading source_ended (Err fault.ReadFault) reader =
    (whole_lines reading.taken ≡ reading.given) × (length reading.taken ≤ MAX_BYTES) × (reader.text ≡ [])
    × LinesRepresent reader (ended_by reading (Err fault.ReadFault))
ReturnsNext reading source_ended (Err fault.TooMuchInput) reader =
    (whole_lines (take MAX_BYTES reading.taken) ≡ reading.given) × (length reading.taken ≡ MAX_BYTES + 1) × (reader.text ≡ [])
    × LinesRepresent reader (ended_by reading (Err fault.TooMuchInput))

-- These bytes with which no whole line has come, and then one more piece, which a buffer can hold.
pub record ComesInPieces (reading : Reading) (more : List ℕ) : Type 0 where
  pub front : List ℕ
  pub piece : List ℕ
  pub whole : more ≡ front ++ piece
  pub part : next_whole (with_bytes reading front) ≡ None
  pub small : length piece ≤ BUFFER_SIZE

-- These bytes are no more than a call needs: none where the next line has come whole, else pieces until it has.
abbrev pub TakesAsNeeded : Reading → List ℕ → Type 0
TakesAsNeeded reading more = (IsSome (next_whole reading) → more ≡ []) × ((more ≡ []) ⊎ ComesInPieces reading more)

-- The source's count of faults rose exactly where the result is that reading failed.
abbrev pub CountsReadFault : {X : Type 0} → Result X LineFault → SourceState → SourceState → Type 0
CountsReadFault (Err fault.ReadFault) before after = Rose before.faults after.faults
CountsReadFault (Err fault.TooMuchInput) before after = after.faults ≡ before.faults
CountsReadFault (Ok found) before after = after.faults ≡ before.faults

-- One call of a reader that nothing has ended.
pub record GoesFurther (reading : Reading) (before after : SourceState) (result : Result Line LineFault) (reader : LinesState) : Type 0 where
  pub more : List ℕ
  pub takes : Takes before after more
  pub needed : TakesAsNeeded reading more
  pub faults : CountsReadFault result before after
  pub returns : ReturnsNext (with_bytes reading more) (IsAtEnd after) result reader

-- One call: what ended a reader is returned again, and the source is left as it was. Else the reader goes further.
abbrev pub Continues : Reading → Option (Result Line LineFault) → SourceState → SourceState → Result Line LineFault → LinesState → Type 0
Continues reading (Some ending) before after result reader = (result ≡ ending) × (after ≡ before) × (reader.text ≡ []) × LinesRepresent reader reading
Continues reading None before after result reader = GoesFurther reading before after result reader
