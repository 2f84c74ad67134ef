-- From what a call finds in the bytes after the lines given to what it returns for each history.
use Rattle.std.proofs.Common.{◌≡◌, inl, inr, ℕ, ◌+◌, ◌<◌, ◌≤◌, List, [], ◌∷◌, ◌++◌, length, take, Option, Some, None, Result, Ok, Err, is_some, ap, ◌∙◌, sym, subst, arith, append_assoc, append-nil, length-append}
use Rattle.std.specs.List.{All, flat_map, slice_get}
use Rattle.std.proofs.Math.Seq.{take-append-add}
use Rattle.std.proofs.lemmas.Bool.{both_ways}
use Rattle.std.proofs.lemmas.List.{take_all, take_at, length_push, flat_map_more}
use Rattle.std.proofs.lemmas.Option.{slice_get_past}
use Rattle.std.proofs.lemmas.List.Elements.{All-push}
use Rattle.tfpg_base.specs.declared.line.Line.{Line}
use Rattle.tfpg_base.specs.declared.line.Line.TheVariants as line
use Rattle.tfpg_base.specs.declared.line.LineFault.{LineFault}
use Rattle.tfpg_base.specs.declared.line.LineFault.TheVariants as fault
use Rattle.tfpg_base.specs.Outside.{SourceState, IsAtEnd}
use Rattle.tfpg_base.specs.Lines.{Reading, LinesState, HasNoLineEnd, LinesRepresent, IsGoingOn, IsNext, ReturnsNext, ComesInPieces, TakesAsNeeded, CountsReadFault, Continues, with_bytes, with_line, ended_by, ended_after_line, next_whole, whole_lines, lines_of, with_line_end}
use Rattle.tfpg_base.specs.declared.limits.TheConstants.{MAX_BYTES}
use Rattle.tfpg_base.specs.inside.LineSearch.{BeginsWith, IsLastLine, IsGiven, IsEnded, FoundLine, Took, Pieces, Searched}
use Rattle.tfpg_base.proofs.lemmas.LinesOf.{whole_lines-after, lines_of-after, whole_lines-line, lines_of-line, whole_lines-none, lines_of-none}
use Rattle.tfpg_base.proofs.lemmas.lists.Written.{slice_get-after}

-- bytes without a line end are one line, where there are some
lines_of-one : (bytes : List ℕ) → HasNoLineEnd bytes → 0 < length bytes → lines_of bytes ≡ bytes ∷ []
lines_of-one [] h some = absurd (omega arith)
lines_of-one (byte ∷ bytes) h some = lines_of-none (byte ∷ bytes) h

-- A history with its lines given, the bytes after them, and no more bytes taken than it may.
module _ (reading : Reading) (bytes : List ℕ) (split : reading.taken ≡ flat_map with_line_end reading.given ++ bytes) (clean : All HasNoLineEnd reading.given) where
  -- the lines are those given and those of the bytes after them
  lines_of-taken : lines_of reading.taken ≡ reading.given ++ lines_of bytes
  lines_of-taken = ap lines_of split ∙ lines_of-after reading.given bytes clean

  -- and so are the whole lines
  whole_lines-taken : whole_lines reading.taken ≡ reading.given ++ whole_lines bytes
  whole_lines-taken = ap whole_lines split ∙ whole_lines-after reading.given bytes clean

  module _ (few : length reading.taken ≤ MAX_BYTES) where
    -- what is the next whole line of the bytes is the next one
    next_whole-is : next_whole reading ≡ slice_get (reading.given ++ whole_lines bytes) (length reading.given)
    next_whole-is = ap (λ taken. slice_get (whole_lines taken) (length reading.given)) (take_all MAX_BYTES reading.taken few) ∙ ap (λ lines. slice_get lines (length reading.given)) whole_lines-taken

    -- the line that the bytes begin with is the next whole one
    next_whole-first : (first rest : List ℕ) → HasNoLineEnd first → bytes ≡ first ++ 10 ∷ rest → next_whole reading ≡ Some first
    next_whole-first first rest h e =
        next_whole-is
        ∙ ap (λ b. slice_get (reading.given ++ whole_lines b) (length reading.given)) e
        ∙ ap (λ lines. slice_get (reading.given ++ lines) (length reading.given)) (whole_lines-line first rest h)
        ∙ slice_get-after reading.given first (whole_lines rest)

    -- where no byte ends a line there is none
    next_whole-none : HasNoLineEnd bytes → next_whole reading ≡ None
    next_whole-none h =
        next_whole-is
        ∙ ap (λ lines. slice_get (reading.given ++ lines) (length reading.given)) (whole_lines-none bytes h)
        ∙ ap (λ lines. slice_get lines (length reading.given)) (append-nil reading.given)
        ∙ slice_get_past reading.given (length reading.given) (omega arith)

  -- the line that the bytes begin with is the next one
  front-first : (first rest : List ℕ) → HasNoLineEnd first → bytes ≡ first ++ 10 ∷ rest → take (length reading.given + 1) (lines_of reading.taken) ≡ reading.given ++ first ∷ []
  front-first first rest h e =
      ap (take (length reading.given + 1)) (lines_of-taken ∙ ap (λ b. reading.given ++ lines_of b) e ∙ ap (λ lines. reading.given ++ lines) (lines_of-line first rest h))
      ∙ take-append-add reading.given (first ∷ lines_of rest) 1

  -- a last line is the last one of all
  lines_of-last : (first : List ℕ) → HasNoLineEnd first → 0 < length first → bytes ≡ first → lines_of reading.taken ≡ reading.given ++ first ∷ []
  lines_of-last first h some e = lines_of-taken ∙ ap (λ b. reading.given ++ lines_of b) e ∙ ap (λ lines. reading.given ++ lines) (lines_of-one first h some)

-- after a whole line nothing has ended
not_ended : (next : Option (List ℕ)) (first : List ℕ) (ending : Result Line LineFault) → next ≡ Some first → ended_after_line next ≡ Some ending → ⊥
not_ended next first ending is e = let none : ended_after_line next ≡ None = ap ended_after_line is in cc

-- after a last line the end comes
ended_by_last : (next : Option (List ℕ)) → next ≡ None → ended_after_line next ≡ None → ⊥
ended_by_last next is e = let some : ended_after_line next ≡ Some (Ok line.End) = ap ended_after_line is in cc

-- the bytes of the lines given and of one more
with_line_end-push : (given : List (List ℕ)) (first rest : List ℕ) → flat_map with_line_end given ++ (first ++ 10 ∷ rest) ≡ flat_map with_line_end (given ++ first ∷ []) ++ rest
with_line_end-push given first rest =
    ap (λ b. flat_map with_line_end given ++ b) (sym (append_assoc first (10 ∷ []) rest))
    ∙ sym (append_assoc (flat_map with_line_end given) (with_line_end first) rest)
    ∙ ap (λ b. b ++ rest) (flat_map_more with_line_end [] given first)

-- What is known of the reader after a call, but for what it returns.
record IsCounted (reading : Reading) (lines : ℕ) (now : LinesState) : Type 0 where
  lines_given : lines ≡ length reading.given
  counted : now.taken ≡ length reading.taken

module _ (reading : Reading) (bytes : List ℕ) (lines : ℕ) (now : LinesState) (split : reading.taken ≡ flat_map with_line_end reading.given ++ bytes) (clean : All HasNoLineEnd reading.given) (stands : IsCounted reading lines now) (source_ended : Type 0) where
  -- the line that was given is next
  IsNext-given : (first : List ℕ) → IsGiven bytes first lines source_ended now → IsNext reading first source_ended
  IsNext-given first is = elim is.ends [
    | inl ends ↦ record {
      few = omega (arith, is.few, stands.counted);
      front = front-first reading bytes split clean first now.waiting is.line ends.whole;
      whole = inl (next_whole-first reading bytes split clean (omega (arith, is.few, stands.counted)) first now.waiting is.line ends.whole);
    }
    | inr ends ↦ record {
      few = omega (arith, is.few, stands.counted);
      front = ap (take (length reading.given + 1)) (lines_of-last reading bytes split clean first is.line ends.some ends.whole) ∙ take_all (length reading.given + 1) (reading.given ++ first ∷ []) (omega (arith, length_push reading.given first));
      whole = inr ends.source;
    }
  ]

  -- one more line is given
  number-given : (first : List ℕ) → IsGiven bytes first lines source_ended now → now.number ≡ length (reading.given ++ first ∷ [])
  number-given first is = omega (arith, is.number, stands.lines_given, length_push reading.given first)

  -- a reader that returned a line with its line end goes on
  LinesRepresent-begins : (first : List ℕ) → IsGiven bytes first lines source_ended now → BeginsWith bytes first now → LinesRepresent now (with_line reading first)
  LinesRepresent-begins first is ends =
      let next : next_whole reading ≡ Some first = next_whole-first reading bytes split clean (omega (arith, is.few, stands.counted)) first now.waiting is.line ends.whole in
      record {
        number = number-given first is;
        taken = stands.counted;
        ended = ends.ended ∙ sym (ap ended_after_line next);
        going_on = λ _. record {
          bytes = split ∙ ap (λ b. flat_map with_line_end reading.given ++ b) ends.whole ∙ with_line_end-push reading.given first now.waiting;
          lines = All-push HasNoLineEnd reading.given first clean is.line;
          few = is.few;
        };
        all_given = λ e. absurd (not_ended (next_whole reading) first (Ok line.End) next e);
      }

  -- a reader that returned the last line is ended
  LinesRepresent-last : (first : List ℕ) → IsGiven bytes first lines source_ended now → IsLastLine bytes first source_ended now → LinesRepresent now (with_line reading first)
  LinesRepresent-last first is ends =
      let next : next_whole reading ≡ None = next_whole-none reading bytes split clean (omega (arith, is.few, stands.counted)) (subst HasNoLineEnd (sym ends.whole) is.line) in
      record {
        number = number-given first is;
        taken = stands.counted;
        ended = ends.ended ∙ sym (ap ended_after_line next);
        going_on = λ e. absurd (ended_by_last (next_whole reading) next e);
        all_given = λ _. lines_of-last reading bytes split clean first is.line ends.some ends.whole;
      }

  -- the reader represents the history with the line that it returned
  LinesRepresent-given : (first : List ℕ) → IsGiven bytes first lines source_ended now → LinesRepresent now (with_line reading first)
  LinesRepresent-given first is = elim is.ends [ inl ends ↦ LinesRepresent-begins first is ends | inr ends ↦ LinesRepresent-last first is ends ]

  -- the reader represents the history that the result ends
  LinesRepresent-ended : (ending : Result Line LineFault) → IsEnded lines ending now → (Some ending ≡ Some (Ok line.End) → lines_of reading.taken ≡ reading.given) → LinesRepresent now (ended_by reading ending)
  LinesRepresent-ended ending is all = record {
    number = is.number ∙ stands.lines_given;
    taken = stands.counted;
    ended = is.ended;
    going_on = λ e. absurd (cc);
    all_given = all;
  }

  -- what was found is the result for the history
  ReturnsNext-found : (result : Result Line LineFault) → FoundLine bytes lines source_ended result now → ReturnsNext reading source_ended result now
  ReturnsNext-found (Ok line.Text) found = (found.0, IsNext-given found.0 found.1, found.2, found.3, LinesRepresent-given found.0 found.1)
  ReturnsNext-found (Ok line.TooLong) found = (found.0, IsNext-given found.0 found.1, found.2, found.3, LinesRepresent-given found.0 found.1)
  ReturnsNext-found (Ok line.End) found =
      let all : lines_of reading.taken ≡ reading.given = lines_of-taken reading bytes split clean ∙ ap (λ b. reading.given ++ lines_of b) found.0 ∙ append-nil reading.given in
      (all, found.1, omega (arith, found.2, stands.counted), found.3.text, LinesRepresent-ended (Ok line.End) found.3 (λ _. all))
  ReturnsNext-found (Err fault.ReadFault) found =
      let all : whole_lines reading.taken ≡ reading.given = whole_lines-taken reading bytes split clean ∙ ap (λ lines. reading.given ++ lines) (whole_lines-none bytes found.0) ∙ append-nil reading.given in
      (all, omega (arith, found.1, stands.counted), found.2.text, LinesRepresent-ended (Err fault.ReadFault) found.2 (λ e. absurd (cc)))
  ReturnsNext-found (Err fault.TooMuchInput) found =
      let first : List ℕ = found.0 in
      let front : List ℕ = flat_map with_line_end reading.given ++ first in
      let is : reading.taken ≡ front ++ found.1 ∷ [] = split ∙ ap (λ b. flat_map with_line_end reading.given ++ b) found.3 ∙ sym (append_assoc (flat_map with_line_end reading.given) first (found.1 ∷ [])) in
      let count : length reading.taken ≡ MAX_BYTES + 1 = sym stands.counted ∙ found.4 in
      let all : whole_lines (take MAX_BYTES reading.taken) ≡ reading.given =
      ap (λ taken. whole_lines (take MAX_BYTES taken)) is
      ∙ ap whole_lines (take_at front (found.1 ∷ []) MAX_BYTES (omega (arith, count, ap length is, length_push front found.1)))
      ∙ whole_lines-after reading.given first clean
      ∙ ap (λ lines. reading.given ++ lines) (whole_lines-none first found.2)
      ∙ append-nil reading.given in
      (all, count, found.5.text, LinesRepresent-ended (Err fault.TooMuchInput) found.5 (λ e. absurd (cc)))

-- the bytes of a search came in pieces, with a whole line at last or none
ComesInPieces-searched : (old : LinesState) (reading : Reading) (more : List ℕ) → IsGoingOn old reading → LinesRepresent old reading → Pieces old more → ComesInPieces reading more
ComesInPieces-searched old reading more going stands pieces = record {
  front = pieces.front;
  piece = pieces.piece;
  whole = pieces.whole;
  part = next_whole-none (with_bytes reading pieces.front) (old.waiting ++ pieces.front)
      (ap (λ b. b ++ pieces.front) going.bytes ∙ append_assoc (flat_map with_line_end reading.given) old.waiting pieces.front) going.lines
      (omega (arith, pieces.few, stands.taken, length-append reading.taken pieces.front)) pieces.part;
  small = pieces.small;
}

module _ (old now : LinesState) (before after : SourceState) (result : Result Line LineFault) (faults : CountsReadFault result before after) where
  -- what a call found is what it returns for each history
  pub Continues-found : (more : List ℕ) → Took old now before after more → FoundLine (old.waiting ++ more) old.number (IsAtEnd after) result now → old.ended ≡ None → (reading : Reading) → LinesRepresent old reading → TakesAsNeeded reading more → Continues reading reading.ended before after result now
  Continues-found more took found unended reading stands needed =
      let unended_too : reading.ended ≡ None = sym stands.ended ∙ unended in
      let going : IsGoingOn old reading = stands.going_on unended_too in
      let split : reading.taken ++ more ≡ flat_map with_line_end reading.given ++ (old.waiting ++ more) = ap (λ b. b ++ more) going.bytes ∙ append_assoc (flat_map with_line_end reading.given) old.waiting more in
      let known : IsCounted (with_bytes reading more) old.number now = record { lines_given = stands.number; counted = took.count ∙ ap (λ n. n + length more) stands.taken ∙ sym (length-append reading.taken more) } in
      subst (λ ended. Continues reading ended before after result now) (sym unended_too)
      (record {
        more = more;
        takes = took.takes;
        needed = needed;
        faults = faults;
        returns = ReturnsNext-found (with_bytes reading more) (old.waiting ++ more) old.number now split going.lines known (IsAtEnd after) result found;
      })

  -- a call that found no line end in the buffer takes bytes
  pub Continues-searched : old.ended ≡ None → HasNoLineEnd old.waiting → Searched old before after result now → (reading : Reading) → LinesRepresent old reading → Continues reading reading.ended before after result now
  Continues-searched unended clean searched reading stands =
      let going : IsGoingOn old reading = stands.going_on (sym stands.ended ∙ unended) in
      Continues-found searched.0 searched.1 searched.3 unended reading stands (
        λ some. absurd (both_ways (is_some (next_whole reading)) (ap is_some (next_whole-none reading old.waiting going.bytes going.lines (omega (arith, going.few, stands.taken)) clean)) some),
        inr (ComesInPieces-searched old reading searched.0 going stands searched.2),
      )
