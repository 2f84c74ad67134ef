-- How the turns of a search for a line's end add up to what a call finds.
use Rattle.std.proofs.Common.{◌≡◌, inl, inr, ℕ, ◌+◌, ◌-◌, ◌<◌, ◌≤◌, Bool, true, false, cond, leb, List, [], ◌∷◌, ◌++◌, length, take, drop, Some, None, Result, Ok, Err, refl, ap, ◌∙◌, sym, subst, arith, append_assoc, append-nil, length-append}
use Rattle.std.proofs.lemmas.Bool.{leb-true, leb-false, lt-leb, le-leb}
use Rattle.std.proofs.lemmas.List.Elements.{All-append}
use Rattle.std.proofs.lemmas.List.{nil_from_length, drop_at, take_all}
use Rattle.std.proofs.Math.Seq.{take-append-add, drop-append-add}
use Rattle.tfpg_base.specs.declared.line.Line.{Line}
use Rattle.tfpg_base.specs.declared.line.Line.TheVariants as line
use Rattle.tfpg_base.specs.declared.line.LineFault.{LineFault}
use Rattle.tfpg_base.specs.declared.line.LineFault.TheVariants as fault
use Rattle.tfpg_base.specs.Outside.{SourceState, Takes, IsAtEnd}
use Rattle.tfpg_base.specs.Lines.{LinesState, Reading, LinesRepresent, Continues, HasNoLineEnd, ends_line}
use Rattle.tfpg_base.specs.declared.limits.TheConstants.{LONGEST_LINE, MAX_BYTES, BUFFER_SIZE}
use Rattle.tfpg_base.specs.inside.LineSearch.{IsAtLineEnd, returned_line, lent_of, IsGiven, IsEnded, GivesLast, FoundLine, Took, Pieces, Refilled, IsRefilled, Searched}
use Rattle.tfpg_base.proofs.lemmas.Taking.{Takes-nothing, Takes-append}
use Rattle.tfpg_base.proofs.lemmas.Histories.{Continues-found}

-- Bytes that were taken so far, none of which ends a line, nor does one that waited before.
pub record SoFar (old : LinesState) (before mid : SourceState) (taken : ℕ) : Type 0 where
  pub more : List ℕ
  pub takes : Takes before mid more
  pub faults : mid.faults ≡ before.faults
  pub count : taken ≡ old.taken + length more
  pub few : taken ≤ MAX_BYTES
  pub part : HasNoLineEnd (old.waiting ++ more)

-- A reader whose line is still in the buffer, whole as far as it was taken.
pub record IsReading (old now : LinesState) (before mid : SourceState) : Type 0 where
  pub so_far : SoFar old before mid now.taken
  pub waiting : now.waiting ≡ old.waiting ++ so_far.more
  pub number : now.number ≡ old.number
  pub ended : now.ended ≡ None

-- of a line that was found the kind is returned
FoundLine-line : (bytes first : List ℕ) (lines : ℕ) (source_ended : Type 0) (now : LinesState) → IsGiven bytes first lines source_ended now → now.text ≡ lent_of first → FoundLine bytes lines source_ended (Ok (returned_line first)) now
FoundLine-line bytes first lines source_ended now is text = go (leb (length first) LONGEST_LINE) refl text where
  go : (short : Bool) → leb (length first) LONGEST_LINE ≡ short → now.text ≡ cond short first [] → FoundLine bytes lines source_ended (Ok (cond short line.Text line.TooLong)) now
  go true e lent = (first, is, leb-true (length first) LONGEST_LINE e, lent)
  go false e lent = (first, is, leb-false (length first) LONGEST_LINE e, lent)

-- what is said of a line that is not too long
returned_line-short : (bytes : List ℕ) → length bytes ≤ LONGEST_LINE → returned_line bytes ≡ line.Text
returned_line-short bytes short = ap (λ is. cond is line.Text line.TooLong) (le-leb (length bytes) LONGEST_LINE short)

-- it is lent
lent_of-short : (bytes : List ℕ) → length bytes ≤ LONGEST_LINE → lent_of bytes ≡ bytes
lent_of-short bytes short = ap (λ is. cond is bytes []) (le-leb (length bytes) LONGEST_LINE short)

-- what is said of a line that is too long
returned_line-long : (bytes : List ℕ) → LONGEST_LINE < length bytes → returned_line bytes ≡ line.TooLong
returned_line-long bytes long = ap (λ short. cond short line.Text line.TooLong) (lt-leb (length bytes) LONGEST_LINE long)

-- nothing of it is lent
lent_of-long : (bytes : List ℕ) → LONGEST_LINE < length bytes → lent_of bytes ≡ []
lent_of-long bytes long = ap (λ short. cond short bytes []) (lt-leb (length bytes) LONGEST_LINE long)

module _ (old : LinesState) (before mid : SourceState) (taken : ℕ) where
  -- nothing is taken at first
  pub SoFar-start : HasNoLineEnd old.waiting → old.taken ≤ MAX_BYTES → SoFar old before before old.taken
  SoFar-start part few = record { more = []; takes = Takes-nothing before; faults = refl; count = omega arith; few = few; part = subst HasNoLineEnd (sym (append-nil old.waiting)) part }

  module _ (so_far : SoFar old before mid taken) (after : SourceState) (more : List ℕ) (takes : Takes mid after more) where
    -- bytes of which none ends a line are added
    pub SoFar-more : after.faults ≡ mid.faults → (now : ℕ) → now ≡ taken + length more → now ≤ MAX_BYTES → HasNoLineEnd more → SoFar old before after now
    SoFar-more same now count few part = record {
      more = so_far.more ++ more;
      takes = Takes-append before mid after so_far.more more so_far.takes takes;
      faults = same ∙ so_far.faults;
      count = omega (arith, so_far.count, count, length-append so_far.more more);
      few = few;
      part = subst HasNoLineEnd (append_assoc old.waiting so_far.more more) (All-append (λ byte. ends_line byte ≡ false) (old.waiting ++ so_far.more) more so_far.part part);
    }

    -- they are the last piece
    Pieces-more : length more ≤ BUFFER_SIZE → Pieces old (so_far.more ++ more)
    Pieces-more small = record {
      front = so_far.more;
      piece = more;
      whole = refl;
      part = so_far.part;
      few = omega (arith, so_far.count, so_far.few);
      small = small;
    }

    -- the bytes of all turns
    bytes-more : (front : List ℕ) → more ≡ front → old.waiting ++ (so_far.more ++ more) ≡ old.waiting ++ so_far.more ++ front
    bytes-more front is = ap (λ b. old.waiting ++ (so_far.more ++ b)) is ∙ sym (append_assoc old.waiting so_far.more front)

    module _ (small : length more ≤ BUFFER_SIZE) (now : LinesState) (counted : now.taken ≡ taken + length more) where
      -- all bytes of the call
      Took-more : Took old now before after (so_far.more ++ more)
      Took-more = record {
        takes = Takes-append before mid after so_far.more more so_far.takes takes;
        count = omega (arith, so_far.count, counted, length-append so_far.more more);
      }

      -- a line ended among the bytes of the last turn
      pub Searched-whole : (front : List ℕ) → more ≡ front ++ 10 ∷ now.waiting → HasNoLineEnd front → now.taken ≤ MAX_BYTES → now.ended ≡ None → now.number ≡ old.number + 1 → now.text ≡ lent_of (old.waiting ++ so_far.more ++ front) → Searched old before after (Ok (returned_line (old.waiting ++ so_far.more ++ front))) now
      Searched-whole front is clean few going number text =
          let first : List ℕ = old.waiting ++ so_far.more ++ front in (
            so_far.more ++ more,
            Took-more,
            Pieces-more small,
            FoundLine-line (old.waiting ++ (so_far.more ++ more)) first old.number (IsAtEnd after) now
                record {
                  line = All-append (λ byte. ends_line byte ≡ false) (old.waiting ++ so_far.more) front so_far.part clean;
                  ends = inl (record {
                    whole = bytes-more (front ++ 10 ∷ now.waiting) is ∙ sym (append_assoc (old.waiting ++ so_far.more) front (10 ∷ now.waiting));
                    ended = going;
                  });
                  number = number;
                  few = few;
                }
                text,
          )

      -- the source ended after a line without a line end
      pub Searched-last : length more ≡ 0 → 0 < length (old.waiting ++ so_far.more) → IsAtEnd after → now.taken ≤ MAX_BYTES → now.ended ≡ Some (Ok line.End) → now.number ≡ old.number + 1 → now.text ≡ lent_of (old.waiting ++ so_far.more) → Searched old before after (Ok (returned_line (old.waiting ++ so_far.more))) now
      Searched-last none some source_ended few ended number text =
          let first : List ℕ = old.waiting ++ so_far.more in (
            so_far.more ++ more,
            Took-more,
            Pieces-more small,
            FoundLine-line (old.waiting ++ (so_far.more ++ more)) first old.number (IsAtEnd after) now
                record {
                  line = so_far.part;
                  ends = inr (record {
                    whole = bytes-more [] (nil_from_length more none) ∙ append-nil first;
                    some = some;
                    source = source_ended;
                    ended = ended;
                  });
                  number = number;
                  few = few;
                }
                text,
          )

      -- the source ended, and no byte waits
      pub Searched-end : length more ≡ 0 → old.waiting ++ so_far.more ≡ [] → IsAtEnd after → now.taken ≤ MAX_BYTES → IsEnded old.number (Ok line.End) now → Searched old before after (Ok line.End) now
      Searched-end none empty source_ended few is =
          (so_far.more ++ more, Took-more, Pieces-more small, (bytes-more [] (nil_from_length more none) ∙ append-nil (old.waiting ++ so_far.more) ∙ empty, source_ended, few, is))

      -- a line that is too long ended among the bytes of the last turn
      pub Searched-long : LONGEST_LINE < length old.waiting → (front : List ℕ) → more ≡ front ++ 10 ∷ now.waiting → HasNoLineEnd front → now.taken ≤ MAX_BYTES → now.ended ≡ None → now.number ≡ old.number + 1 → now.text ≡ [] → Searched old before after (Ok line.TooLong) now
      Searched-long long front is clean few going number text =
          let first : List ℕ = old.waiting ++ so_far.more ++ front in
          let longer : LONGEST_LINE < length first = omega (arith, length-append (old.waiting ++ so_far.more) front, length-append old.waiting so_far.more) in
          subst (λ kind. Searched old before after (Ok kind) now) (returned_line-long first longer)
          (Searched-whole front is clean few going number (text ∙ sym (lent_of-long first longer)))

      -- the source ended after a line that is too long
      pub Searched-long_last : LONGEST_LINE < length old.waiting → length more ≡ 0 → IsAtEnd after → now.taken ≤ MAX_BYTES → now.ended ≡ Some (Ok line.End) → now.number ≡ old.number + 1 → now.text ≡ [] → Searched old before after (Ok line.TooLong) now
      Searched-long_last long none source_ended few ended number text =
          let first : List ℕ = old.waiting ++ so_far.more in
          let longer : LONGEST_LINE < length first = omega (arith, length-append old.waiting so_far.more) in
          subst (λ kind. Searched old before after (Ok kind) now) (returned_line-long first longer)
          (Searched-last none (omega (arith, longer)) source_ended few ended number (text ∙ sym (lent_of-long first longer)))

-- what ended the reader after so many lines ended it after as many
IsEnded-same : (lines number : ℕ) (ending : Result Line LineFault) (now : LinesState) → lines ≡ number → IsEnded lines ending now → IsEnded number ending now
IsEnded-same lines number ending now same is = record { number = is.number ∙ same; text = is.text; ended = is.ended }

-- a fault in a turn is the fault of the call
pub Searched-fault : (old now end : LinesState) (before mid after : SourceState) (taken : ℕ) (so_far : SoFar old before mid taken) → now.taken ≡ taken → now.number ≡ old.number → (why : LineFault) → Refilled now mid after (Err why) end → Searched old before after (Err why) end
Searched-fault old now end before mid after taken so_far count same fault.ReadFault refilled =
    let took : Took now end mid after [] = refilled.0 in (
      so_far.more ++ [],
      Took-more old before mid taken so_far after [] took.takes (omega arith) end (omega (arith, took.count, count)),
      Pieces-more old before mid taken so_far after [] took.takes (omega arith),
      (
        subst HasNoLineEnd (append_assoc old.waiting so_far.more []) (subst HasNoLineEnd (sym (append-nil (old.waiting ++ so_far.more))) so_far.part),
        refilled.1,
        IsEnded-same now.number old.number (Err fault.ReadFault) end same refilled.2,
      ),
    )
Searched-fault old now end before mid after taken so_far count same fault.TooMuchInput refilled =
    let last : ℕ = refilled.0 in
    let took : Took now end mid after (last ∷ []) = refilled.1 in (
      so_far.more ++ last ∷ [],
      Took-more old before mid taken so_far after (last ∷ []) took.takes (omega arith) end (took.count ∙ ap (λ n. n + 1) count),
      Pieces-more old before mid taken so_far after (last ∷ []) took.takes (omega arith),
      (old.waiting ++ so_far.more, last, so_far.part, sym (append_assoc old.waiting so_far.more (last ∷ [])), refilled.2, IsEnded-same now.number old.number (Err fault.TooMuchInput) end same refilled.3),
    )

-- what was found by a later part of the call
FoundLine-same : (bytes all : List ℕ) (lines number : ℕ) (source_ended : Type 0) (now : LinesState) → bytes ≡ all → lines ≡ number → (result : Result Line LineFault) → FoundLine bytes lines source_ended result now → FoundLine all number source_ended result now
FoundLine-same bytes all lines number source_ended now same count result found = subst (λ n. FoundLine all n source_ended result now) count (subst (λ b. FoundLine b lines source_ended result now) same found)

-- what a later part of the call found is what the call found
pub Searched-further : (old now end : LinesState) (before mid after : SourceState) (so_far : SoFar old before mid now.taken) → now.waiting ≡ old.waiting ++ so_far.more → now.number ≡ old.number → (result : Result Line LineFault) → Searched now mid after result end → Searched old before after result end
Searched-further old now end before mid after so_far waits same result searched =
    let more : List ℕ = searched.0 in
    let took : Took now end mid after more = searched.1 in
    let pieces : Pieces now more = searched.2 in (
      so_far.more ++ more,
      record {
        takes = Takes-append before mid after so_far.more more so_far.takes took.takes;
        count = omega (arith, so_far.count, took.count, length-append so_far.more more);
      },
      record {
        front = so_far.more ++ pieces.front;
        piece = pieces.piece;
        whole = ap (λ b. so_far.more ++ b) pieces.whole ∙ sym (append_assoc so_far.more pieces.front pieces.piece);
        part = subst HasNoLineEnd (ap (λ b. b ++ pieces.front) waits ∙ append_assoc old.waiting so_far.more pieces.front) pieces.part;
        few = omega (arith, so_far.count, pieces.few, length-append so_far.more pieces.front);
        small = pieces.small;
      },
      FoundLine-same (now.waiting ++ more) (old.waiting ++ (so_far.more ++ more)) now.number old.number (IsAtEnd after) end
          (ap (λ b. b ++ more) waits ∙ append_assoc old.waiting so_far.more more) same result searched.3,
    )

-- a reader reads on from where it is
pub IsReading-start : (old : LinesState) (before : SourceState) → HasNoLineEnd old.waiting → old.taken ≤ MAX_BYTES → old.ended ≡ None → IsReading old old before before
unfolding SoFar-start
IsReading-start old before part few going = record {
  so_far = SoFar-start old before before old.taken part few;
  waiting = sym (append-nil old.waiting);
  number = refl;
  ended = going;
}

module _ (old now : LinesState) (before mid : SourceState) (reading : IsReading old now before mid) (end : LinesState) (after : SourceState) (count : ℕ) (filled : IsRefilled now end mid after count) (same : after.faults ≡ mid.faults) where
  -- the bytes of the turn come after those that were seen
  pub after_seen : (waiting seen : List ℕ) → waiting ≡ end.waiting → seen ≡ now.waiting → take (length waiting - length seen) (drop (length seen) waiting) ≡ filled.more
  after_seen waiting seen is was =
      let whole : waiting ≡ seen ++ filled.more = is ∙ filled.waiting ∙ ap (λ b. b ++ filled.more) (sym was) in
      ap (λ b. take (length b - length seen) (drop (length seen) b)) whole
      ∙ ap (take (length (seen ++ filled.more) - length seen)) (drop_at seen filled.more (length seen) refl)
      ∙ take_all (length (seen ++ filled.more) - length seen) filled.more (omega (arith, length-append seen filled.more))

  -- none of them ends a line
  pub IsReading-more : HasNoLineEnd filled.more → IsReading old end before after
  unfolding SoFar-more
  IsReading-more part = record {
    so_far = SoFar-more old before mid now.taken reading.so_far after filled.more filled.took.takes same end.taken filled.took.count filled.few part;
    waiting = filled.waiting ∙ ap (λ b. b ++ filled.more) reading.waiting ∙ append_assoc old.waiting reading.so_far.more filled.more;
    number = filled.number ∙ reading.number;
    ended = filled.ended ∙ reading.ended;
  }

  module _ (done : LinesState) where
    -- one of them ends the line
    pub Searched-read : (kind : Line) (seen index : ℕ) → seen ≡ length now.waiting → IsAtLineEnd filled.more index → kind ≡ returned_line (take (seen + index) end.waiting) → done.waiting ≡ drop (seen + index + 1) end.waiting → done.text ≡ lent_of (take (seen + index) end.waiting) → done.number ≡ end.number + 1 → done.taken ≡ end.taken → done.ended ≡ end.ended → Searched old before after (Ok kind) done
    Searched-read kind seen index at is kinds waits lends number taken ended =
        let front : List ℕ = take index filled.more in
        let first : List ℕ = old.waiting ++ reading.so_far.more ++ front in
        let first_is : take (seen + index) end.waiting ≡ first =
        ap (λ n. take (n + index) end.waiting) at
        ∙ ap (take (length now.waiting + index)) filled.waiting
        ∙ take-append-add now.waiting filled.more index
        ∙ ap (λ b. b ++ front) reading.waiting in
        let beyond : seen + index + 1 ≡ length now.waiting + (index + 1) = omega arith in
        let rest_is : drop (seen + index + 1) end.waiting ≡ drop (index + 1) filled.more =
        ap (λ n. drop n end.waiting) beyond
        ∙ ap (drop (length now.waiting + (index + 1))) filled.waiting
        ∙ drop-append-add now.waiting filled.more (index + 1) in
        subst (λ ending. Searched old before after (Ok ending) done) (sym (kinds ∙ ap returned_line first_is))
        (Searched-whole old before mid now.taken reading.so_far after filled.more filled.took.takes (omega (arith, filled.length, filled.small)) done (taken ∙ filled.took.count) front
        (is.whole ∙ ap (λ b. front ++ 10 ∷ b) (sym rest_is ∙ sym waits)) is.line (omega (arith, taken, filled.few))
        (ended ∙ filled.ended ∙ reading.ended) (omega (arith, number, filled.number, reading.number)) (lends ∙ ap lent_of first_is))

    -- the source has ended
    pub Searched-given_last : (some : Bool) → count ≡ 0 → length now.waiting ≤ LONGEST_LINE → GivesLast end some done → done.taken ≡ end.taken → done.ended ≡ Some (Ok line.End) → Searched old before after (Ok (cond some line.Text line.End)) done
    Searched-given_last true none short gives taken ended =
        let more_none : length filled.more ≡ 0 = filled.length ∙ none in
        let first : List ℕ = old.waiting ++ reading.so_far.more in
        let waits : end.waiting ≡ first = filled.waiting ∙ ap (λ b. now.waiting ++ b) (nil_from_length filled.more more_none) ∙ append-nil now.waiting ∙ reading.waiting in
        let fits : length first ≤ LONGEST_LINE = omega (arith, short, ap length reading.waiting) in
        subst (λ ending. Searched old before after (Ok ending) done) (returned_line-short first fits)
        (Searched-last old before mid now.taken reading.so_far after filled.more filled.took.takes (omega (arith, filled.length, filled.small)) done (taken ∙ filled.took.count)
        more_none (omega (arith, gives.0, ap length waits)) (filled.end none) (omega (arith, taken, filled.few)) ended
        (omega (arith, gives.2, filled.number, reading.number)) (gives.1 ∙ waits ∙ sym (lent_of-short first fits)))
    Searched-given_last false none short gives taken ended =
        let more_none : length filled.more ≡ 0 = filled.length ∙ none in
        let waits : end.waiting ≡ old.waiting ++ reading.so_far.more = filled.waiting ∙ ap (λ b. now.waiting ++ b) (nil_from_length filled.more more_none) ∙ append-nil now.waiting ∙ reading.waiting in
        Searched-end old before mid now.taken reading.so_far after filled.more filled.took.takes (omega (arith, filled.length, filled.small)) done (taken ∙ filled.took.count)
        more_none (sym waits ∙ gives.0) (filled.end none) (omega (arith, taken, filled.few))
        (record { number = gives.2 ∙ filled.number ∙ reading.number; text = gives.1; ended = ended })

-- a line that waits whole is given at once, and nothing is taken
pub Continues-at_once : (old now : LinesState) (source : SourceState) (kind : Line) (bytes : List ℕ) (index : ℕ) → bytes ≡ old.waiting → IsAtLineEnd bytes index → old.ended ≡ None → old.taken ≤ MAX_BYTES → kind ≡ returned_line (take index old.waiting) → now.waiting ≡ drop (index + 1) old.waiting → now.text ≡ lent_of (take index old.waiting) → now.number ≡ old.number + 1 → now.taken ≡ old.taken → now.ended ≡ old.ended → (reading : Reading) → LinesRepresent old reading → Continues reading reading.ended source source (Ok kind) now
Continues-at_once old now source kind bytes index is_waiting is unended few kinds waits lends number taken ended reading stands =
    let first : List ℕ = take index old.waiting in
    let whole : old.waiting ++ [] ≡ first ++ 10 ∷ now.waiting =
    append-nil old.waiting ∙ subst (λ b. b ≡ take index b ++ 10 ∷ drop (index + 1) b) is_waiting is.whole ∙ ap (λ rest. first ++ 10 ∷ rest) (sym waits) in
    let found : FoundLine (old.waiting ++ []) old.number (IsAtEnd source) (Ok (returned_line first)) now = FoundLine-line (old.waiting ++ []) first old.number (IsAtEnd source) now
    record {
      line = subst (λ b. HasNoLineEnd (take index b)) is_waiting is.line;
      ends = inl (record { whole = whole; ended = ended ∙ unended });
      number = number;
      few = omega (arith, taken, few);
    }
    lends in
    Continues-found old now source source (Ok kind) refl [] (record { takes = Takes-nothing source; count = omega (arith, taken) })
    (subst (λ ending. FoundLine (old.waiting ++ []) old.number (IsAtEnd source) (Ok ending) now) (sym kinds) found) unended reading stands (λ _. refl, inl refl)
