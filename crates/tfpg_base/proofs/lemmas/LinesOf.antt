-- Laws of the lines of bytes: what a line at the front changes, and what follows lines with their line ends.
use Rattle.std.proofs.Common.{◌≡◌, ℕ, ◌<◌, Bool, true, false, List, [], ◌∷◌, ◌++◌, length, take, refl, ap, ◌∙◌, sym, subst, arith, append_assoc, append-nil}
use Rattle.std.specs.List.{All, flat_map}
use Rattle.std.proofs.lemmas.Bool.{eqb-true}
use Rattle.std.proofs.lemmas.List.{take_at}
use Rattle.std.proofs.lemmas.List.Splits.{slice_split_none, slice_split_at, length-slice_split}
use Rattle.std.proofs.lemmas.List.Elements.{All-nil, All-cons, All-head, All-tail}
use Rattle.tfpg_base.specs.Lines.{ends_line, parts_of, whole_lines, last_part, line_of_part, lines_of, HasNoLineEnd, with_line_end}
use Rattle.tfpg_base.proofs.lemmas.lists.Cuts.{take_but_last-cons, get_or-last_cons}

-- there is always a part
pub parts_of_some : (bytes : List ℕ) → 0 < length (parts_of bytes)
parts_of_some bytes = omega (arith, length-slice_split ends_line bytes)

-- a line and its line end are cut off
pub parts_of-line : (line rest : List ℕ) → HasNoLineEnd line → parts_of (line ++ 10 ∷ rest) ≡ line ∷ parts_of rest
parts_of-line line rest h = slice_split_at ends_line line 10 rest h refl

-- a line with its line end is the first of the whole lines
pub whole_lines-line : (line rest : List ℕ) → HasNoLineEnd line → whole_lines (line ++ 10 ∷ rest) ≡ line ∷ whole_lines rest
whole_lines-line line rest h = rw (parts_of-line line rest h) (take_but_last-cons line (parts_of rest) (parts_of_some rest))

-- the last part comes after it
last_part-line : (line rest : List ℕ) → HasNoLineEnd line → last_part (line ++ 10 ∷ rest) ≡ last_part rest
last_part-line line rest h = rw (parts_of-line line rest h) (get_or-last_cons line (parts_of rest) [] (parts_of_some rest))

-- a line with its line end is the first of the lines
pub lines_of-line : (line rest : List ℕ) → HasNoLineEnd line → lines_of (line ++ 10 ∷ rest) ≡ line ∷ lines_of rest
lines_of-line line rest h = rw (whole_lines-line line rest h, last_part-line line rest h) refl

-- bytes without a line end have no whole line
pub whole_lines-none : (bytes : List ℕ) → HasNoLineEnd bytes → whole_lines bytes ≡ []
whole_lines-none bytes h = rw (slice_split_none ends_line bytes h) refl

-- bytes without a line end are one line, where there are some
pub lines_of-none : (bytes : List ℕ) → HasNoLineEnd bytes → lines_of bytes ≡ line_of_part bytes
lines_of-none bytes h = rw (slice_split_none ends_line bytes h) refl

-- what follows a line end follows the line with it
regrouped : (line front rest : List ℕ) → with_line_end line ++ front ++ rest ≡ line ++ 10 ∷ (front ++ rest)
regrouped line front rest = append_assoc (line ++ 10 ∷ []) front rest ∙ append_assoc line (10 ∷ []) (front ++ rest)

-- after lines with their line ends come the whole lines of the rest
pub whole_lines-after : (given : List (List ℕ)) (rest : List ℕ) → All HasNoLineEnd given → whole_lines (flat_map with_line_end given ++ rest) ≡ given ++ whole_lines rest
whole_lines-after [] rest h = refl
whole_lines-after (line ∷ given) rest h =
    ap whole_lines (regrouped line (flat_map with_line_end given) rest)
    ∙ whole_lines-line line (flat_map with_line_end given ++ rest) (All-head HasNoLineEnd line given h)
    ∙ ap (λ lines. line ∷ lines) (whole_lines-after given rest (All-tail HasNoLineEnd line given h))

-- after lines with their line ends comes the last part of the rest
pub last_part-after : (given : List (List ℕ)) (rest : List ℕ) → All HasNoLineEnd given → last_part (flat_map with_line_end given ++ rest) ≡ last_part rest
last_part-after [] rest h = refl
last_part-after (line ∷ given) rest h =
    ap last_part (regrouped line (flat_map with_line_end given) rest)
    ∙ last_part-line line (flat_map with_line_end given ++ rest) (All-head HasNoLineEnd line given h)
    ∙ last_part-after given rest (All-tail HasNoLineEnd line given h)

-- after lines with their line ends come the lines of the rest
pub lines_of-after : (given : List (List ℕ)) (rest : List ℕ) → All HasNoLineEnd given → lines_of (flat_map with_line_end given ++ rest) ≡ given ++ lines_of rest
lines_of-after given rest h = rw (whole_lines-after given rest h, last_part-after given rest h) (append_assoc given (whole_lines rest) (line_of_part (last_part rest)))

-- lines with their line ends are these lines
pub lines_again : (lines : List (List ℕ)) → All HasNoLineEnd lines → lines_of (flat_map with_line_end lines) ≡ lines
lines_again lines clean_lines =
    ap lines_of (sym (append-nil (flat_map with_line_end lines))) ∙ lines_of-after lines [] clean_lines ∙ append-nil lines

-- bytes without a line end are the last part
pub last_part-none : (bytes : List ℕ) → HasNoLineEnd bytes → last_part bytes ≡ bytes
last_part-none bytes h = rw (slice_split_none ends_line bytes h) refl

-- Bytes are lines with their line ends, and a rest without one.
record IsCutIntoLines (bytes : List ℕ) : Type 0 where
  lines : List (List ℕ)
  rest : List ℕ
  whole : bytes ≡ flat_map with_line_end lines ++ rest
  clean : All HasNoLineEnd lines
  part : HasNoLineEnd rest

-- a byte that ends no line belongs to the first line, or to the rest where there is no line
IsCutIntoLines-cons : (byte : ℕ) (bytes : List ℕ) (lines : List (List ℕ)) (rest : List ℕ) → ends_line byte ≡ false → bytes ≡ flat_map with_line_end lines ++ rest → All HasNoLineEnd lines → HasNoLineEnd rest → IsCutIntoLines (byte ∷ bytes)
IsCutIntoLines-cons byte bytes [] rest e whole clean part = record {
  lines = [];
  rest = byte ∷ rest;
  whole = ap (λ b. byte ∷ b) whole;
  clean = clean;
  part = All-cons (λ b. ends_line b ≡ false) byte rest e part;
}
IsCutIntoLines-cons byte bytes (line ∷ lines) rest e whole clean part = record {
  lines = (byte ∷ line) ∷ lines;
  rest = rest;
  whole = ap (λ b. byte ∷ b) whole;
  clean = All-cons HasNoLineEnd (byte ∷ line) lines (All-cons (λ b. ends_line b ≡ false) byte line e (All-head HasNoLineEnd line lines clean)) (All-tail HasNoLineEnd line lines clean);
  part = part;
}

-- all bytes are so
cut : (bytes : List ℕ) → IsCutIntoLines bytes
cut [] = record { lines = []; rest = []; whole = refl; clean = All-nil HasNoLineEnd; part = All-nil (λ b. ends_line b ≡ false) }
cut (byte ∷ bytes) = go (ends_line byte) refl (cut bytes) where
  go : (ends : Bool) → ends_line byte ≡ ends → IsCutIntoLines bytes → IsCutIntoLines (byte ∷ bytes)
  go true e is = record {
    lines = [] ∷ is.lines;
    rest = is.rest;
    whole = ap (λ b. b ∷ bytes) (eqb-true byte 10 e) ∙ ap (λ b. 10 ∷ b) is.whole;
    clean = All-cons HasNoLineEnd [] is.lines (All-nil (λ b. ends_line b ≡ false)) is.clean;
    part = is.part;
  }
  go false e is = IsCutIntoLines-cons byte bytes is.lines is.rest e is.whole is.clean is.part

module _ (bytes : List ℕ) where
  whole_lines-cut : (is : IsCutIntoLines bytes) → whole_lines bytes ≡ is.lines
  whole_lines-cut is =
      ap whole_lines is.whole
      ∙ whole_lines-after is.lines is.rest is.clean
      ∙ ap (λ lines. is.lines ++ lines) (whole_lines-none is.rest is.part)
      ∙ append-nil is.lines

  last_part-cut : (is : IsCutIntoLines bytes) → last_part bytes ≡ is.rest
  last_part-cut is = ap last_part is.whole ∙ last_part-after is.lines is.rest is.clean ∙ last_part-none is.rest is.part

  -- no whole line has a line end in it
  pub whole_lines-clean : All HasNoLineEnd (whole_lines bytes)
  whole_lines-clean = subst (All HasNoLineEnd) (sym (whole_lines-cut (cut bytes))) (cut bytes).clean

  -- the whole lines with their line ends and the last part are all bytes
  pub whole_lines_and_last_part : bytes ≡ flat_map with_line_end (whole_lines bytes) ++ last_part bytes
  whole_lines_and_last_part =
      (cut bytes).whole
      ∙ ap (λ lines. flat_map with_line_end lines ++ (cut bytes).rest) (sym (whole_lines-cut (cut bytes)))
      ∙ ap (λ rest. flat_map with_line_end (whole_lines bytes) ++ rest) (sym (last_part-cut (cut bytes)))

  -- more bytes go on with the last part
  pub lines_of-append : (more : List ℕ) → lines_of (bytes ++ more) ≡ whole_lines bytes ++ lines_of (last_part bytes ++ more)
  lines_of-append more =
      ap (λ b. lines_of (b ++ more)) whole_lines_and_last_part
      ∙ ap lines_of (append_assoc (flat_map with_line_end (whole_lines bytes)) (last_part bytes) more)
      ∙ lines_of-after (whole_lines bytes) (last_part bytes ++ more) whole_lines-clean

  -- whole lines stay the first ones, whatever follows
  pub take-lines_of : (more : List ℕ) → take (length (whole_lines bytes)) (lines_of (bytes ++ more)) ≡ whole_lines bytes
  take-lines_of more =
      ap (take (length (whole_lines bytes))) (lines_of-append more)
      ∙ take_at (whole_lines bytes) (lines_of (last_part bytes ++ more)) (length (whole_lines bytes)) refl
