-- The lines of a text are the parts round its line ends, but for a last part with no byte.
use Rattle.std.proofs.Common.{◌≡◌, ◌≢◌, ℕ, ◌-◌, ◌==◌, Bool, true, false, cond, ⊎_elim, List, [], ◌∷◌, ◌++◌, length, take, get_or, refl, ap, sym, ◌∙◌, arith}
use Rattle.std.specs.List.{onto_first, join_with_byte}
use Rattle.std.proofs.lemmas.List.{take_more, take_all, take_at, get_or_at, length_push, append-nil}
use Rattle.std.proofs.lemmas.List.Splits.{join_with_byte-slice_split}
use Rattle.tfpg_base.specs.Lines.{parts_of, whole_lines, last_part, line_of_part, lines_of}
use Rattle.tfpg_base.proofs.lemmas.LinesOf.{parts_of_some}
use Rattle.tfpg_base.proofs.lemmas.lists.Joined.{onto_first-push, join-last_empty}

-- a line end more makes an empty part more
parts_of-push : (bytes : List ℕ) → parts_of (bytes ++ 10 ∷ []) ≡ parts_of bytes ++ [] ∷ []
parts_of-push [] = refl
parts_of-push (byte ∷ bytes) = by (byte == 10) (parts_of-push bytes)
  where
    by : (is_end : Bool) → parts_of (bytes ++ 10 ∷ []) ≡ parts_of bytes ++ [] ∷ []
        → cond is_end ([] ∷ parts_of (bytes ++ 10 ∷ [])) (onto_first byte (parts_of (bytes ++ 10 ∷ []))) ≡ cond is_end ([] ∷ parts_of bytes) (onto_first byte (parts_of bytes)) ++ [] ∷ []
    by true rest = ap (λ parts. [] ∷ parts) rest
    by false rest = ap (onto_first byte) rest ∙ onto_first-push byte (parts_of bytes) [] (parts_of_some bytes)

-- all parts, the last one written apart
pub parts_of-last : (bytes : List ℕ) → whole_lines bytes ++ last_part bytes ∷ [] ≡ parts_of bytes
parts_of-last bytes =
    let parts = parts_of bytes in
    sym (take_more parts (length parts - 1) [] (omega (arith, parts_of_some bytes)))
    ∙ ap (λ n. take n parts) (omega (arith, parts_of_some bytes)) ∙ take_all (length parts) parts (omega arith)

-- the lines, of the parts
abbrev lines_of_parts : List (List ℕ) → List (List ℕ)
lines_of_parts parts = take (length parts - 1) parts ++ line_of_part (get_or parts (length parts - 1) [])

-- the lines of a text that ends with a line end
pub lines_of-ended : (bytes : List ℕ) → lines_of (bytes ++ 10 ∷ []) ≡ parts_of bytes
lines_of-ended bytes =
    ap lines_of_parts (parts_of-push bytes)
    ∙ (λ i. take (before i) (parts_of bytes ++ [] ∷ []) ++ line_of_part (get_or (parts_of bytes ++ [] ∷ []) (before i) []))
    ∙ (λ i. take_at (parts_of bytes) ([] ∷ []) (length (parts_of bytes)) refl i ++ line_of_part (get_or_at (parts_of bytes) [] [] [] (length (parts_of bytes)) refl i))
    ∙ append-nil (parts_of bytes)
  where
    before : length (parts_of bytes ++ [] ∷ []) - 1 ≡ length (parts_of bytes)
    before = omega (arith, length_push (parts_of bytes) [])

-- a part that has a byte is a line
line_of_part-some : (part : List ℕ) → part ≢ [] → line_of_part part ≡ part ∷ []
line_of_part-some [] some = absurd (some refl)
line_of_part-some (byte ∷ bytes) some = refl

-- the lines of a text that has a byte and ends with no line end
pub lines_of-unended : (bytes : List ℕ) → bytes ≢ [] → ((front : List ℕ) → bytes ≢ front ++ 10 ∷ []) → lines_of bytes ≡ parts_of bytes
lines_of-unended bytes some unended =
    ap (λ last. whole_lines bytes ++ last) (line_of_part-some (last_part bytes) last_some) ∙ parts_of-last bytes
  where
    joined : join_with_byte 10 (whole_lines bytes ++ last_part bytes ∷ []) ≡ bytes
    joined = ap (join_with_byte 10) (parts_of-last bytes) ∙ join_with_byte-slice_split 10 bytes

    last_some : last_part bytes ≢ []
    last_some empty =
        let seen = ap (λ last. join_with_byte 10 (whole_lines bytes ++ last ∷ [])) (sym empty) ∙ joined in
        ⊎_elim (λ none. some (sym seen ∙ none)) (λ front. unended front.0 (sym seen ∙ front.1)) (join-last_empty 10 (whole_lines bytes))
