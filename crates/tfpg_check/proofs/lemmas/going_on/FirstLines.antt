-- The first line of some bytes, and what comes after it.
use Rattle.std.proofs.Common.{◌≡◌, ◌≢◌, ◌⊎◌, false, eqb, ℕ, ◌+◌, ◌<◌, ◌≤◌, List, [], ◌∷◌, ◌++◌, length, take, drop, inl, inr, refl, sym, ap, subst, ◌∙◌, arith, add-one, drop-cons}
use Rattle.std.proofs.Math.Seq.{drop-length}
use Rattle.std.proofs.lemmas.List.{take-append-drop, take_all}
use Rattle.std.proofs.lemmas.List.Elements.{All-nil}
use Rattle.tfpg_base.specs.Lines.{HasNoLineEnd, ends_line, line_of_part, lines_of}
use Rattle.tfpg_base.proofs.lemmas.LinesOf.{lines_of-line, lines_of-none}
use Rattle.tfpg_check.specs.inside.LogLines.{IsLineEnd}

-- no bytes are no lines
pub no_lines : lines_of [] ≡ []
no_lines = lines_of-none [] (All-nil (λ byte. ends_line byte ≡ false))

-- bytes that are one line are none or one
one_or_none : (bytes : List ℕ) → bytes ≢ [] → line_of_part bytes ≡ bytes ∷ []
one_or_none [] some = absurd (some refl)
one_or_none (byte ∷ bytes) some = refl

no_others : (bytes : List ℕ) → drop 1 (line_of_part bytes) ≡ []
no_others [] = refl
no_others (byte ∷ bytes) = refl

some_bytes : (bytes : List ℕ) → lines_of bytes ≢ [] → 1 ≤ length bytes
some_bytes [] some = absurd (some no_lines)
some_bytes (byte ∷ bytes) some = omega arith

module _ (bytes : List ℕ) (end : ℕ) (is : IsLineEnd bytes end) where
  -- the bytes end with their first line
  one_line : end ≡ length bytes → lines_of bytes ≡ line_of_part bytes
  one_line last = lines_of-none bytes (subst HasNoLineEnd (take_all end bytes (omega (arith, last))) is.clean)

  -- after a first line that has a line end comes the rest
  cut : end < length bytes → lines_of bytes ≡ take end bytes ∷ lines_of (drop (end + 1) bytes)
  cut within =
      let rest : drop end bytes ≡ 10 ∷ drop (end + 1) bytes =
      drop-cons bytes end 0 within ∙ (λ i. is.ends within i ∷ drop (sym (add-one end) i) bytes) in
      ap lines_of (sym (take-append-drop end bytes) ∙ ap (λ (back : List ℕ). take end bytes ++ back) rest)
      ∙ lines_of-line (take end bytes) (drop (end + 1) bytes) is.clean

  last_or_not : (end ≡ length bytes) ⊎ (end < length bytes)
  last_or_not = let within = is.within in grind arith

  -- The first line stands before the others.
  pub first_line_is : bytes ≢ [] → lines_of bytes ≡ take end bytes ∷ drop 1 (lines_of bytes)
  first_line_is some = elim last_or_not [
    | inl last ↦ (
        let all : lines_of bytes ≡ bytes ∷ [] = one_line last ∙ one_or_none bytes some in
        all ∙ (λ i. sym (take_all end bytes (omega (arith, last))) i ∷ drop 1 (sym all i))
        )
    | inr within ↦ cut within ∙ ap (λ (lines : List (List ℕ)). take end bytes ∷ drop 1 lines) (sym (cut within))
  ]

  -- The others begin after its line end,
  pub others_after_end : end < length bytes → lines_of (drop (end + 1) bytes) ≡ drop 1 (lines_of bytes)
  others_after_end within = ap (drop 1) (sym (cut within))

  -- and there are none if it has no line end.
  pub others_at_end : end ≡ length bytes → lines_of (drop end bytes) ≡ drop 1 (lines_of bytes)
  others_at_end last =
      ap lines_of (ap (λ (n : ℕ). drop n bytes) last ∙ drop-length bytes) ∙ no_lines ∙ sym (no_others bytes) ∙ ap (drop 1) (sym (one_line last))

  -- It has a byte then.
  pub some_at_end : end ≡ length bytes → lines_of bytes ≢ [] → 1 ≤ end
  some_at_end last some = let long = some_bytes bytes some in omega (arith, last, long)

-- Bytes of which there is one are not none.
pub not_none : (bytes : List ℕ) → eqb (length bytes) 0 ≡ false → bytes ≢ []
not_none [] some = absurd cc
not_none (byte ∷ bytes) some = λ none. cc
