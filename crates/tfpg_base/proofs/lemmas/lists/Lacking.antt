-- Bytes among which a certain byte does not stand.
use Rattle.std.proofs.Common.{◌≡◌, ℕ, ◌<◌, ◌^◌, Bool, true, false, not, eqb, ◌==◌, List, [], ◌∷◌, length, refl, ap, sym, ◌∙◌, arith}
use Rattle.std.specs.Prelude.{decimal}
use Rattle.std.specs.List.{All, AllByRecursion, list_all, join_with_byte, slice_split}
use Rattle.std.specs.Char.{is_ascii_digit}
use Rattle.std.proofs.lemmas.Bool.{and_parts, not-true, both_ways, false_from_ne_true, eqb-true, eq-eqb}
use Rattle.std.proofs.lemmas.Fmt.{decimal_is_IsNumeral}
use Rattle.std.proofs.lemmas.List.Elements.{All-nil, All-cons}
use Rattle.std.proofs.lemmas.List.Splits.{slice_split_none, slice_split_at}
use Rattle.tfpg_base.proofs.lemmas.lists.Digits.{list_all-from_AllDigits}

-- no byte of the word is this one
abbrev pub Lacks : ℕ → List ℕ → Type 0
Lacks byte word = All (λ other. eqb other byte ≡ false) word

-- Words none of which has the byte, joined by it, are split into the same words.
pub slice_split-join : (byte : ℕ) (words : List (List ℕ)) → 0 < length words → AllByRecursion (Lacks byte) words
    → slice_split (λ other. other == byte) (join_with_byte byte words) ≡ words
slice_split-join byte [] some lack = absurd (omega arith)
slice_split-join byte (word ∷ []) some lack = slice_split_none (λ other. other == byte) word lack.0
slice_split-join byte (word ∷ second ∷ others) some lack =
    slice_split_at (λ other. other == byte) word byte (join_with_byte byte (second ∷ others)) lack.0
    (eq-eqb byte byte refl)
    ∙ ap (λ words. word ∷ words) (slice_split-join byte (second ∷ others) (omega arith) lack.1)

-- a word lacks a byte where a test of each of its bytes says so
pub lacks_checked : (byte : ℕ) (word : List ℕ) → list_all (λ other. not (other == byte)) word ≡ true → Lacks byte word
lacks_checked byte [] all = All-nil (λ other. eqb other byte ≡ false)
lacks_checked byte (first ∷ others) all =
    let parts = and_parts (not (eqb first byte)) (list_all (λ other. not (eqb other byte)) others) all in
    All-cons (λ other. eqb other byte ≡ false) first others (not-true (eqb first byte) parts.0) (lacks_checked byte others parts.1)

-- where each byte passes a test that this byte fails, the word lacks it
pub lacks_by_test : (test : ℕ → Bool) (byte : ℕ) (word : List ℕ) → test byte ≡ false → list_all test word ≡ true → Lacks byte word
lacks_by_test test byte [] fails all = All-nil (λ other. eqb other byte ≡ false)
lacks_by_test test byte (first ∷ others) fails all =
    let parts = and_parts (test first) (list_all test others) all in
    let unlike : eqb first byte ≡ false = false_from_ne_true (eqb first byte) (λ same. both_ways (test byte) fails (ap test (sym (eqb-true first byte same)) ∙ parts.0)) in
    All-cons (λ other. eqb other byte ≡ false) first others unlike (lacks_by_test test byte others fails parts.1)

-- A decimal text lacks each byte that is no digit.
pub decimal_lacks : (byte n : ℕ) → is_ascii_digit byte ≡ false → n < 2 ^ 64 → Lacks byte (decimal n)
decimal_lacks byte n fails small =
    lacks_by_test is_ascii_digit byte (decimal n) fails (list_all-from_AllDigits (decimal n) (decimal_is_IsNumeral n small).0.1)
