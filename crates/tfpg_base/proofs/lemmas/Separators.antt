-- Laws of words and of the bytes that stand between them.
use Rattle.std.proofs.Common.{◌≡◌, ℕ, true, false, List, [], ◌∷◌}
use Rattle.std.specs.List.{list_all, join_with_byte}
use Rattle.std.specs.Char.{is_ascii_digit}
use Rattle.std.proofs.lemmas.Bool.{and_parts, and_from, or_left, false≢true}
use Rattle.std.proofs.lemmas.List.Splits.{join_with_byte-slice_split}
use Rattle.tfpg_base.specs.Words.{words_of, is_letter, is_name_byte, is_name, is_number}
use Rattle.tfpg_base.proofs.lemmas.lists.Digits.{list_all-from_AllDigits}
use Rattle.tfpg_base.proofs.lemmas.lists.Lacking.{Lacks, lacks_by_test}
use Rattle.tfpg_base.proofs.lemmas.Numbers.{AllDigits-from_number}

-- The words, joined by spaces, are the line.
pub join_with_byte-words_of : (line : List ℕ) → join_with_byte 32 (words_of line) ≡ line
join_with_byte-words_of line = join_with_byte-slice_split 32 line

-- the bytes of a name may stand in one
list_all-name : (word : List ℕ) → is_name word ≡ true → list_all is_name_byte word ≡ true
list_all-name [] name = absurd (false≢true name)
list_all-name (first ∷ others) name =
    let parts = and_parts (is_letter first) _ name in
    and_from (is_name_byte first) (list_all is_name_byte others) (or_left (is_letter first) _ parts.0) (and_parts (list_all is_name_byte others) _ parts.1).0

-- A name lacks each byte that no name may have.
pub name_lacks : (byte : ℕ) (word : List ℕ) → is_name_byte byte ≡ false → is_name word ≡ true → Lacks byte word
name_lacks byte word fails name = lacks_by_test is_name_byte byte word fails (list_all-name word name)

-- A number lacks each byte that is no digit.
pub number_lacks : (byte : ℕ) (word : List ℕ) → is_ascii_digit byte ≡ false → is_number word ≡ true → Lacks byte word
number_lacks byte word fails number = lacks_by_test is_ascii_digit byte word fails (list_all-from_AllDigits word (AllDigits-from_number word number))
