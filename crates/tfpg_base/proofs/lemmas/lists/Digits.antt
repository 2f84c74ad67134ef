-- Bytes that are digits, and the decimal text of a number.
use Rattle.std.proofs.Common.{◌≡◌, ℕ, ◌+◌, ◌*◌, ◌<◌, ◌≤◌, ◌^◌, true, List, [], ◌∷◌, length, get_or, take, ◌⊎◌, inl, inr, refl, arith, ap, nat_lt, false}
use Rattle.std.specs.List.{list_all}
use Rattle.std.specs.Char.{is_ascii_digit, digit_value}
use Rattle.std.specs.Str.Parse.{digits_value, AllDigits}
use Rattle.std.specs.Prelude.{decimal}
use Rattle.std.proofs.lemmas.Bool.{and_parts, and_from, cases_lt, le-ltb}
use Rattle.std.proofs.lemmas.Bool.Decides.{nat_tests}
use Rattle.std.proofs.lemmas.Fmt.{first_decimal, decimal_digit, decimal_is_IsNumeral}
use Rattle.std.proofs.lemmas.Int.Digits.{digits_value_more}
use Rattle.std.proofs.lemmas.Str.Parse.{digit_from_value, digits_value-take-le}

-- a digit is worth less than ten
pub digit_value-lt : (byte : ℕ) → is_ascii_digit byte ≡ true → digit_value byte < 10
digit_value-lt byte digit = grind (arith, nat_tests)

-- what is worth less than ten is a digit
pub is_ascii_digit-true : (byte : ℕ) → digit_value byte < 10 → is_ascii_digit byte ≡ true
is_ascii_digit-true byte small = let inside = digit_from_value byte small in grind (arith, nat_tests)

-- bytes that are digits one by one are digits together
pub AllDigits-from_list_all : (bytes : List ℕ) → list_all is_ascii_digit bytes ≡ true → AllDigits 10 bytes
AllDigits-from_list_all [] all = tt
AllDigits-from_list_all (byte ∷ bytes) all =
    let parts = and_parts (is_ascii_digit byte) (list_all is_ascii_digit bytes) all in
    (digit_value-lt byte parts.0, AllDigits-from_list_all bytes parts.1)

-- digits one by one, from digits together
pub list_all-from_AllDigits : (bytes : List ℕ) → AllDigits 10 bytes → list_all is_ascii_digit bytes ≡ true
list_all-from_AllDigits [] digits = refl
list_all-from_AllDigits (byte ∷ bytes) digits =
    and_from (is_ascii_digit byte) (list_all is_ascii_digit bytes) (is_ascii_digit-true byte digits.0) (list_all-from_AllDigits bytes digits.1)

-- digits are worth at least what their front is, and the front is worth ten times what stands before its last
pub digits_value-front : (digits : List ℕ) (i : ℕ) → i < length digits → digits_value 10 (take i digits) * 10 + digit_value (get_or digits i 0) ≤ digits_value 10 digits
digits_value-front digits i within =
    omega (arith, digits_value_more 10 digits i within, digits_value-take-le 10 digits (i + 1) (omega arith))

-- the text of a number begins with no 0, or is one byte
pub decimal-first_or_one : (n : ℕ) → n < 2 ^ 64 → (48 < get_or (decimal n) 0 0) ⊎ (length (decimal n) ≡ 1)
decimal-first_or_one n small = elim (cases_lt 0 n) [
  | inl above ↦ inl (first_decimal n above small)
  | inr zero ↦ inr (ap length (decimal_digit n (omega arith)))
]

-- the digits of a number up to a limit are worth no more
pub digits_value-decimal_within : (limit n : ℕ) → n ≤ limit → n < 2 ^ 64 → nat_lt limit (digits_value 10 (decimal n)) ≡ false
digits_value-decimal_within limit n within small = le-ltb limit (digits_value 10 (decimal n)) (omega (arith, (decimal_is_IsNumeral n small).1))
