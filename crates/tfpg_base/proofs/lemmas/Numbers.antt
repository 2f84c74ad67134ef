-- Laws of numbers and their texts.
use Rattle.std.proofs.Common.{◌≡◌, ℕ, ◌<◌, ◌^◌, true, List, [], ◌∷◌, length, get_or, Some, not, ◌==◌, ◌⊎◌, ⊎_elim, refl, arith, sym, ◌∙◌, ap, ◌≤◌, false, Option, None, Bool, cond, nat_lt, leb, subst, is_some}
use Rattle.std.specs.Char.{is_ascii_digit}
use Rattle.std.specs.Str.Parse.{digits_value, AllDigits}
use Rattle.std.specs.Prelude.{decimal}
use Rattle.std.proofs.lemmas.Bool.{and_parts, and_from, ne_eqb, eqb-false, not-true, false≢true, cond-true, ltb-false}
use Rattle.std.proofs.lemmas.Option.{cond_some}
use Rattle.std.proofs.lemmas.Fmt.{decimal_is_IsNumeral, decimal-digits_value}
use Rattle.std.proofs.lemmas.Str.Parse.{numerals_by_value, tells_digits}
use Rattle.tfpg_base.specs.Words.{is_number, number_of, number_up_to}
use Rattle.tfpg_base.proofs.lemmas.lists.Digits.{digit_value-lt, is_ascii_digit-true, AllDigits-from_list_all, decimal-first_or_one, list_all-from_AllDigits}
use Rattle.std.proofs.lemmas.Bool.Decides.{nat_tests}
use Rattle.std.specs.Str.{bytes_eq}
use Rattle.tfpg_base.specs.declared.word.Number.TheVariants.{Value, TooLarge}
use Rattle.tfpg_base.proofs.lemmas.lists.SameBytes.{bytes_eq-differ}

-- a number is made of digits
pub AllDigits-from_number : (word : List ℕ) → is_number word ≡ true → AllDigits 10 word
AllDigits-from_number [] number = tt
AllDigits-from_number (digit ∷ []) number = (digit_value-lt digit number, tt)
AllDigits-from_number (first ∷ second ∷ others) number =
    let parts = and_parts (is_ascii_digit first) _ number in
    (digit_value-lt first parts.0, AllDigits-from_list_all (second ∷ others) (and_parts _ _ parts.1).1)

-- digits have the form of a number where there is one alone or the first is none of 0
number_from_AllDigits : (word : List ℕ) → AllDigits 10 word → 0 < length word → (48 < get_or word 0 0) ⊎ (length word ≡ 1) → is_number word ≡ true
number_from_AllDigits [] digits some first_or_one = absurd (omega arith)
number_from_AllDigits (digit ∷ []) digits some first_or_one = is_ascii_digit-true digit digits.0
number_from_AllDigits (first ∷ second ∷ others) digits some first_or_one =
    let above : 48 < first = ⊎_elim (λ above. above) (λ one. absurd (omega (arith, one))) first_or_one in
    and_from (is_ascii_digit first) _ (is_ascii_digit-true first digits.0)
    (and_from (not (first == 48)) _ (ap not (ne_eqb first 48 (λ e. omega (arith, e, above)))) (list_all-from_AllDigits (second ∷ others) digits.1))

-- the decimal text of a number has the form of a number
pub is_number-decimal : (n : ℕ) → n < 2 ^ 64 → is_number (decimal n) ≡ true
is_number-decimal n small =
    let numeral = (decimal_is_IsNumeral n small).0 in
    number_from_AllDigits (decimal n) numeral.1 numeral.0 (decimal-first_or_one n small)

-- The decimal text of a number is read back as this number.
pub number_of-decimal : (n : ℕ) → n < 2 ^ 64 → number_of (decimal n) ≡ Some n
number_of-decimal n small = rw (is_number-decimal n small, (decimal_is_IsNumeral n small).1) refl

-- a number is no empty word
pub number_nonempty : (word : List ℕ) → is_number word ≡ true → 0 < length word
number_nonempty [] number = absurd (false≢true number)
number_nonempty (first ∷ others) number = omega arith

-- a number that begins with 0 has no more digits
zero_alone : (word : List ℕ) → is_number word ≡ true → get_or word 0 0 ≡ 48 → length word ≡ 1
zero_alone [] number zero = absurd (false≢true number)
zero_alone (digit ∷ []) number zero = refl
zero_alone (first ∷ second ∷ others) number zero =
    let parts = and_parts (not (first == 48)) _ (and_parts (is_ascii_digit first) _ number).1 in
    absurd (eqb-false first 48 (not-true (first == 48) parts.0) zero)

-- A word that is read as a number is the decimal text of this number: no number has two texts.
pub decimal-number_of : (word : List ℕ) (n : ℕ) → number_of word ≡ Some n → n < 2 ^ 64 → word ≡ decimal n
decimal-number_of word n read small =
    let parts = cond_some (is_number word) (digits_value 10 word) n read in
    let own = numerals_by_value (AllDigits 10) tells_digits in
    let text = decimal-digits_value own word (AllDigits-from_number word parts.0) (number_nonempty word parts.0) (zero_alone word parts.0) (omega (arith, parts.1, small)) in
    sym text ∙ ap decimal parts.1

-- What is read up to a limit is what was read, and is within the limit.
pub number_up_to-value : (limit number : ℕ) (read : Option ℕ) → number_up_to limit read ≡ Value number → (read ≡ Some number) × (number ≤ limit)
number_up_to-value limit number None is = absurd cc
number_up_to-value limit number (Some value) is = by (leb value limit) refl is
  where
    by : (within : Bool) → leb value limit ≡ within → cond within (Value value) TooLarge ≡ Value number → (Some value ≡ Some number) × (number ≤ limit)
    by true small same =
        let value_is : value ≡ number = cc in
        (ap Some value_is, subst (λ n. n ≤ limit) value_is (grind (arith, nat_tests)))
    by false small same = absurd cc

-- the decimal text of a number is no word that is no number
pub decimal-differs : (n : ℕ) (word : List ℕ) → n < 2 ^ 64 → is_number word ≡ false → bytes_eq (decimal n) word ≡ false
decimal-differs n word small other =
    bytes_eq-differ (decimal n) word
    (λ same. false≢true (sym other ∙ sym (ap is_number same) ∙ is_number-decimal n small))

-- a word that has the form of a number is one
pub is_some-number_of : (word : List ℕ) → is_number word ≡ true → is_some (number_of word) ≡ true
is_some-number_of word number = ap (λ b. is_some (cond b (Some (digits_value 10 word)) None)) number

-- a word that is a number and not too large is the decimal text of its value
pub number_of-within : (word : List ℕ) (limit : ℕ) → limit < 2 ^ 64 → is_number word ≡ true → nat_lt limit (digits_value 10 word) ≡ false
    → (number_of word ≡ Some (digits_value 10 word)) × (word ≡ decimal (digits_value 10 word))
number_of-within word limit small number within =
    let value = digits_value 10 word in
    let read : number_of word ≡ Some value = cond-true (is_number word) (Some value) None number in
    (read, decimal-number_of word value read (omega (arith, ltb-false limit value within)))
