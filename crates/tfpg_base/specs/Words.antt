-- Words on a line, and the two forms of words that every text format uses: names and numbers.
use Rattle.std.specs.Prelude.{ℕ, List, [], ◌∷◌, length, Bool, false, not, ◌&&◌, ◌||◌, nat_le, nat_lt, ◌==◌, if◌then◌else◌, Option, Some, None}
use Rattle.std.specs.List.{slice_split, list_all, list_any, join_with_byte}
use Rattle.std.specs.Char.{is_ascii_digit}
use Rattle.std.specs.Str.Parse.{digits_value}
use Rattle.tfpg_base.specs.declared.limits.TheConstants.{LONGEST_NAME}
use Rattle.tfpg_base.specs.declared.word.Number.{Number}
use Rattle.tfpg_base.specs.declared.word.Number.TheVariants.{Value, TooLarge, NotANumber}

-- The words of a line: the parts round its spaces. A space at an end of the line, or after another one, makes an empty word.
abbrev pub words_of : List ℕ → List (List ℕ)
words_of line = slice_split (λ byte. byte == 32) line

-- words with a space between each two
abbrev pub line_of : List (List ℕ) → List ℕ
line_of words = join_with_byte 32 words

-- Whether one of the words is empty.
abbrev pub has_empty_word : List (List ℕ) → Bool
has_empty_word words = list_any (λ word. length word == 0) words

-- the parts of a word round its commas
abbrev pub comma_parts : List ℕ → List (List ℕ)
comma_parts word = slice_split (λ byte. byte == 44) word

-- words with a comma between each two
abbrev pub joined_by_commas : List (List ℕ) → List ℕ
joined_by_commas words = join_with_byte 44 words

-- from A to Z or from a to z
abbrev pub is_letter : ℕ → Bool
is_letter byte = (nat_le 65 byte && nat_le byte 90) || (nat_le 97 byte && nat_le byte 122)

-- a letter, a digit, an underscore, a dot or a hyphen
abbrev pub is_name_byte : ℕ → Bool
is_name_byte byte = is_letter byte || (is_ascii_digit byte || (byte == 95 || (byte == 46 || byte == 45)))

-- A name has a byte and at most as many as the longest name; the first is a letter.
abbrev pub is_name : List ℕ → Bool
is_name [] = false
is_name (first ∷ others) = is_letter first && (list_all is_name_byte others && nat_lt (length others) LONGEST_NAME)

-- A number is `0`, or a digit from 1 to 9 and then digits.
abbrev pub is_number : List ℕ → Bool
is_number [] = false
is_number (digit ∷ []) = is_ascii_digit digit
is_number (first ∷ second ∷ others) = is_ascii_digit first && (not (first == 48) && list_all is_ascii_digit (second ∷ others))

-- the number that a word spells, where it has the form of a number
abbrev pub number_of : List ℕ → Option ℕ
number_of word = if is_number word then Some (digits_value 10 word) else None

-- what stands in the place of a number of at most `limit`, by the number that its word spells
abbrev pub number_up_to : ℕ → Option ℕ → Number
number_up_to limit None = NotANumber
number_up_to limit (Some number) = if nat_le number limit then Value number else TooLarge
