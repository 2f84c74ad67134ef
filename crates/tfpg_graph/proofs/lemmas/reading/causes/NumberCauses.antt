-- Words in the place of numbers: their causes and their values.
use Rattle.std.proofs.Common.{◌≡◌, ℕ, Bool, true, false, cond, not, ◌&&◌, ◌||◌, List, [], ◌∷◌, Option, Some, None, Result, Ok, Err, refl, ap, ◌∙◌, arith, nat_lt, codes}
use Rattle.std.specs.Str.{bytes_eq}
use Rattle.std.specs.Str.Parse.{digits_value}
use Rattle.tfpg_base.specs.Words.{is_number, number_of, number_up_to}
use Rattle.tfpg_base.specs.declared.word.Number.TheVariants.{Value}
use Rattle.tfpg_graph.specs.declared.cause.GraphCause.{GraphCause}
use Rattle.tfpg_graph.specs.declared.cause.GraphCause.TheVariants.{BadNumber, NumberTooLarge, MinOverMax}
use Rattle.tfpg_base.specs.declared.limits.TheConstants.{MAX_TIME}
use Rattle.tfpg_graph.specs.declared.limits.TheConstants.{MAX_RARITY}
use Rattle.tfpg_graph.specs.Statements.{FailureWords}
use Rattle.tfpg_graph.specs.inside.reading.WordValues.{numbers_of_words, delays_of_words}
use Rattle.std.specs.Bool.{then_some}
use Rattle.std.specs.Option.{option_map, option_zip}
use Rattle.std.proofs.lemmas.Bool.{le-ltb}
use Rattle.std.proofs.lemmas.Option.{cond_some}
use Rattle.tfpg_base.specs.Choice.{first_of}
use Rattle.tfpg_graph.specs.inside.reading.LineCauses.{number_causes, range_causes, node_number_causes, delay_causes}
use Rattle.tfpg_graph.specs.inside.reading.Turns.{ReadAs}
use Rattle.tfpg_base.proofs.lemmas.Numbers.{number_up_to-value}

one_word : (is large : Bool) (cause : GraphCause) → first_of (then_some (not (is && true)) BadNumber ∷ then_some (large || false) NumberTooLarge ∷ []) ≡ Some cause
    → first_of (then_some (not (is && true)) BadNumber ∷ then_some (large || false) NumberTooLarge ∷ then_some false MinOverMax ∷ []) ≡ Some cause
one_word true true cause e = e
one_word true false cause e = absurd cc
one_word false large cause e = e

-- where there is no greatest delay, the least decides
pub delays-no_greatest : (tmin tmax : List ℕ) (cause : GraphCause) → bytes_eq tmax (codes "inf") ≡ true
    → first_of (number_causes ((tmin, MAX_TIME) ∷ [])) ≡ Some cause → first_of (delay_causes tmin tmax) ≡ Some cause
delays-no_greatest tmin tmax cause none e = rw none (one_word (is_number tmin) (nat_lt MAX_TIME (digits_value 10 tmin)) cause e)

-- a word that is read as a number up to the greatest time
word_read : (word : List ℕ) (number : ℕ) → number_up_to MAX_TIME (number_of word) ≡ Value number
    → (is_number word ≡ true) × (nat_lt MAX_TIME (digits_value 10 word) ≡ false) × (digits_value 10 word ≡ number)
word_read word number read =
    let found = number_up_to-value MAX_TIME number (number_of word) read in
    let parts = cond_some (is_number word) (digits_value 10 word) number found.0 in
    (parts.0, le-ltb MAX_TIME (digits_value 10 word) (omega (arith, parts.1, found.1)), parts.1)

in_order : (over : Bool) (least greatest : ℕ)
    → ReadAs (first_of (None ∷ None ∷ then_some over MinOverMax ∷ [])) (Some (least, greatest)) (cond {A = Result (ℕ × ℕ) GraphCause} over (Err MinOverMax) (Ok (least, greatest)))
in_order true least greatest = refl
in_order false least greatest = (refl, refl)

-- where both are numbers, their order decides
pub range-values : (least_word greatest_word : List ℕ) (least greatest : ℕ) → number_up_to MAX_TIME (number_of least_word) ≡ Value least
    → number_up_to MAX_TIME (number_of greatest_word) ≡ Value greatest
    → ReadAs (first_of (range_causes least_word greatest_word)) (numbers_of_words least_word greatest_word)
    (cond {A = Result (ℕ × ℕ) GraphCause} (nat_lt greatest least) (Err MinOverMax) (Ok (least, greatest)))
range-values least_word greatest_word least greatest first second =
    let a = word_read least_word least first in
    let b = word_read greatest_word greatest second in
    rw (a.0, a.1, a.2, b.0, b.1, b.2) (in_order (nat_lt greatest least) least greatest)

-- where there is a greatest delay, the causes are those of the two numbers
pub delays-range : (tmin tmax : List ℕ) → bytes_eq tmax (codes "inf") ≡ false → first_of (delay_causes tmin tmax) ≡ first_of (range_causes tmin tmax)
delays-range tmin tmax some = rw some refl

-- and the delays are the two numbers
pub delays-numbers : (tmin tmax : List ℕ) → bytes_eq tmax (codes "inf") ≡ false
    → delays_of_words tmin tmax ≡ option_map (λ range. (range.0, Some range.1)) (numbers_of_words tmin tmax)
delays-numbers tmin tmax some =
    ap (λ (b : Bool). option_zip (number_of tmin) (cond b (Some None) (option_map Some (number_of tmax)))) some
    ∙ by (number_of tmin) (number_of tmax)
  where
    by : (least greatest : Option ℕ)
        → option_zip least (option_map Some greatest) ≡ option_map (λ (range : ℕ × ℕ). (range.0, Some range.1)) (option_zip least greatest)
    by None greatest = refl
    by (Some least) None = refl
    by (Some least) (Some greatest) = refl

-- one number alone has no order
pub failure-number : (rarity : List ℕ) (cause : GraphCause) → first_of (number_causes ((rarity, MAX_RARITY) ∷ [])) ≡ Some cause
    → first_of (node_number_causes (FailureWords rarity)) ≡ Some cause
failure-number rarity cause e = one_word (is_number rarity) (nat_lt MAX_RARITY (digits_value 10 rarity)) cause e
