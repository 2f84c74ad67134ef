-- The values that the words of a spelled graph have.
use Rattle.std.proofs.Common.{◌≡◌, ◌≢◌, ℕ, ◌<◌, ◌≤◌, ◌||◌, true, false, cond, List, [], ◌∷◌, ◌++◌, length, map, get_or, All, AllPairs, IsTrue, Option, Some, None, IfSome, codes, refl, ap, sym, ◌∙◌, subst, arith}
use Rattle.std.specs.Prelude.{decimal}
use Rattle.std.specs.Option.{option_map, option_zip}
use Rattle.std.specs.List.{AllByRecursion, join_with_byte}
use Rattle.std.specs.Str.{bytes_eq}
use Rattle.std.proofs.lemmas.Bool.{false≢true, and_parts, or_from, cond-false}
use Rattle.std.proofs.lemmas.List.{append-nil}
use Rattle.std.proofs.lemmas.List.Elements.{All-head, All-tail}
use Rattle.std.proofs.lemmas.List.Folds.{list_any_none}
use Rattle.tfpg_base.specs.Words.{is_name, is_letter, number_of}
use Rattle.tfpg_base.proofs.lemmas.Numbers.{number_of-decimal, decimal-differs}
use Rattle.tfpg_base.proofs.lemmas.Separators.{name_lacks}
use Rattle.tfpg_base.proofs.lemmas.lists.Lacking.{Lacks, slice_split-join}
use Rattle.tfpg_base.proofs.lemmas.lists.Elements.{AllPairs-head, AllPairs-tail}
use Rattle.tfpg_graph.specs.declared.kind.Kind.{Kind}
use Rattle.tfpg_graph.specs.declared.kind.Lag.{Lag}
use Rattle.tfpg_graph.specs.declared.kind.Kind.TheVariants.{Failure, Or, And}
use Rattle.tfpg_graph.specs.Text.{tmax_word, lag_words, words_of_kind}
use Rattle.tfpg_base.specs.declared.limits.TheConstants.{MAX_TIME}
use Rattle.tfpg_graph.specs.Valid.{HasValidNumber, IsValidLag}
use Rattle.tfpg_graph.specs.Declares.{kind_of_words, lag_of_words, tmax_of_word, modes_listed}
use Rattle.tfpg_graph.specs.Causes.{has_twice}
use Rattle.tfpg_base.proofs.lemmas.lists.SameBytes.{bytes_eq-differ}
use Rattle.tfpg_base.proofs.lemmas.lists.Images.{list_any-map}
use Rattle.tfpg_base.proofs.lemmas.lists.Distinct.{get_or-differ}

lag_read : (lag : Option Lag) → IfSome lag IsValidLag → lag_of_words (option_map lag_words lag) ≡ Some lag
lag_read None small = refl
lag_read (Some lag) small = λ i.
    option_map (λ (range : ℕ × ℕ). Some (record { least = range.0; most = range.1 }))
    (option_zip (number_of-decimal lag.least (omega (arith, small.in_order, small.most)) i) (number_of-decimal lag.most (omega (arith, small.most)) i))

-- The words that say what a node is are read as it.
pub kind_of_words-kind : (kind : Kind) → HasValidNumber kind → kind_of_words (words_of_kind kind) ≡ Some kind
kind_of_words-kind (Failure rarity) small = ap (option_map Failure) (number_of-decimal rarity (omega arith))
kind_of_words-kind (Or lag) small = ap (option_map Or) (lag_read lag small)
kind_of_words-kind (And lag) small = ap (option_map And) (lag_read lag small)

-- The word for a greatest delay is read as it.
pub tmax_of_word-tmax : (tmax : Option ℕ) → IfSome tmax (λ time. time ≤ MAX_TIME)
    → tmax_of_word (tmax_word tmax) ≡ Some tmax
tmax_of_word-tmax None small = refl
tmax_of_word-tmax (Some time) small =
    cond-false (bytes_eq (decimal time) (codes "inf")) (Some None) (option_map Some (number_of (decimal time)))
    (decimal-differs time (codes "inf") (omega arith) refl)
    ∙ ap (option_map Some) (number_of-decimal time (omega arith))

-- the names of these numbers
abbrev pub names_at : List (List ℕ) → List ℕ → List (List ℕ)
names_at names numbers = map (λ number. get_or names number []) numbers

module _ (names : List (List ℕ)) (differ : AllPairs (λ a b. a ≢ b) names) where
  -- names of numbers that differ stand once
  pub has_twice-names : (numbers : List ℕ) → All (λ number. number < length names) numbers
      → AllPairs (λ a b. a ≢ b) numbers → has_twice (names_at names numbers) ≡ false
  has_twice-names [] below apart = refl
  has_twice-names (number ∷ numbers) below apart =
      let own = All-head (λ n. n < length names) number numbers below in
      let later = All-tail (λ n. n < length names) number numbers below in
      let others = AllPairs-head (λ a b. a ≢ b) number numbers apart in
      or_from _ _
      (list_any-map (bytes_eq (get_or names number [])) (λ n. get_or names n []) numbers
      ∙ list_any_none (λ n. bytes_eq (get_or names number []) (get_or names n [])) numbers
      (λ k d within. bytes_eq-differ _ _ (get_or-differ names [] number (get_or numbers k d) differ own (later k d within) (others k d within))))
      (has_twice-names numbers (All-tail (λ n. n < length names) number numbers below)
      (AllPairs-tail (λ a b. a ≢ b) number numbers apart))

-- these are names where all are
pub all_names : (names : List (List ℕ)) (numbers : List ℕ) → All (λ name. IsTrue (is_name name)) names
    → All (λ number. number < length names) numbers
    → AllByRecursion (λ name. IsTrue (is_name name)) (names_at names numbers)
all_names names [] named below = tt
all_names names (number ∷ numbers) named below = (
  named number [] (All-head (λ n. n < length names) number numbers below),
  all_names names numbers named
      (All-tail (λ n. n < length names) number numbers below),
)

letter_first : (name others : List ℕ) → is_name name ≡ true → is_letter (get_or (name ++ others) 0 0) ≡ true
letter_first [] others named = absurd (false≢true named)
letter_first (first ∷ name) others named = (and_parts (is_letter first) _ named).0

-- names with commas between begin with a letter
join_letter : (names : List (List ℕ)) → 0 < length names → AllByRecursion (λ name. IsTrue (is_name name)) names
    → is_letter (get_or (join_with_byte 44 names) 0 0) ≡ true
join_letter [] some named = absurd (omega arith)
join_letter (name ∷ []) some named =
    subst (λ word. is_letter (get_or word 0 0) ≡ true) (append-nil name) (letter_first name [] named.0)
join_letter (name ∷ second ∷ others) some named = letter_first name (44 ∷ join_with_byte 44 (second ∷ others)) named.0

module _ (names : List (List ℕ)) (some : 0 < length names)
    (named : AllByRecursion (λ name. IsTrue (is_name name)) names) where
  -- they are no word that does not begin with one
  pub join-not : (word : List ℕ) → is_letter (get_or word 0 0) ≡ false → bytes_eq (join_with_byte 44 names) word ≡ false
  join-not word fails =
      bytes_eq-differ (join_with_byte 44 names) word
      (λ same. false≢true (sym fails ∙ sym (ap (λ w. is_letter (get_or w 0 0)) same) ∙ join_letter names some named))

  no_comma : (others : List (List ℕ)) → AllByRecursion (λ name. IsTrue (is_name name)) others
      → AllByRecursion (Lacks 44) others
  no_comma [] are = tt
  no_comma (name ∷ others) are = (name_lacks 44 name refl are.0, no_comma others are.1)

  -- the names in the word that joins them are these
  pub modes_listed-join : modes_listed (join_with_byte 44 names) ≡ names
  modes_listed-join =
      (λ i. cond (join-not (codes "*") refl i || join-not (codes "-") refl i) []
      (slice_split-join 44 names some (no_comma names named) i))
