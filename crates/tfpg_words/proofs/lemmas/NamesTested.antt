-- What it comes to that the test of names passes.
use Rattle.std.proofs.Common.{◌≡◌, ◌∙◌, ◌&&◌, ◌||◌, ap, map, drop, ℕ, Bool, true, false, List, [], ◌∷◌, length, All, refl, sym, arith, bytes_eq}
use Rattle.std.specs.Prelude.{◌≢◌, AllPairs, nat_le, not}
use Rattle.std.specs.List.{list_all}
use Rattle.std.specs.Borrow.{Bor}
use Rattle.std.specs.List.{list_any}
use Rattle.std.proofs.lemmas.Bool.{and_parts, leb-true}
use Rattle.std.proofs.lemmas.List.{length-map}
use Rattle.std.proofs.lemmas.List.Folds.{list_all-map}
use Rattle.tfpg_base.specs.Words.{is_name}
use Rattle.tfpg_base.specs.declared.limits.TheConstants.{MAX_VEHICLES}
use Rattle.tfpg_words.specs.Names.{AreNames, are_distinct, are_few, are_names}
use Rattle.tfpg_words.specs.Words.{Word, is_word_among}
use Rattle.std.proofs.lemmas.Bool.{not-true}
use Rattle.std.proofs.lemmas.List.Sums.{AllPass-from_list_all}
use Rattle.tfpg_base.proofs.lemmas.lists.Elements.{AllPairs-cons, All-list_any_none}
use Rattle.tfpg_base.proofs.lemmas.lists.SameBytes.{bytes_eq-false}

-- a word that is not among others differs from each of them
none_alike : (word : Word) (others : List Word) → is_word_among others word ≡ false → All (λ other. word ≢ other) others
none_alike word others none index d within same =
    bytes_eq-false _ word (All-list_any_none (λ name. bytes_eq name word) others none index d within) (sym same)

-- words of which none stands twice differ
no_two : (words : List Word) → are_distinct words ≡ true → AllPairs (λ name other. name ≢ other) words
no_two [] is = λ i j d before within. absurd (omega (arith, within))
no_two (word ∷ others) is =
    let parts = and_parts (not (is_word_among others word)) (are_distinct others) is in
    AllPairs-cons (λ name other. name ≢ other) word others (none_alike word others (not-true (is_word_among others word) parts.0)) (no_two others parts.1)

-- words that pass are names
pub names_tested : (names : List Word) → are_names names ≡ true → AreNames names
names_tested names is =
    let first = and_parts (are_few (length names)) (list_all is_name names && are_distinct names) is in
    let second = and_parts (nat_le 1 (length names)) (nat_le (length names) MAX_VEHICLES) first.0 in
    let third = and_parts (list_all is_name names) (are_distinct names) first.1 in
    record {
      some = leb-true 1 (length names) second.0;
      few = leb-true (length names) MAX_VEHICLES second.1;
      each = AllPass-from_list_all is_name names third.0;
      distinct = no_two names third.1;
    }

-- ---- over the words that the code has

module _ (names : List (Bor (List ℕ))) where
  abbrev words : List Word
  words = map (λ (name : Bor (List ℕ)). name.now) names

  as_many : are_few (length words) ≡ are_few (length names)
  as_many = ap are_few (length-map names (λ (name : Bor (List ℕ)). name.now))

  form_is : list_all is_name words ≡ list_all (λ name. is_name name.now) names
  form_is = list_all-map is_name (λ (name : Bor (List ℕ)). name.now) names

  -- they are too many, or none
  pub not_few : (few : Bool) → few ≡ are_few (length names) → few ≡ false → false ≡ are_names words
  not_few few is fails = sym (ap (λ (b : Bool). b && (list_all is_name words && are_distinct words)) (as_many ∙ sym is ∙ fails))

  module _ (few : Bool) (few_is : few ≡ are_few (length names)) (are : few ≡ true) (form : Bool) (is : form ≡ list_all (λ name. is_name name.now) names) where
    -- one has not the form
    pub not_formed : form ≡ false → false ≡ are_names words
    not_formed fails =
        sym (ap (λ (b : Bool). b && (list_all is_name words && are_distinct words)) (as_many ∙ sym few_is ∙ are)
        ∙ ap (λ (b : Bool). b && are_distinct words) (form_is ∙ sym is ∙ fails))

    -- each has
    pub all_formed : form ≡ true → (distinct : Bool) → distinct ≡ are_distinct words → distinct ≡ are_names words
    all_formed passes distinct says = says
        ∙ sym (ap (λ (b : Bool). b && (list_all is_name words && are_distinct words)) (as_many ∙ sym few_is ∙ are)
        ∙ ap (λ (b : Bool). b && are_distinct words) (form_is ∙ sym is ∙ passes))

-- the word is among the others
among_is : (word : Word) (others : List (Bor (List ℕ))) → is_word_among (map (λ (name : Bor (List ℕ)). name.now) others) word ≡ list_any (λ name. bytes_eq name.now word) others
among_is word [] = refl
among_is word (name ∷ others) = ap (λ (b : Bool). bytes_eq name.now word || b) (among_is word others)

module _ (names others : List (Bor (List ℕ))) (first : Bor (List ℕ)) (are : names ≡ first ∷ others) (among : Bool) (is : among ≡ list_any (λ name. bytes_eq name.now first.now) others) where
  -- the first stands again
  pub first_again : among ≡ true → are_distinct (map (λ (name : Bor (List ℕ)). name.now) names) ≡ false
  first_again again =
      ap (λ (ns : List (Bor (List ℕ))). are_distinct (map (λ (name : Bor (List ℕ)). name.now) ns)) are
      ∙ ap (λ (b : Bool). not b && are_distinct (map (λ (name : Bor (List ℕ)). name.now) others)) (among_is first.now others ∙ sym is ∙ again)

  -- it does not
  pub first_once : among ≡ false → are_distinct (map (λ (name : Bor (List ℕ)). name.now) names) ≡ are_distinct (map (λ (name : Bor (List ℕ)). name.now) (drop 1 names))
  first_once once =
      ap (λ (ns : List (Bor (List ℕ))). are_distinct (map (λ (name : Bor (List ℕ)). name.now) ns)) are
      ∙ ap (λ (b : Bool). not b && are_distinct (map (λ (name : Bor (List ℕ)). name.now) others)) (among_is first.now others ∙ sym is ∙ once)
      ∙ ap (λ (ns : List (Bor (List ℕ))). are_distinct (map (λ (name : Bor (List ℕ)). name.now) (drop 1 ns))) (sym are)
