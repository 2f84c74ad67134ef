-- The members of a set, written by going over all numbers that they may have.
use Rattle.std.proofs.Common.{◌≡◌, ℕ, ◌↔◌, Bool, true, false, IsTrue, List, [], ◌∷◌, ◌++◌, map, refl, sym, ap, ◌∙◌, append_assoc}
use Rattle.std.specs.List.{join_with_byte}
use Rattle.std.proofs.lemmas.List.{append-nil}
use Rattle.tfpg_base.specs.Hypothesis.{Hypothesis}
use Rattle.tfpg_base.specs.TextLine.{separated}
use Rattle.tfpg_graph.specs.Graph.{Tfpg, failure_word}
use Rattle.tfpg_report.specs.SetText.{hyphen_or_joined, set_word}
use Rattle.tfpg_graph.specs.Members.{doubt_word}
use Rattle.tfpg_report.specs.inside.Further.{further_words}

-- whether a word after these items is the first one still
abbrev pub still_first : {X : Type 0} → Bool → List X → Bool
still_first is_first [] = is_first
still_first is_first (x ∷ xs) = false

-- after some item none is
still_first-false : {X : Type 0} (xs : List X) → still_first false xs ≡ false
still_first-false [] = refl
still_first-false (x ∷ xs) = refl

still_first-map : {X Y : Type 0} (f : X → Y) (is_first : Bool) (xs : List X) → still_first is_first (map f xs) ≡ still_first is_first xs
still_first-map f is_first [] = refl
still_first-map f is_first (x ∷ xs) = refl

-- a word is the first where there is nothing before it
pub still_first-test : (test : Bool) (xs : List ℕ) → IsTrue test ↔ (xs ≡ []) → still_first true xs ≡ test
still_first-test true [] exact = refl
still_first-test false [] exact = sym (exact.1 refl)
still_first-test true (x ∷ xs) exact = absurd (let none : x ∷ xs ≡ [] = exact.0 refl in cc)
still_first-test false (x ∷ xs) exact = refl

-- ---- words that go on a list

-- words after words
further-append : (is_first : Bool) (words more : List (List ℕ)) → further_words is_first (words ++ more) ≡ further_words is_first words ++ further_words (still_first is_first words) more
further-append is_first [] more = refl
further-append is_first (word ∷ words) more =
    ap (λ (text : List ℕ). separated 44 is_first word ++ text)
    (further-append false words more ∙ ap (λ (b : Bool). further_words false words ++ further_words b more) (still_first-false words))
    ∙ sym (append_assoc (separated 44 is_first word) (further_words false words) (further_words false more))

-- joined words after a comma are further ones
further-joined : (word : List ℕ) (words : List (List ℕ)) → 44 ∷ join_with_byte 44 (word ∷ words) ≡ further_words false (word ∷ words)
further-joined word [] = sym (append-nil (44 ∷ word))
further-joined word (next ∷ words) = ap (λ (text : List ℕ). 44 ∷ (word ++ text)) (further-joined next words)

-- words that are joined are those of a whole list
joined-further : (words : List (List ℕ)) → join_with_byte 44 words ≡ further_words true words
joined-further [] = refl
joined-further (word ∷ []) = sym (append-nil word)
joined-further (word ∷ next ∷ words) = ap (λ (text : List ℕ). word ++ text) (further-joined next words)

-- ---- one member after another

-- A part of a whole text stands after the old bytes, and this rest is left to be written.
pub record IsPartWritten (old whole new rest : List ℕ) : Type 0 where
  pub part : List ℕ
  pub text : new ≡ old ++ part
  pub is_whole : part ++ rest ≡ whole

module _ (old whole : List ℕ) where
  -- nothing is written at first
  pub IsPartWritten-none : IsPartWritten old whole old whole
  IsPartWritten-none = record { part = []; text = sym (append-nil old); is_whole = refl }

  -- the first bytes of the rest are written
  pub IsPartWritten-more : (mid new more rest left : List ℕ) → rest ≡ more ++ left → IsPartWritten old whole mid rest → new ≡ mid ++ more → IsPartWritten old whole new left
  IsPartWritten-more mid new more rest left splits written e = record {
    part = written.part ++ more;
    text = e ∙ ap (λ (t : List ℕ). t ++ more) written.text ∙ append_assoc old written.part more;
    is_whole = append_assoc written.part more left ∙ ap (λ (t : List ℕ). written.part ++ t) (sym splits) ∙ written.is_whole;
  }

  -- no rest is left
  pub IsPartWritten-all : (new rest : List ℕ) → rest ≡ [] → IsPartWritten old whole new rest → new ≡ old ++ whole
  IsPartWritten-all new rest none written =
      written.text
      ∙ ap (λ (t : List ℕ). old ++ t) (sym (append-nil written.part) ∙ ap (λ (t : List ℕ). written.part ++ t) (sym none) ∙ written.is_whole)

-- the words for the members that are left
abbrev pub words_left : (ℕ → List ℕ) → Bool → List ℕ → List ℕ
words_left word is_first members = further_words is_first (map word members)

-- ---- the text of a set

-- words of which there are some
some_joined : (words : List (List ℕ)) → (words ≡ [] → ⊥) → hyphen_or_joined words ≡ further_words true words
some_joined [] some = absurd (some refl)
some_joined (word ∷ words) some = joined-further (word ∷ words)

both_none : {X : Type 0} (f g : ℕ → X) (xs ys : List ℕ) → map f xs ++ map g ys ≡ [] → (xs ≡ []) × (ys ≡ [])
both_none f g [] [] e = (refl, refl)
both_none f g [] (y ∷ ys) e = absurd cc
both_none f g (x ∷ xs) ys e = absurd cc

-- The text of a set with a member is the names of its failure modes, and then the words for its doubts.
pub set_written : (graph : Tfpg) (hypothesis : Hypothesis) → (hypothesis.set ≡ [] → hypothesis.doubts ≡ [] → ⊥)
    → set_word graph hypothesis ≡ further_words true (map (failure_word graph) hypothesis.set) ++ further_words (still_first true hypothesis.set) (map (doubt_word graph) hypothesis.doubts)
set_written graph hypothesis some =
    let failures : List (List ℕ) = map (failure_word graph) hypothesis.set in
    let doubts : List (List ℕ) = map (doubt_word graph) hypothesis.doubts in
    some_joined (failures ++ doubts) (λ e. let none = both_none (failure_word graph) (doubt_word graph) hypothesis.set hypothesis.doubts e in some none.0 none.1)
    ∙ further-append true failures doubts
    ∙ ap (λ (b : Bool). further_words true failures ++ further_words b doubts) (still_first-map (failure_word graph) true hypothesis.set)
