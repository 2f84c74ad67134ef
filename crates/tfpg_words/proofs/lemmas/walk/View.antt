-- What a word looks like, to clap and to the definition of the words.
use Rattle.std.proofs.Common.{◌≡◌, ◌∙◌, ◌+◌, ◌==◌, ◌&&◌, suc, ap, ap₂, refl, sym, subst, ℕ, Bool, true, false, cond, List, [], ◌∷◌, length, Option, Some, None, option_map, bytes_eq, nat_lt, take, drop, arith}
use Rattle.std.proofs.lemmas.Bool.{eqb-true}
use Rattle.std.specs.List.{position, position_or_len, before_first, after_first}
use Rattle.clap.specs.Lexer.{has_byte, long_of, short_of}
use Rattle.tfpg_base.proofs.lemmas.lists.Positions.{position_or_len-within}
use Rattle.tfpg_base.proofs.lemmas.lists.Sequences.{nat_lt-suc}
use Rattle.tfpg_words.specs.Words.{Word, cut_at_equals, is_option_word}

pub data View : Word → Type 0 where
  plain : (word : Word) → is_option_word word ≡ false → bytes_eq word (45 ∷ 45 ∷ []) ≡ false → long_of word ≡ None → short_of word ≡ None → View word
  divider : View (45 ∷ 45 ∷ [])
  long : (first : ℕ) (rest : List ℕ) → View (45 ∷ 45 ∷ first ∷ rest)
  short : (first : ℕ) (rest : List ℕ) → (first == 45) ≡ false → View (45 ∷ first ∷ rest)

one : (a : ℕ) (b : Bool) → (a == 45) ≡ b → View (a ∷ [])
one a true e = subst (λ (x : ℕ). View (x ∷ [])) (sym (eqb-true a 45 e)) (plain (45 ∷ []) refl refl refl refl)
one a false e = plain (a ∷ []) refl (λ i. e i && false) (rw e refl) (rw e refl)

two : (b : ℕ) (rest : List ℕ) (t : Bool) → (b == 45) ≡ t → View (45 ∷ b ∷ rest)
two b rest false e = short b rest e
two b [] true e = subst (λ (x : ℕ). View (45 ∷ x ∷ [])) (sym (eqb-true b 45 e)) divider
two b (c ∷ rest) true e = subst (λ (x : ℕ). View (45 ∷ x ∷ c ∷ rest)) (sym (eqb-true b 45 e)) (long c rest)

more : (a b : ℕ) (rest : List ℕ) (t : Bool) → (a == 45) ≡ t → View (a ∷ b ∷ rest)
more a b rest true e = subst (λ (x : ℕ). View (x ∷ b ∷ rest)) (sym (eqb-true a 45 e)) (two b rest (b == 45) refl)
more a b rest false e = plain (a ∷ b ∷ rest) e (rw e refl) (rw e refl) (rw e refl)

pub view : (word : Word) → View word
view [] = plain [] refl refl refl refl
view (a ∷ []) = one a (a == 45) refl
view (a ∷ b ∷ rest) = more a b rest (a == 45) refl

abbrev pub named : Option (Word × Word) → Option (Word × Word)
named = option_map (λ two. (45 ∷ 45 ∷ two.0, two.1))

abbrev pub parted : List ℕ → Bool → Option (Word × Word)
parted xs has = cond has (Some (before_first (λ x. x == 61) xs, after_first (λ x. x == 61) xs)) None

-- the definition cuts an option word where clap cuts what follows its hyphens
pub cut_long : (xs : List ℕ) → cut_at_equals (45 ∷ 45 ∷ xs) ≡ named (parted xs (has_byte 61 xs))
cut_long xs =
    let n = position_or_len (λ x. x == 61) xs in
    let index : position (λ x. x == 61) (45 ∷ 45 ∷ xs) ≡ cond (nat_lt n (length xs)) (Some (1 + (1 + n))) None =
    ap (λ b. cond b (Some (1 + (1 + n))) None) (nat_lt-suc (1 + n) (suc (length xs)) ∙ nat_lt-suc n (length xs)) in
    ap (option_map (λ index. (take index (45 ∷ 45 ∷ xs), drop (index + 1) (45 ∷ 45 ∷ xs)))) index
    ∙ ap (λ b. option_map (λ index. (take index (45 ∷ 45 ∷ xs), drop (index + 1) (45 ∷ 45 ∷ xs))) (cond b (Some (1 + (1 + n))) None)) (position_or_len-within (λ x. x == 61) xs)
    ∙ by (has_byte 61 xs)
  where
    by : (b : Bool) → option_map (λ index. (take index (45 ∷ 45 ∷ xs), drop (index + 1) (45 ∷ 45 ∷ xs))) (cond b (Some (1 + (1 + position_or_len (λ x. x == 61) xs))) None) ≡ named (parted xs b)
    by false = refl
    by true =
        let n = position_or_len (λ x. x == 61) xs in
        let second : 1 + (1 + n) ≡ suc (suc n) = omega arith in
        let third : 1 + (1 + n) + 1 ≡ suc (suc (n + 1)) = omega arith in
        ap₂ (λ (a b : Word). Some (a, b)) (ap (λ m. take m (45 ∷ 45 ∷ xs)) second) (ap (λ m. drop m (45 ∷ 45 ∷ xs)) third)
