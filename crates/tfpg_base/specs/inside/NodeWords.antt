-- How words of 64 bits keep a set of nodes, and that the words can be had back from the nodes.
use Rattle.std.specs.Prelude.{◌≡◌, ℕ, zero, suc, ◌+◌, ◌*◌, ◌/◌, ◌%◌, ◌<◌, ◌^◌, List, [], ◌∷◌, ◌++◌, length, map, All, refl}
use Rattle.std.proofs.Common.{sym, ap, ◌∙◌, zero-add, lit<}
use Rattle.std.proofs.Math.Nat.{one-mul, mul-zero, mul-add, mul_assoc, mod-eq_of_lt, div-eq_of_lt, add-mul-mod_self_left, add-mul-div_left}
use Rattle.std.proofs.lemmas.Nat.{pow-add}
use Rattle.std.proofs.lemmas.List.Sums.{sum_by-cons, sum_by-append}
use Rattle.std.proofs.lemmas.List.Elements.{All-head, All-tail}
use Rattle.tfpg_base.specs.SetBits.{members_of, bits_of}
use Rattle.tfpg_base.specs.inside.BitsOfMembers.{bits_of-members_of}

-- the nodes that words keep, each word the next 64, where the first word begins with this node
unfoldable pub nodes_from : ℕ → List ℕ → List ℕ
nodes_from first [] = []
nodes_from first (word ∷ words) = map (λ index. first + index) (members_of word) ++ nodes_from (first + 64) words

-- the nodes that words keep
abbrev pub nodes_of : List ℕ → List ℕ
nodes_of words = nodes_from 0 words

-- eight words of 64 bits
pub record AreWords (words : List ℕ) : Type 0 where
  pub count : length words ≡ 8
  pub small : All (λ word. word < 2 ^ 64) words

-- the number whose digits the words are, the lowest first
unfoldable digits_number : List ℕ → ℕ
digits_number [] = 0
digits_number (word ∷ words) = word + 2 ^ 64 * digits_number words

-- so many digits of a number, as words, the lowest first
unfoldable pub words_in : ℕ → ℕ → List ℕ
words_in zero number = []
words_in (suc count) number = number % 2 ^ 64 ∷ words_in count (number / 2 ^ 64)

-- the words that keep the nodes
abbrev pub words_keeping : List ℕ → List ℕ
words_keeping nodes = words_in 8 (bits_of nodes)

-- members that begin further up are worth more by a power of two
bits_of-shifted : (first : ℕ) (members : List ℕ)
    → bits_of (map (λ index. first + index) members) ≡ 2 ^ first * bits_of members
bits_of-shifted first [] = sym (mul-zero (2 ^ first))
bits_of-shifted first (index ∷ indexes) =
    sum_by-cons (λ p. 2 ^ p) (first + index) (map (λ p. first + p) indexes)
    ∙ ap (λ low. low + bits_of (map (λ p. first + p) indexes)) (pow-add 2 first index)
    ∙ ap (λ high. 2 ^ first * 2 ^ index + high) (bits_of-shifted first indexes)
    ∙ sym (mul-add (2 ^ first) (2 ^ index) (bits_of indexes))
    ∙ ap (λ bits. 2 ^ first * bits) (sym (sum_by-cons (λ p. 2 ^ p) index indexes))

-- the nodes that words keep are worth what those words are
bits_of-nodes_from : (first : ℕ) (words : List ℕ) → All (λ word. word < 2 ^ 64) words
    → bits_of (nodes_from first words) ≡ 2 ^ first * digits_number words
unfolding nodes_from digits_number
bits_of-nodes_from first [] small = sym (mul-zero (2 ^ first))
bits_of-nodes_from first (word ∷ words) small =
    sum_by-append (λ index. 2 ^ index) (map (λ index. first + index) (members_of word)) (nodes_from (first + 64) words)
    ∙ ap (λ low. low + bits_of (nodes_from (first + 64) words))
    (bits_of-shifted first (members_of word) ∙ ap (λ bits. 2 ^ first * bits)
    (bits_of-members_of word (All-head (λ w. w < 2 ^ 64) word words small)))
    ∙ ap (λ high. 2 ^ first * word + high)
    (bits_of-nodes_from (first + 64) words (All-tail (λ w. w < 2 ^ 64) word words small)
    ∙ ap (λ power. power * digits_number words) (pow-add 2 first 64)
    ∙ mul_assoc (2 ^ first) (2 ^ 64) (digits_number words))
    ∙ sym (mul-add (2 ^ first) word (2 ^ 64 * digits_number words))

-- the digits of a number are the words of which it is made
words_in-digits_number : (words : List ℕ) → All (λ word. word < 2 ^ 64) words
    → words_in (length words) (digits_number words) ≡ words
unfolding words_in digits_number
words_in-digits_number [] small = refl
words_in-digits_number (word ∷ words) small =
    ap (λ first. first ∷ words_in (length words) ((word + 2 ^ 64 * digits_number words) / 2 ^ 64))
    (add-mul-mod_self_left word (2 ^ 64) (digits_number words) ∙ mod-eq_of_lt (All-head (λ w. w < 2 ^ 64) word words small))
    ∙ ap (λ number. word ∷ words_in (length words) number)
    (add-mul-div_left word (digits_number words) (lit< tt) ∙ ap (λ low. low + digits_number words)
    (div-eq_of_lt (All-head (λ w. w < 2 ^ 64) word words small)) ∙ zero-add (digits_number words))
    ∙ ap (λ others. word ∷ others) (words_in-digits_number words (All-tail (λ w. w < 2 ^ 64) word words small))

-- The words can be had back from the nodes.
pub words_keeping-nodes_of : (words : List ℕ) → AreWords words → words_keeping (nodes_of words) ≡ words
words_keeping-nodes_of words are =
    ap (words_in 8) (bits_of-nodes_from 0 words are.small ∙ one-mul (digits_number words))
    ∙ ap (λ count. words_in count (digits_number words)) (sym are.count)
    ∙ words_in-digits_number words are.small
