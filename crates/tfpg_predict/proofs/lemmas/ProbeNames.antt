-- The names of probes: each is a name, and not too many are taken.
use Rattle.std.proofs.Common.{◌≡◌, ℕ, ◌+◌, ◌^◌, ◌<◌, ◌≤◌, true, List, [], ◌∷◌, ◌++◌, length, map, drop, Option, Some, None, IsTrue, unwrap_or, codes, refl, sym, ap, ◌∙◌, subst, arith, length-append, ⊎_elim}
use Rattle.std.specs.Prelude.{decimal, nat_lt, is_some}
use Rattle.std.specs.Char.{is_ascii_digit}
use Rattle.std.specs.List.{list_all, range_with_len}
use Rattle.std.proofs.lemmas.Bool.{false≢true, and_from, and_parts, or_left, or_right, lt-ltb}
use Rattle.std.proofs.lemmas.Fmt.{decimal_injective}
use Rattle.std.proofs.lemmas.List.FromFn.{length-map-range_with_len, get_or-map-range_with_len}
use Rattle.tfpg_base.specs.Words.{is_name, is_letter, is_name_byte}
use Rattle.tfpg_base.specs.declared.limits.TheConstants.{LONGEST_NAME}
use Rattle.tfpg_base.proofs.lemmas.Numbers.{is_number-decimal, AllDigits-from_number}
use Rattle.tfpg_base.proofs.lemmas.lists.Sequences.{below_or_last}
use Rattle.tfpg_graph.specs.declared.limits.TheConstants.{MAX_NODES}
use Rattle.tfpg_base.proofs.lemmas.WordLengths.{number_short}
use Rattle.tfpg_base.proofs.lemmas.lists.Digits.{list_all-from_AllDigits}
use Rattle.tfpg_base.proofs.lemmas.lists.Distinct.{length-le_distinct}
use Rattle.tfpg_graph.specs.Graph.{Tfpg, node_named}
use Rattle.tfpg_graph.proofs.lemmas.declaring.Named.{named_found, node_named-same}
use Rattle.tfpg_predict.specs.Probed.{probe_word}

-- digits may stand in a name
digits_in_name : (word : List ℕ) → list_all is_ascii_digit word ≡ true → list_all is_name_byte word ≡ true
digits_in_name [] digits = refl
digits_in_name (byte ∷ word) digits =
    let parts = and_parts (is_ascii_digit byte) (list_all is_ascii_digit word) digits in
    and_from (is_name_byte byte) (list_all is_name_byte word) (or_right (is_letter byte) _ (or_left (is_ascii_digit byte) _ parts.0)) (digits_in_name word parts.1)

-- a small number stands in a name
decimal_in_name : (number : ℕ) → number < 2 ^ 32 → list_all is_name_byte (decimal number) ≡ true
decimal_in_name number small =
    digits_in_name (decimal number) (list_all-from_AllDigits (decimal number) (AllDigits-from_number (decimal number) (is_number-decimal number (omega (arith, small)))))

-- the name of a probe is a name
pub is_name-probe : (number : ℕ) → number < 2 ^ 32 → IsTrue (is_name (probe_word number))
is_name-probe number small =
    and_from (list_all is_name_byte (codes "robe." ++ decimal number)) (nat_lt (length (codes "robe." ++ decimal number)) LONGEST_NAME)
    (decimal_in_name number small)
    (let short = number_short number (omega (arith, small)) in
    lt-ltb (length (codes "robe." ++ decimal number)) LONGEST_NAME (omega (arith, length-append (codes "robe.") (decimal number), short)))

-- probes of different numbers have different names
pub probe_word-injective : (one other : ℕ) → one < 2 ^ 32 → other < 2 ^ 32 → probe_word one ≡ probe_word other → one ≡ other
probe_word-injective one other one_small other_small same =
    decimal_injective one other (omega (arith, one_small)) (omega (arith, other_small)) (ap (drop 6) same)

module _ (graph : Tfpg) where
  -- the node of the name of a number
  abbrev named_at : ℕ → ℕ
  named_at number = unwrap_or (node_named graph (probe_word number)) 0

  -- a name that is taken is that of a node
  named_there : (number : ℕ) → (node_named graph (probe_word number) ≡ None → ⊥) → node_named graph (probe_word number) ≡ Some (named_at number)
  named_there number taken = by (node_named graph (probe_word number)) taken
    where
      by : (found : Option ℕ) → (found ≡ None → ⊥) → found ≡ Some (unwrap_or found 0)
      by None none = absurd (none refl)
      by (Some node) none = refl

  -- Where all lesser names are taken, there are as many nodes.
  pub taken_few : (number : ℕ) → number < 2 ^ 32 → ((lesser : ℕ) → lesser < number → node_named graph (probe_word lesser) ≡ None → ⊥) → number ≤ length graph.nodes
  taken_few number small taken =
      let count = length-map-range_with_len named_at 0 number in
      let all : length (map named_at (range_with_len 0 number)) ≤ length graph.nodes =
      length-le_distinct (map named_at (range_with_len 0 number)) (length graph.nodes)
      (λ i j d before within same.
      let last : j < number = omega (arith, within, count) in
      let first : i < number = omega (arith, before, last) in
      let one = get_or-map-range_with_len named_at 0 number i i d first (omega arith) in
      let other = get_or-map-range_with_len named_at 0 number j j d last (omega arith) in
      let words = node_named-same graph (probe_word i) (probe_word j) (named_at i) (named_at j) (named_there i (taken i first)) (named_there j (taken j last)) (sym one ∙ same ∙ other) in
      let numbers = probe_word-injective i j (omega (arith, first, small)) (omega (arith, last, small)) words in
      omega (arith, before, numbers))
      (λ i d within.
      let inside : i < number = omega (arith, within, count) in
      subst (λ (n : ℕ). n < length graph.nodes) (sym (get_or-map-range_with_len named_at 0 number i i d inside (omega arith)))
      (named_found graph (probe_word i) (named_at i) (named_there i (taken i inside))).0) in
      omega (arith, all, count)

-- the names before a number are taken
abbrev pub AreTakenBefore : Tfpg → ℕ → Type 0
AreTakenBefore graph number = (lesser : ℕ) → lesser < number → node_named graph (probe_word lesser) ≡ None → ⊥

-- one name more is taken
pub taken_more : (graph : Tfpg) (number : ℕ) (name : List ℕ) → name ≡ probe_word number → AreTakenBefore graph number → is_some (node_named graph name) ≡ true
    → AreTakenBefore graph (number + 1)
taken_more graph number name is taken found lesser less none = ⊎_elim
    (λ before. taken lesser before none)
    (λ same. false≢true (ap is_some (sym none ∙ ap (λ (n : ℕ). node_named graph (probe_word n)) same ∙ ap (node_named graph) (sym is)) ∙ found))
    (below_or_last lesser number less)

-- so there are as many nodes
pub taken_within : (graph : Tfpg) (number : ℕ) → length graph.nodes ≤ MAX_NODES → number < 2 ^ 32 → AreTakenBefore graph (number + 1) → number + 1 ≤ length graph.nodes
taken_within graph number few small taken =
    let upto = taken_few graph number small (λ lesser less. taken lesser (omega (arith, less))) in
    taken_few graph (number + 1) (omega (arith, upto, few)) taken
