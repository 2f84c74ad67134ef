-- Which nodes words keep, how many, and which words keep a subset.
use Rattle.std.proofs.Common.{◌≡◌, ◌≢◌, ℕ, suc, zero, ◌+◌, ◌*◌, ◌/◌, ◌%◌, ◌<◌, ◌≤◌, ◌^◌, lit<, List, [], ◌∷◌, ◌++◌, length, map, get_or, set, bit_and, bit_or, count_ones, length-append, nat_eq, ◌↔◌, ⊎_elim, IsTrue, refl, arith, sym, ◌∙◌, ap, subst, zero-add}
use Rattle.std.specs.List.{Contains, All, sum_by}
use Rattle.std.proofs.lemmas.Bool.{cases_eq}
use Rattle.std.proofs.lemmas.List.{length-set, get_or-set_same, get_or-set_other, length-map}
use Rattle.std.proofs.lemmas.List.Sums.{sum_by-cons}
use Rattle.std.proofs.lemmas.List.Elements.{All-nil, All-head, All-tail, All-set, All-get_or, All-contains, Contains-append_left, Contains-append_right, Contains-append_cases}
use Rattle.std.proofs.lemmas.Nat.{or_lt, mod_below}
use Rattle.tfpg_base.specs.Set.{with_member, IsSubset}
use Rattle.tfpg_base.specs.SetBits.{members_of}
use Rattle.tfpg_base.proofs.lemmas.lists.Distinct.{length-le_distinct}
use Rattle.tfpg_base.proofs.lemmas.lists.Elements.{All-from_members, Contains-nil}
use Rattle.tfpg_base.proofs.lemmas.lists.Ordered.{AllPairs-append, Rises-differ, Rises-shifted}
use Rattle.tfpg_base.proofs.lemmas.Sets.{Rises, same_from_members, Contains-with_member, with_member-keeps, with_member-only, Rises-with_member, IsSet-members_of, members_of-is, members_of-zero, members_of-set, bit_says_member, All-with_member, length-members_of, IsSubset-from_bits, bits_from_IsSubset}
use Rattle.tfpg_base.specs.declared.limits.TheConstants.{MAX_NODE_NUMBERS}
use Rattle.tfpg_base.specs.NodeSet.{IsNodeSet}
use Rattle.tfpg_base.specs.inside.NodeWords.{nodes_from, nodes_of, AreWords}
use Rattle.tfpg_base.proofs.lemmas.lists.Images.{Contains-map, Contains-map_only}

-- A set of nodes has at most as many as a graph.
pub IsNodeSet-few : (nodes : List ℕ) → IsNodeSet nodes → length nodes ≤ MAX_NODE_NUMBERS
IsNodeSet-few nodes set = length-le_distinct nodes MAX_NODE_NUMBERS (Rises-differ nodes set.rising) set.small

-- the set without a node is a set of nodes
pub IsNodeSet-nil : IsNodeSet []
IsNodeSet-nil = record { rising = λ i j d before within. absurd (omega arith); small = All-nil (λ node. node < MAX_NODE_NUMBERS) }

-- a set of nodes with a node more is one
pub IsNodeSet-with : (node : ℕ) (nodes : List ℕ) → node < MAX_NODE_NUMBERS → IsNodeSet nodes → IsNodeSet (with_member node nodes)
IsNodeSet-with node nodes small set = record {
  rising = Rises-with_member node nodes set.rising;
  small = All-with_member (λ n. n < MAX_NODE_NUMBERS) node nodes small set.small;
}

-- ---- the nodes that words keep

-- where words keep a node: in which word, and at which index
record KeptAt (first : ℕ) (words : List ℕ) (node : ℕ) : Type 0 where
  word : ℕ
  index : ℕ
  within : word < length words
  small : index < 64
  is : node ≡ first + (64 * word + index)
  member : Contains (members_of (get_or words word 0)) index

-- what words keep stands at an index in a word
nodes_from-only : (first : ℕ) (words : List ℕ) (node : ℕ) → Contains (nodes_from first words) node
    → KeptAt first words node
unfolding nodes_from
nodes_from-only first [] node kept = absurd (Contains-nil node kept)
nodes_from-only first (word ∷ words) node kept =
    ⊎_elim (λ here. let old = Contains-map_only (λ index. first + index) (members_of word) node here in
    record {
      word = 0;
      index = old.0;
      within = omega arith;
      small = ((members_of-is word old.0).0 old.1).0;
      is = omega (arith, old.2);
      member = old.1;
    })
    (λ later. let old = nodes_from-only (first + 64) words node later in
    record {
      word = suc old.word;
      index = old.index;
      within = omega (arith, old.within);
      small = old.small;
      is = omega (arith, old.is);
      member = old.member;
    })
    (Contains-append_cases (map (λ index. first + index) (members_of word)) (nodes_from (first + 64) words) node kept)

-- what stands at an index in a word is kept
nodes_from-all : (first : ℕ) (words : List ℕ) (word index node : ℕ) → word < length words
    → Contains (members_of (get_or words word 0)) index → node ≡ first + (64 * word + index)
    → Contains (nodes_from first words) node
unfolding nodes_from
nodes_from-all first [] word index node within member is = absurd (omega arith)
nodes_from-all first (w ∷ words) zero index node within member is =
    let here : node ≡ first + index = omega arith in
    Contains-append_left (map (λ p. first + p) (members_of w)) (nodes_from (first + 64) words) node
    (rw here (Contains-map (λ p. first + p) (members_of w) index member))
nodes_from-all first (w ∷ words) (suc word) index node within member is =
    Contains-append_right (map (λ p. first + p) (members_of w)) (nodes_from (first + 64) words) node
    (nodes_from-all (first + 64) words word index node (omega arith) member (omega arith))

-- the nodes that words keep rise
Rises-nodes_from : (first : ℕ) (words : List ℕ) → Rises (nodes_from first words)
unfolding nodes_from
Rises-nodes_from first [] = λ i j d before within. absurd (omega arith)
Rises-nodes_from first (word ∷ words) =
    AllPairs-append ◌<◌ (map (λ index. first + index) (members_of word)) (nodes_from (first + 64) words)
    (Rises-shifted first (members_of word) (IsSet-members_of word).rising) (Rises-nodes_from (first + 64) words)
    (λ x y in_x in_y. let low = Contains-map_only (λ index. first + index) (members_of word) x in_x in
    let high = nodes_from-only (first + 64) words y in_y in
    omega (arith, low.2, ((members_of-is word low.0).0 low.1).0, high.is))

-- what eight words keep is a set of nodes
IsNodeSet-nodes_of : (words : List ℕ) → length words ≡ 8 → IsNodeSet (nodes_of words)
IsNodeSet-nodes_of words count = record {
  rising = Rises-nodes_from 0 words;
  small = All-from_members (λ node. node < MAX_NODE_NUMBERS) (nodes_of words)
      (λ node kept. let at = nodes_from-only 0 words node kept in omega (arith, at.is, at.small, at.within, count));
}

-- the members of the word in which a node stands
abbrev word_of : List ℕ → ℕ → List ℕ
word_of words node = members_of (get_or words (node / 64) 0)

-- a node stands in the word of its number
node_in_word : (words : List ℕ) (node : ℕ) → Contains (nodes_of words) node → Contains (word_of words node) (node % 64)
node_in_word words node kept =
    let at = nodes_from-only 0 words node kept in
    let word : node / 64 ≡ at.word = omega (arith, at.is, at.small) in
    let index : node % 64 ≡ at.index = omega (arith, at.is, at.small) in
    rw (word, index) at.member

-- and that is one of the words
word_within : (words : List ℕ) (node : ℕ) → Contains (nodes_of words) node → node / 64 < length words
word_within words node kept = let at = nodes_from-only 0 words node kept in omega (arith, at.is, at.small, at.within)

-- what stands in the word of its number is kept
node_from_word : (words : List ℕ) (node : ℕ) → node / 64 < length words → Contains (word_of words node) (node % 64)
    → Contains (nodes_of words) node
node_from_word words node within member = nodes_from-all 0 words (node / 64) (node % 64) node within member (omega arith)

-- ---- a node more

-- one word with one more bit
abbrev with_bit : ℕ → ℕ → ℕ
with_bit word index = bit_or word (1 * 2 ^ index % 2 ^ 64)

-- the words with the bit of one more node
abbrev pub with_node_bit : List ℕ → ℕ → List ℕ
with_node_bit words node = set words (node / 64) (with_bit (get_or words (node / 64) 0) (node % 64))

length-with_node_bit : (words : List ℕ) (node : ℕ) → length (with_node_bit words node) ≡ length words
length-with_node_bit words node = length-set words (node / 64) (with_bit (get_or words (node / 64) 0) (node % 64))

module _ (words : List ℕ) (node other : ℕ) (within : node / 64 < length words) where
  -- the word of the node has one member more
  word_of-same : other / 64 ≡ node / 64
      → word_of (with_node_bit words node) other ≡ with_member (node % 64) (word_of words other)
  word_of-same same =
      ap (λ k. members_of (get_or (with_node_bit words node) k 0)) same
      ∙ ap members_of (get_or-set_same words (node / 64) (with_bit (get_or words (node / 64) 0) (node % 64)) 0 within)
      ∙ members_of-set (get_or words (node / 64) 0) (node % 64) (omega arith)
      ∙ ap (λ k. with_member (node % 64) (members_of (get_or words k 0))) (sym same)

  -- the other words stay
  word_of-other : other / 64 ≢ node / 64 → word_of (with_node_bit words node) other ≡ word_of words other
  word_of-other differs =
      ap members_of (get_or-set_other words (node / 64) (other / 64)
      (with_bit (get_or words (node / 64) 0) (node % 64)) 0 differs)

  -- what is kept then is the node, or was kept
  with_node_bit-only : Contains (nodes_of (with_node_bit words node)) other
      → Contains (with_member node (nodes_of words)) other
  with_node_bit-only kept =
      let more = with_node_bit words node in
      let member = node_in_word more other kept in
      let inside : other / 64 < length words = omega (arith, word_within more other kept, length-with_node_bit words node) in
      let stays = λ (old : Contains (word_of words other) (other % 64)).
      with_member-keeps node (nodes_of words) other (node_from_word words other inside old) in
      ⊎_elim
      (λ same. ⊎_elim
      (λ is. let whole : node ≡ other = omega (arith, same, is) in
      subst (λ (n : ℕ). Contains (with_member node (nodes_of words)) n) whole
      (Contains-with_member node (nodes_of words)))
      stays
      (with_member-only (node % 64) (word_of words other) (other % 64)
      (subst (λ (zs : List ℕ). Contains zs (other % 64)) (word_of-same same) member)))
      (λ differs. stays (subst (λ (zs : List ℕ). Contains zs (other % 64)) (word_of-other differs) member))
      (cases_eq (other / 64) (node / 64))

  -- the node is kept then, and all that was
  with_node_bit-all : Contains (with_member node (nodes_of words)) other
      → Contains (nodes_of (with_node_bit words node)) other
  with_node_bit-all member =
      let more = with_node_bit words node in
      let long = length-with_node_bit words node in
      let new_word = with_member (node % 64) (word_of words other) in
      let in_same = λ (same : other / 64 ≡ node / 64) (there : Contains new_word (other % 64)).
      node_from_word more other (omega (arith, long, same, within))
      (subst (λ (zs : List ℕ). Contains zs (other % 64)) (sym (word_of-same same)) there) in
      ⊎_elim
      (λ is. let index : node % 64 ≡ other % 64 = omega (arith, is) in
      in_same (omega (arith, is)) (subst (λ (p : ℕ). Contains new_word p) index
      (Contains-with_member (node % 64) (word_of words other))))
      (λ old. let there = node_in_word words other old in
      ⊎_elim
      (λ same. in_same same (with_member-keeps (node % 64) (word_of words other) (other % 64) there))
      (λ differs. node_from_word more other (omega (arith, long, word_within words other old))
      (subst (λ (zs : List ℕ). Contains zs (other % 64)) (sym (word_of-other differs)) there))
      (cases_eq (other / 64) (node / 64)))
      (with_member-only node (nodes_of words) other member)

-- To set the bit of a node is to have one node more.
nodes_of-set : (words : List ℕ) (node : ℕ) → node / 64 < length words
    → nodes_of (with_node_bit words node) ≡ with_member node (nodes_of words)
nodes_of-set words node within =
    same_from_members (nodes_of (with_node_bit words node)) (with_member node (nodes_of words))
    (Rises-nodes_from 0 (with_node_bit words node)) (Rises-with_member node (nodes_of words) (Rises-nodes_from 0 words))
    (λ other. with_node_bit-only words node other within) (λ other. with_node_bit-all words node other within)

-- ---- what the operations on words say of the nodes

-- words without a bit keep no node
pub nodes_of-zero : nodes_of (0 ∷ 0 ∷ 0 ∷ 0 ∷ 0 ∷ 0 ∷ 0 ∷ 0 ∷ []) ≡ []
unfolding nodes_from
nodes_of-zero = simp members_of-zero

module _ (words nodes : List ℕ) (are : AreWords words) (view : nodes_of words ≡ nodes) where
  -- what eight words keep is a set of nodes
  pub IsNodeSet-from_words : IsNodeSet nodes
  IsNodeSet-from_words = rw (← view) (IsNodeSet-nodes_of words are.count)

  -- the bit of a node says whether it is kept
  pub bit_says_node : (node : ℕ) → node < MAX_NODE_NUMBERS
      → IsTrue (nat_eq (bit_and (get_or words (node / 64) 0 / 2 ^ (node % 64)) 1) 1) ↔ Contains nodes node
  bit_says_node node small =
      let by_bit = bit_says_member (get_or words (node / 64) 0) (node % 64) (word_of words node) refl (omega arith) in
      let within : node / 64 < length words = omega (arith, are.count) in
      rw (← view) (λ yes. node_from_word words node within (by_bit.0 yes), λ kept. by_bit.1 (node_in_word words node kept))

  -- no node from the limit on is kept
  pub beyond_no_node : (node : ℕ) → MAX_NODE_NUMBERS ≤ node → Contains nodes node → ⊥
  beyond_no_node node beyond member = omega (
    arith,
    beyond,
    All-contains
        (λ n. n < MAX_NODE_NUMBERS) nodes node IsNodeSet-from_words.small member,
  )

  -- the words with the bit of a node keep the set with that node
  pub with_bit_keeps_node : (node : ℕ) → node < MAX_NODE_NUMBERS → nodes_of (with_node_bit words node) ≡ with_member node nodes
  with_bit_keeps_node node small = nodes_of-set words node (omega (arith, are.count)) ∙ ap (with_member node) view

  -- which is a set of nodes
  pub IsNodeSet-with_bit : (node : ℕ) → node < MAX_NODE_NUMBERS → IsNodeSet (nodes_of (with_node_bit words node))
  IsNodeSet-with_bit node small = IsNodeSet-nodes_of (with_node_bit words node)
      (length-with_node_bit words node ∙ are.count)

-- ---- the least node

module _ (low rest : ℕ) where
  -- what words keep whose first one with a bit is split
  nodes_from-split : (first : ℕ) (words : List ℕ) (number : ℕ) → number < length words → ((k : ℕ) → k < number → get_or words k 0 ≡ 0)
      → members_of (get_or words number 0) ≡ low ∷ members_of rest → nodes_from first words ≡ (first + (number * 64 + low)) ∷ nodes_from first (set words number rest)
  unfolding nodes_from
  nodes_from-split first [] number within none split = absurd (omega arith)
  nodes_from-split first (word ∷ words) zero within none split =
      let at : first + low ≡ first + (0 * 64 + low) = omega arith in
      ap (λ ms. map (λ index. first + index) ms ++ nodes_from (first + 64) words) split
      ∙ ap (λ n. n ∷ (map (λ index. first + index) (members_of rest) ++ nodes_from (first + 64) words)) at
  nodes_from-split first (word ∷ words) (suc number) within none split =
      let empty : members_of word ≡ [] = ap members_of (none 0 (omega arith)) ∙ members_of-zero in
      let at : first + 64 + (number * 64 + low) ≡ first + (suc number * 64 + low) = omega arith in
      let later : List ℕ = nodes_from (first + 64) (set words number rest) in
      ap (λ ms. map (λ index. first + index) ms ++ nodes_from (first + 64) words) empty
      ∙ nodes_from-split (first + 64) words number (omega (arith, within)) (λ k before. none (suc k) (omega (arith, before))) split
      ∙ ap (λ n. n ∷ later) at
      ∙ ap (λ ns. (first + (suc number * 64 + low)) ∷ ns) (sym (ap (λ ms. map (λ index. first + index) ms ++ later) empty))

-- words without a bit keep nothing
nodes_from-none : (first : ℕ) (words : List ℕ) → ((k : ℕ) → k < length words → get_or words k 0 ≡ 0) → nodes_from first words ≡ []
unfolding nodes_from
nodes_from-none first [] none = refl
nodes_from-none first (word ∷ words) none =
    ap (λ ms. map (λ index. first + index) ms ++ nodes_from (first + 64) words) (ap members_of (none 0 (omega arith)) ∙ members_of-zero)
    ∙ nodes_from-none (first + 64) words (λ k within. none (suc k) (omega (arith, within)))

module _ (words nodes : List ℕ) (are : AreWords words) (view : nodes_of words ≡ nodes) where
  -- The lowest bit of the first word with one is that of the least node, and without it the others are left.
  pub words_split : (number low rest : ℕ) → number < 8 → ((k : ℕ) → k < number → get_or words k 0 ≡ 0)
      → members_of (get_or words number 0) ≡ low ∷ members_of rest → nodes ≡ (number * 64 + low) ∷ nodes_of (set words number rest)
  words_split number low rest within none split =
      sym view ∙ nodes_from-split low rest 0 words number (omega (arith, within, are.count)) none split
      ∙ ap (λ n. n ∷ nodes_of (set words number rest)) (zero-add (number * 64 + low))

  -- Where no word has a bit there is no node.
  pub words_without_bits : ((k : ℕ) → k < 8 → get_or words k 0 ≡ 0) → nodes ≡ []
  words_without_bits none = sym view ∙ nodes_from-none 0 words (λ k within. none k (omega (arith, within, are.count)))

  -- Words stay words where one is written.
  pub AreWords-set : (number word : ℕ) → word < 2 ^ 64 → AreWords (set words number word)
  AreWords-set number word small = record {
    count = length-set words number word ∙ are.count;
    small = All-set (λ w. w < 2 ^ 64) words number word small are.small;
  }

-- ---- how many nodes words keep

-- words keep as many nodes as they have ones
length-nodes_from : (first : ℕ) (words : List ℕ) → All (λ word. word < 2 ^ 64) words
    → length (nodes_from first words) ≡ sum_by count_ones words
unfolding nodes_from
length-nodes_from first [] small = refl
length-nodes_from first (word ∷ words) small =
    length-append (map (λ index. first + index) (members_of word)) (nodes_from (first + 64) words)
    ∙ ap (λ here. here + length (nodes_from (first + 64) words))
    (length-map (members_of word) (λ index. first + index) ∙ length-members_of word (All-head (λ w. w < 2 ^ 64) word words small))
    ∙ ap (λ later. count_ones word + later) (length-nodes_from (first + 64) words (All-tail (λ w. w < 2 ^ 64) word words small))
    ∙ sym (sum_by-cons count_ones word words)

-- The ones of eight words say how many nodes they keep.
pub ones_say_count : (words nodes : List ℕ) → AreWords words → nodes_of words ≡ nodes → sum_by count_ones words ≡ length nodes
ones_say_count words nodes are view = sym (length-nodes_from 0 words are.small) ∙ ap length view

-- ---- subsets

-- No bit is lost by taking the bits of both, in each of these words.
abbrev pub KeepsBits : List ℕ → List ℕ → ℕ → Type 0
KeepsBits one other end = (number : ℕ) → number < end
    → bit_and (get_or one number 0) (get_or other number 0) ≡ get_or one number 0

module _ (one other xs ys : List ℕ) (are_one : AreWords one) (are_other : AreWords other)
    (view_one : nodes_of one ≡ xs) (view_other : nodes_of other ≡ ys) where
  -- Where no bit of eight words is lost, each node is one of the other set.
  pub IsSubset-from_words : KeepsBits one other 8 → IsSubset xs ys
  IsSubset-from_words kept =
      rw (← view_one, ← view_other) (All-from_members (Contains (nodes_of other)) (nodes_of one)
      (λ node member. let within = word_within one node member in
      let here : node / 64 < 8 = omega (arith, within, are_one.count) in
      node_from_word other node (omega (arith, here, are_other.count))
      (All-contains (Contains (word_of other node)) (word_of one node) (node % 64)
      (IsSubset-from_bits (get_or one (node / 64) 0) (get_or other (node / 64) 0) (kept (node / 64) here))
      (node_in_word one node member))))

  -- Where each node is one of the other set, no bit of a word is lost.
  pub bits_kept_by_IsSubset : IsSubset xs ys → KeepsBits one other 8
  bits_kept_by_IsSubset subset number within =
      let long : number < length one = omega (arith, within, are_one.count) in
      let same : IsSubset (nodes_of one) (nodes_of other) = rw (view_one, view_other) subset in
      bits_from_IsSubset (get_or one number 0) (get_or other number 0)
      (All-get_or (λ w. w < 2 ^ 64) one number 0 long are_one.small)
      (All-from_members (Contains (members_of (get_or other number 0))) (members_of (get_or one number 0))
      (λ index member. let small = ((members_of-is (get_or one number 0) index).0 member).0 in
      let node = 64 * number + index in
      let kept = All-contains (Contains (nodes_of other)) (nodes_of one) node same
      (nodes_from-all 0 one number index node long member (omega arith)) in
      let there = node_in_word other node kept in
      let word : node / 64 ≡ number = omega (arith, small) in
      let place : node % 64 ≡ index = omega (arith, small) in
      subst (λ (k : ℕ). Contains (members_of (get_or other k 0)) index) word
      (subst (λ (p : ℕ). Contains (word_of other node) p) place there)))

-- ---- words stay words

-- words stay words when a bit is set
pub AreWords-with_bit : (words : List ℕ) (node : ℕ) → node < MAX_NODE_NUMBERS → AreWords words → AreWords (with_node_bit words node)
AreWords-with_bit words node small are = record {
  count = length-with_node_bit words node ∙ are.count;
  small =
      let word = get_or words (node / 64) 0 in
      let within : node / 64 < length words = omega (arith, are.count) in
      let bit_small = mod_below (1 * 2 ^ (node % 64)) (2 ^ 64) (lit< tt) in
      All-set (λ w. w < 2 ^ 64) words (node / 64) (with_bit word (node % 64))
      (or_lt 64 word (1 * 2 ^ (node % 64) % 2 ^ 64) (All-get_or (λ w. w < 2 ^ 64) words
      (node / 64) 0 within are.small) bit_small) are.small;
}
