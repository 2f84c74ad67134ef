-- Bits that say who is a member, word by word.
use Rattle.std.proofs.Common.{◌≡◌, ℕ, ◌*◌, ◌/◌, ◌%◌, ◌<◌, ◌≤◌, ◌^◌, List, [], ◌∷◌, length, get_or, set, replicate, ◌⊎◌, ◌↔◌, inl, inr, ⊎_elim, bit_or, w64, true, false, nat_le, nat_lt, IsTrue, refl, arith, sym, ◌∙◌, ap, subst}
use Rattle.std.specs.Int.{bit_at}
use Rattle.std.specs.List.{Contains, All}
use Rattle.std.specs.Prelude.{map}
use Rattle.std.proofs.lemmas.Bool.{and_parts, cases_eq, cases_lt, false≢true, lt-leb, ltb-true}
use Rattle.std.proofs.lemmas.List.{get_or_past, get_or-replicate, get_or-set_same, get_or-set_other, length-map}
use Rattle.std.proofs.lemmas.List.Elements.{All-contains, All-map}
use Rattle.std.proofs.lemmas.List.FromFn.{length-map-range_with_len}
use Rattle.std.proofs.lemmas.Nat.Bits.{bit_at-zero, bit_at_set_same, bit_at_set_other}
use Rattle.tfpg_base.proofs.lemmas.lists.Distinct.{length-le_distinct}
use Rattle.tfpg_base.proofs.lemmas.lists.Elements.{Contains-cons_cases, Contains-head, Contains-nil, Contains-tail}
use Rattle.tfpg_base.proofs.lemmas.lists.Images.{AllPairs-map}
use Rattle.tfpg_base.proofs.lemmas.lists.Ordered.{Rises-differ}
use Rattle.tfpg_base.specs.Trace.{IsRisingByNode}
use Rattle.tfpg_base.specs.declared.activation.Activation.{Activation}
use Rattle.tfpg_base.specs.declared.limits.TheConstants.{MAX_MEMBERS}
use Rattle.tfpg_evidence.specs.declared.finding.Status.{Status}
use Rattle.tfpg_evidence.specs.declared.finding.Status.TheVariants.{Ranked, Covered, Rejected, Open}
use Rattle.tfpg_evidence.specs.RoundOf.{is_ranked}
use Rattle.tfpg_embed.specs.Ranking.{HasNodeBit, IsMask, is_short, time_or_never, times_in, times_of_status}
use Rattle.tfpg_embed.specs.Rooms.{room_after}

-- A word with one more bit has that bit and those that it had.
pub set_bit_is : (word index other : ℕ) → index < 64 → (bit_at (bit_or word (1 * 2 ^ index % 2 ^ 64)) other ≡ 1) ↔ ((bit_at word other ≡ 1) ⊎ (other ≡ index))
set_bit_is word index other small = (
  λ one. ⊎_elim (λ same. inr same) (λ unlike. inl (sym (bit_at_set_other w64 word index small other unlike) ∙ one)) (cases_eq other index),
  λ either.
      let here = λ (same : other ≡ index). subst (λ (n : ℕ). bit_at (bit_or word (1 * 2 ^ index % 2 ^ 64)) n ≡ 1) (sym same) (bit_at_set_same w64 word index small) in
      ⊎_elim (λ old. ⊎_elim here (λ unlike. bit_at_set_other w64 word index small other unlike ∙ old) (cases_eq other index)) here either,
)

-- Words with the bit of one more node have that bit and those that they had.
pub set_node_is : (words : List ℕ) (node word other : ℕ) → node / 64 < length words
    → ((index : ℕ) → (bit_at word index ≡ 1) ↔ ((bit_at (get_or words (node / 64) 0) index ≡ 1) ⊎ (index ≡ node % 64)))
    → HasNodeBit (set words (node / 64) word) other ↔ (HasNodeBit words other ⊎ (other ≡ node))
set_node_is words node word other within new =
    let later = set words (node / 64) word in
    let here = get_or-set_same words (node / 64) word 0 within in
    ⊎_elim
    (λ same. let read : get_or later (other / 64) 0 ≡ word = ap (λ (n : ℕ). get_or later n 0) same ∙ here in
    let was : get_or words (node / 64) 0 ≡ get_or words (other / 64) 0 = ap (λ (n : ℕ). get_or words n 0) (sym same) in (
      λ one. ⊎_elim (λ old. inl (subst (λ (w : ℕ). bit_at w (other % 64) ≡ 1) was old)) (λ low. inr (omega (arith, same, low)))
          ((new (other % 64)).0 (subst (λ (w : ℕ). bit_at w (other % 64) ≡ 1) read one)),
      λ either. subst (λ (w : ℕ). bit_at w (other % 64) ≡ 1) (sym read)
          ((new (other % 64)).1 (⊎_elim (λ old. inl (subst (λ (w : ℕ). bit_at w (other % 64) ≡ 1) (sym was) old)) (λ is. inr (ap (λ (n : ℕ). n % 64) is)) either)),
    ))
    (λ unlike. let read : get_or later (other / 64) 0 ≡ get_or words (other / 64) 0 = get_or-set_other words (node / 64) (other / 64) word 0 unlike in (
      λ one. inl (subst (λ (w : ℕ). bit_at w (other % 64) ≡ 1) read one),
      λ either. ⊎_elim (λ old. subst (λ (w : ℕ). bit_at w (other % 64) ≡ 1) (sym read) old) (λ is. absurd (unlike (ap (λ (n : ℕ). n / 64) is))) either,
    ))
    (cases_eq (other / 64) (node / 64))

-- words of zeros have none
abbrev pub zeros : List ℕ
zeros = replicate 8 0

pub no_node_bit : (node : ℕ) → HasNodeBit zeros node → ⊥
no_node_bit node one =
    let none : get_or zeros (node / 64) 0 ≡ 0 =
    ⊎_elim (λ within. get_or-replicate 8 (node / 64) 0 0 within) (λ beyond. get_or_past zeros (node / 64) 0 beyond) (cases_lt (node / 64) 8) in
    omega (arith, subst (λ (w : ℕ). bit_at w (node % 64) ≡ 1) none one, bit_at-zero (node % 64))

-- ---- one member after another

-- A member has its bit or is left, and nothing else has one.
abbrev pub AreTaken : List ℕ → List ℕ → (ℕ → Type 0) → Type 0
AreTaken members left HasBit = (n : ℕ) → Contains members n ↔ (HasBit n ⊎ Contains left n)

-- before the first one
pub AreTaken-none : (members : List ℕ) (HasBit : ℕ → Type 0) → ((n : ℕ) → HasBit n → ⊥) → AreTaken members members HasBit
AreTaken-none members HasBit none n = (λ member. inr member, λ either. ⊎_elim (λ bit. absurd (none n bit)) (λ member. member) either)

-- one more
pub AreTaken-more : (members left : List ℕ) (first : ℕ) (others : List ℕ) (HasBit HasLater : ℕ → Type 0) → left ≡ first ∷ others → AreTaken members left HasBit
    → ((n : ℕ) → HasLater n ↔ (HasBit n ⊎ (n ≡ first))) → AreTaken members others HasLater
AreTaken-more members left first others HasBit HasLater splits before new n = (
  λ member. ⊎_elim (λ bit. inl ((new n).1 (inl bit)))
      (λ old. ⊎_elim (λ here. inl ((new n).1 (inr (sym here)))) (λ later. inr later) (Contains-cons_cases first others n (subst (λ (xs : List ℕ). Contains xs n) splits old)))
      ((before n).0 member),
  λ either. (before n).1 (⊎_elim (λ bit. ⊎_elim (λ old. inl old)
      (λ here. inr (subst (λ (xs : List ℕ). Contains xs n) (sym splits) (subst (Contains (first ∷ others)) (sym here) (Contains-head first others)))) ((new n).0 bit))
      (λ later. inr (subst (λ (xs : List ℕ). Contains xs n) (sym splits) (Contains-tail first others n later))) either),
)

-- all of them
pub AreTaken-all : (members left : List ℕ) (HasBit : ℕ → Type 0) → left ≡ [] → AreTaken members left HasBit → (n : ℕ) → HasBit n ↔ Contains members n
AreTaken-all members left HasBit none taken n = (
  λ bit. (taken n).1 (inl bit),
  λ member. ⊎_elim (λ bit. bit) (λ old. absurd (Contains-nil n (subst (λ (xs : List ℕ). Contains xs n) none old))) ((taken n).0 member),
)

-- a word of all members shows them
pub mask_of_all : (members : List ℕ) (word : ℕ) → All (λ position. position < MAX_MEMBERS) members → ((n : ℕ) → (bit_at word n ≡ 1) ↔ Contains members n) → IsMask word (Contains members)
mask_of_all members word small shows index = (
  λ one. let member = (shows index).0 one in (All-contains (λ position. position < MAX_MEMBERS) members index small member, member),
  λ both. (shows index).1 both.1,
)

-- What is below one limit is below a greater one.
pub all_below : (limit bound : ℕ) (xs : List ℕ) → limit ≤ bound → All (λ x. x < limit) xs → All (λ x. x < bound) xs
all_below limit bound xs within all index d below = let small = all index d below in omega (arith, within, small)

-- A trace has no more activations than there are nodes.
pub few_active : (trace : List Activation) (nodes : ℕ) → IsRisingByNode trace → All (λ activation. activation.node < nodes) trace → length trace ≤ nodes
few_active trace nodes rising within =
    let node_of = λ (activation : Activation). activation.node in
    let apart = Rises-differ (map node_of trace) (AllPairs-map ◌<◌ node_of trace rising) in
    omega (arith, length-le_distinct (map node_of trace) nodes apart (All-map (λ node. node < nodes) node_of trace within), length-map trace node_of)

-- Where there is no room for the times of all nodes, none is written.
pub no_times : (trace : List Activation) (nodes : ℕ) (room : List ℕ) → length room < nodes → room_after (times_in trace nodes) room ≡ room
no_times trace nodes room short =
    let all = length-map-range_with_len (time_or_never trace) 0 nodes in
    let no : nat_le (length (times_in trace nodes)) (length room) ≡ false = lt-leb (length (times_in trace nodes)) (length room) (omega (arith, all, short)) in
    rw no refl

-- So it is where there is room for some.
pub short_room : (nodes : ℕ) (status : Status) (room : List ℕ) → IsTrue (is_ranked status) → is_short nodes (length room) ≡ true → room ≡ room_after (times_of_status nodes status) room
short_room nodes (Ranked trace cost alarmed monitored) room ranks short =
    let parts = and_parts (nat_lt 0 (length room)) (nat_lt (length room) nodes) short in
    sym (no_times trace nodes room (ltb-true (length room) nodes parts.1))
short_room nodes (Covered by) room ranks short = absurd (false≢true ranks)
short_room nodes Rejected room ranks short = absurd (false≢true ranks)
short_room nodes Open room ranks short = absurd (false≢true ranks)
