-- Laws of sets as rising lists of positions, and of the bits that keep them.
use Rattle.std.proofs.Common.{◌≡◌, ℕ, suc, zero, ◌+◌, ◌*◌, ◌/◌, ◌%◌, ◌<◌, ◌≤◌, ◌^◌, cond, eqb, ltb, List, [], ◌∷◌, ◌++◌, length, ◌⊎◌, ◌↔◌, inl, inr, ⊎_elim, bit_and, bit_or, count_ones, append-nil, length-append, add-one, w64, nat_eq, IsTrue, refl, arith, sym, ◌∙◌, ap, Bool, true, false, nat_lt, ◌==◌, subst, ◌≢◌}
use Rattle.std.specs.List.{Contains, All, sum_by}
use Rattle.std.specs.Int.{bit_at, bit_not, trailing_zeros}
use Rattle.std.proofs.lemmas.Bool.{ltb-true, ltb-false, eqb-true, eqb-false, eq-eqb, cases_lt, cases_eq, cond-true, cond_both, le-ltb, ne_eqb, cond-false}
use Rattle.std.proofs.lemmas.List.Elements.{Contains-get_or, All-nil, All-contains, Contains-append_left, Contains-append_right, Contains-append_cases, All-head, All-tail}
use Rattle.std.proofs.lemmas.List.Quantifiers.{all_pairs_push}
use Rattle.std.proofs.Math.Nat.{add_comm, mod-one, mod-lt, mod-eq_of_lt, pow-suc}
use Rattle.std.proofs.Math.Pow.{mod-pow-add, pow_pos, pow_mono}
use Rattle.std.proofs.lemmas.Nat.{ones_cat}
use Rattle.std.proofs.lemmas.Nat.Bits.{bit_at-lt, shr_and_one, bit_at_and, bit_at_set_same, bit_at_set_other, bit_at_clear_same, bit_at_clear_other, bit_at-trailing_zeros, bit_at_above, same_from_bits}
use Rattle.tfpg_base.proofs.lemmas.lists.Elements.{AllPairs-head, AllPairs-tail, AllPairs-cons, All-from_members, Contains-head, Contains-tail, Contains-cons_cases, Contains-nil, Contains-cond, length-cond_bit}
pub use Rattle.tfpg_base.proofs.lemmas.lists.Ordered.{Rises, same_from_members}
use Rattle.tfpg_base.proofs.lemmas.lists.Ordered.{least_first}
use Rattle.tfpg_base.proofs.lemmas.lists.Sequences.{count_ones-bit}
use Rattle.tfpg_base.proofs.lemmas.lists.Pigeons.{within_others}
use Rattle.tfpg_base.specs.Set.{with_member, IsSubset, IsSet}
use Rattle.tfpg_base.specs.declared.limits.TheConstants.{MAX_MEMBERS}
use Rattle.tfpg_base.specs.SetBits.{ones_below, members_of, bits_of}
pub use Rattle.tfpg_base.specs.inside.BitsOfMembers.{bits_of-one, bits_of-ones_below, bits_of-members_of}
use Rattle.std.proofs.lemmas.List.Sums.{sum_by-cons}

-- ---- a member more

-- the three ways in which a set gets a member
with_member_cases : (P : List ℕ → Type 0) (position first : ℕ) (others : List ℕ) → (position < first → P (position ∷ first ∷ others)) → (position ≡ first → P (first ∷ others)) → (first < position → P (first ∷ with_member position others)) → P (with_member position (first ∷ others))
with_member_cases P position first others below same above =
    cond_both (ltb position first) _ _ P (λ less. below (ltb-true position first less))
    (λ not_less. cond_both (eqb position first) _ _ P (λ equal. same (eqb-true position first equal))
    (λ unequal. above (omega (arith, ltb-false position first not_less, eqb-false position first unequal))))

-- A member more makes a set at most one longer.
pub length-with_member_le : (position : ℕ) (members : List ℕ) → length (with_member position members) ≤ length members + 1
length-with_member_le position [] = omega arith
length-with_member_le position (first ∷ others) =
    with_member_cases (λ more. length more ≤ length (first ∷ others) + 1) position first others (λ less. omega arith) (λ same. omega arith)
    (λ above. omega (arith, length-with_member_le position others))

-- The new member is one.
pub Contains-with_member : (position : ℕ) (members : List ℕ) → Contains (with_member position members) position
Contains-with_member position [] = Contains-head position []
Contains-with_member position (first ∷ others) =
    with_member_cases (λ more. Contains more position) position first others (λ less. Contains-head position (first ∷ others))
    (λ same. rw same (Contains-head first others))
    (λ above. Contains-tail first (with_member position others) position (Contains-with_member position others))

-- The old members stay.
pub with_member-keeps : (position : ℕ) (members : List ℕ) (other : ℕ) → Contains members other → Contains (with_member position members) other
with_member-keeps position [] other member = absurd (Contains-nil other member)
with_member-keeps position (first ∷ others) other member =
    with_member_cases (λ more. Contains more other) position first others (λ less. Contains-tail position (first ∷ others) other member)
    (λ same. member)
    (λ above. ⊎_elim (λ is. rw (← is) (Contains-head first (with_member position others)))
    (λ beyond. Contains-tail first (with_member position others) other (with_member-keeps position others other beyond))
    (Contains-cons_cases first others other member))

-- No other members come.
pub with_member-only : (position : ℕ) (members : List ℕ) (other : ℕ) → Contains (with_member position members) other → (position ≡ other) ⊎ Contains members other
with_member-only position [] other member = Contains-cons_cases position [] other member
with_member-only position (first ∷ others) other member =
    with_member_cases (λ more. Contains more other → (position ≡ other) ⊎ Contains (first ∷ others) other) position first others (λ less. Contains-cons_cases position (first ∷ others) other)
    (λ same member. inr member)
    (λ above member. ⊎_elim (λ is. inr (rw (← is) (Contains-head first others)))
    (λ beyond. ⊎_elim (λ new. inl new) (λ old. inr (Contains-tail first others other old)) (with_member-only position others other beyond))
    (Contains-cons_cases first (with_member position others) other member))
    member

-- The members then are the new one and the old ones.
pub members-with_member : (position : ℕ) (members : List ℕ) (other : ℕ) → Contains (with_member position members) other ↔ ((position ≡ other) ⊎ Contains members other)
members-with_member position members other = (
  with_member-only position members other,
  λ either. ⊎_elim (λ same. rw (← same) (Contains-with_member position members)) (λ old. with_member-keeps position members other old) either,
)

-- What holds of the new member and of each old one holds of each.
pub All-with_member : (P : ℕ → Type 0) (position : ℕ) (members : List ℕ) → P position → All P members → All P (with_member position members)
All-with_member P position members own all =
    All-from_members P (with_member position members)
    (λ other member. ⊎_elim (λ same. subst P same own) (λ old. All-contains P members other all old) (with_member-only position members other member))

-- A member that is greater than all comes last.
pub with_member-last : (position : ℕ) (members : List ℕ) → All (λ member. member < position) members → with_member position members ≡ members ++ position ∷ []
with_member-last position [] below = refl
with_member-last position (first ∷ others) below =
    let less : first < position = below 0 0 (omega arith) in
    cond-false (ltb position first) _ _ (le-ltb position first (omega (arith, less)))
    ∙ cond-false (eqb position first) _ _ (ne_eqb position first (λ is. omega (arith, is, less)))
    ∙ ap (λ rest. first ∷ rest) (with_member-last position others (λ k d within. below (suc k) d (omega arith)))

-- With one member more the list still rises.
pub Rises-with_member : (position : ℕ) (members : List ℕ) → Rises members → Rises (with_member position members)
Rises-with_member position [] rising = AllPairs-cons ◌<◌ position [] (All-nil (λ later. position < later)) rising
Rises-with_member position (first ∷ others) rising =
    with_member_cases Rises position first others
    (λ less. AllPairs-cons ◌<◌ position (first ∷ others)
    (All-from_members (λ later. position < later) (first ∷ others) (λ later member. omega (arith, less, least_first first others later rising member))) rising)
    (λ same. rising)
    (λ above. AllPairs-cons ◌<◌ first (with_member position others)
    (All-from_members (λ later. first < later) (with_member position others)
    (λ later member. ⊎_elim (λ new. omega (arith, above, new)) (λ old. All-contains (λ later. first < later) others later (AllPairs-head ◌<◌ first others rising) old) (with_member-only position others later member)))
    (Rises-with_member position others (AllPairs-tail ◌<◌ first others rising)))

-- With one member more a set is still a set.
pub IsSet-with_member : (position : ℕ) (members : List ℕ) → position < MAX_MEMBERS → IsSet members → IsSet (with_member position members)
IsSet-with_member position members small set = record {
  rising = Rises-with_member position members set.rising;
  small = All-from_members (λ later. later < MAX_MEMBERS) (with_member position members)
      (λ later member. ⊎_elim (λ new. omega (arith, small, new)) (λ old. All-contains (λ later. later < MAX_MEMBERS) members later set.small old) (with_member-only position members later member));
}

-- one member more that is new makes a set longer by one
pub length-with_new_member : (position : ℕ) (members : List ℕ) → (Contains members position → ⊥)
    → length (with_member position members) ≡ suc (length members)
length-with_new_member position [] new = refl
length-with_new_member position (first ∷ others) new =
    cond_both (ltb position first) _ _ (λ more. length more ≡ suc (suc (length others))) (λ less. refl)
    (λ not_less. cond_both (eqb position first) _ _ (λ more. length more ≡ suc (suc (length others)))
    (λ equal. absurd (new (subst (λ (n : ℕ). Contains (first ∷ others) n) (sym (eqb-true position first equal))
    (Contains-head first others))))
    (λ unequal. ap suc (length-with_new_member position others (λ member. new (Contains-tail first others position member)))))

-- one member more that is new is worth its own more
pub sum_by-with_member : (f : ℕ → ℕ) (index : ℕ) (members : List ℕ) → (Contains members index → ⊥) → sum_by f (with_member index members) ≡ f index + sum_by f members
sum_by-with_member f index [] new = sum_by-cons f index []
sum_by-with_member f index (first ∷ others) new = by (sum_by-with_member f index others (λ is. new (Contains-tail first others index is))) (nat_lt index first) (index == first) refl
  where
    by : sum_by f (with_member index others) ≡ f index + sum_by f others → (before same : Bool) → (index == first) ≡ same
        → sum_by f (cond before (index ∷ first ∷ others) (cond same (first ∷ others) (first ∷ with_member index others))) ≡ f index + sum_by f (first ∷ others)
    by later true same at = sum_by-cons f index (first ∷ others)
    by later false true at = absurd (new (subst (Contains (first ∷ others)) (sym (eqb-true index first at)) (Contains-head first others)))
    by later false false at = omega (arith, sum_by-cons f first (with_member index others), sum_by-cons f first others, later)

-- ---- the bits of a set

-- no bit, no member
pub members_of-zero : members_of 0 ≡ []
unfolding members_of ones_below
members_of-zero = refl

-- what stands among the ones below a count is an index below it with a one
pub ones_below-only : (count bits index : ℕ) → Contains (ones_below count bits) index → (index < count) × (bit_at bits index ≡ 1)
unfolding ones_below
ones_below-only zero bits index member = absurd (Contains-nil index member)
ones_below-only (suc count) bits index member =
    ⊎_elim (λ before. let old = ones_below-only count bits index before in (omega (arith, old.0), old.1))
    (λ last. let new = Contains-cond (eqb (bit_at bits count) 1) count index last in
    (omega (arith, new.1), rw (← new.1) (eqb-true (bit_at bits count) 1 new.0)))
    (Contains-append_cases (ones_below count bits) _ index member)

-- each index below a count with a one stands among them
pub ones_below-all : (count bits index : ℕ) → index < count → bit_at bits index ≡ 1 → Contains (ones_below count bits) index
unfolding ones_below
ones_below-all zero bits index within one = absurd (omega arith)
ones_below-all (suc count) bits index within one =
    ⊎_elim (λ last. Contains-append_right (ones_below count bits) (cond (eqb (bit_at bits count) 1) (count ∷ []) []) index
    (rw (cond-true (eqb (bit_at bits count) 1) (count ∷ []) [] (eq-eqb (bit_at bits count) 1 (ap (bit_at bits) (sym last) ∙ one))) (rw last (Contains-head count []))))
    (λ before. Contains-append_left (ones_below count bits) _ index (ones_below-all count bits index (omega (arith, before, within)) one))
    (cases_eq index count)

-- the ones below a count rise
pub Rises-ones_below : (count bits : ℕ) → Rises (ones_below count bits)
unfolding ones_below
Rises-ones_below zero bits = λ i j d before within. absurd (omega arith)
Rises-ones_below (suc count) bits =
    cond_both (eqb (bit_at bits count) 1) (count ∷ []) [] (λ last. Rises (ones_below count bits ++ last))
    (λ one. all_pairs_push (λ earlier later. earlier < later) (ones_below count bits) count (Rises-ones_below count bits)
    (λ k d within. (ones_below-only count bits _ (Contains-get_or (ones_below count bits) k d within)).0))
    (λ none. rw append-nil (Rises-ones_below count bits))

-- what bits keep is a set
pub IsSet-members_of : (bits : ℕ) → IsSet (members_of bits)
unfolding members_of
IsSet-members_of bits = record {
  rising = Rises-ones_below MAX_MEMBERS bits;
  small = All-from_members (λ index. index < MAX_MEMBERS) (ones_below MAX_MEMBERS bits) (λ index member. (ones_below-only MAX_MEMBERS bits index member).0);
}

-- the members are the indexes below the maximum number of members whose bit is 1
pub members_of-is : (bits index : ℕ) → Contains (members_of bits) index ↔ ((index < MAX_MEMBERS) × (bit_at bits index ≡ 1))
unfolding members_of
members_of-is bits index = (ones_below-only MAX_MEMBERS bits index, λ both. ones_below-all MAX_MEMBERS bits index both.0 both.1)

-- there are as many ones below a count as among the lowest bits
length-ones_below : (count bits : ℕ) → length (ones_below count bits) ≡ count_ones (bits % 2 ^ count)
unfolding ones_below
length-ones_below zero bits = rw mod-one (sym (count_ones-bit 0 (omega arith)))
length-ones_below (suc count) bits =
    let bit = bit_at bits count in
    let small = bit_at-lt bits count in
    let low = bits % 2 ^ count in
    let last = cond (eqb bit 1) (count ∷ []) [] in
    let split : bits % 2 ^ suc count ≡ bit * 2 ^ count + low = ap (λ upto. bits % 2 ^ upto) (sym (add_comm 1 count ∙ add-one count)) ∙ mod-pow-add bits 1 count in
    let ones : count_ones (bits % 2 ^ suc count) ≡ count_ones bit + count_ones low = ap count_ones split ∙ ones_cat count bit low (mod-lt bits (pow_pos count)) in
    let parts = length-append (ones_below count bits) last in
    omega (arith, ones, parts, length-cond_bit bit count small, length-ones_below count bits, count_ones-bit bit small)

-- A set has as many members as its bits have ones.
pub length-members_of : (bits : ℕ) → bits < 2 ^ 64 → length (members_of bits) ≡ count_ones bits
unfolding members_of
length-members_of bits small = length-ones_below MAX_MEMBERS bits ∙ ap count_ones (mod-eq_of_lt small)

-- Bits that keep the same members are the same.
pub same_from_members_of : (a b : ℕ) → a < 2 ^ 64 → b < 2 ^ 64 → members_of a ≡ members_of b → a ≡ b
same_from_members_of a b small_a small_b same = sym (bits_of-members_of a small_a) ∙ ap bits_of same ∙ bits_of-members_of b small_b

-- To set one more bit is to have one member more.
pub members_of-set : (bits index : ℕ) → index < MAX_MEMBERS → members_of (bit_or bits (1 * 2 ^ index % 2 ^ 64)) ≡ with_member index (members_of bits)
members_of-set bits index small =
    let more = bit_or bits (1 * 2 ^ index % 2 ^ 64) in
    same_from_members (members_of more) (with_member index (members_of bits)) (IsSet-members_of more).rising (Rises-with_member index (members_of bits) (IsSet-members_of bits).rising)
    (λ other member. let both = (members_of-is more other).0 member in
    ⊎_elim (λ same. rw same (Contains-with_member index (members_of bits)))
    (λ unlike. with_member-keeps index (members_of bits) other ((members_of-is bits other).1 (both.0, sym (bit_at_set_other w64 bits index small other unlike) ∙ both.1)))
    (cases_eq other index))
    (λ other member. (members_of-is more other).1
    (⊎_elim (λ same. rw (← same) (small, bit_at_set_same w64 bits index small))
    (λ old. let both = (members_of-is bits other).0 old in
    ⊎_elim (λ same. (both.0, rw same (bit_at_set_same w64 bits index small)))
    (λ unlike. (both.0, bit_at_set_other w64 bits index small other unlike ∙ both.1))
    (cases_eq other index))
    (with_member-only index (members_of bits) other member)))

-- bits without their lowest one
abbrev without_lowest : ℕ → ℕ
without_lowest bits = bit_and bits (bit_not w64 (1 * 2 ^ trailing_zeros w64 bits % 2 ^ 64))

module _ (bits : ℕ) (some : 0 < bits) (small : bits < 2 ^ 64) where
  -- the members of bits without their lowest one are members that come after it
  without_lowest-only : (index : ℕ) → Contains (members_of (without_lowest bits)) index → (trailing_zeros w64 bits < index) × Contains (members_of bits) index
  without_lowest-only index member =
      let lowest = bit_at-trailing_zeros w64 bits some small in
      let both = (members_of-is (without_lowest bits) index).0 member in
      let differs : index ≢ trailing_zeros w64 bits = λ same.
      let none : bit_at (without_lowest bits) index ≡ 0 = ap (bit_at (without_lowest bits)) same ∙ bit_at_clear_same w64 bits (trailing_zeros w64 bits) lowest.0 in
      omega (arith, none, both.1) in
      let one : bit_at bits index ≡ 1 = sym (bit_at_clear_other w64 bits (trailing_zeros w64 bits) lowest.0 index both.0 differs) ∙ both.1 in (
        ⊎_elim (λ before. absurd (let none = lowest.2 index before in omega (arith, none, one))) (λ beyond. omega (arith, beyond, differs)) (cases_lt index (trailing_zeros w64 bits)),
        (members_of-is bits index).1 (both.0, one),
      )

  -- each other member stays
  without_lowest-all : (index : ℕ) → Contains (members_of bits) index → index ≢ trailing_zeros w64 bits → Contains (members_of (without_lowest bits)) index
  without_lowest-all index member differs =
      let lowest = bit_at-trailing_zeros w64 bits some small in
      let both = (members_of-is bits index).0 member in
      (members_of-is (without_lowest bits) index).1
      (both.0, bit_at_clear_other w64 bits (trailing_zeros w64 bits) lowest.0 index both.0 differs ∙ both.1)

  -- The lowest bit is that of the least member, and without it the others are left.
  pub members_of-split : members_of bits ≡ trailing_zeros w64 bits ∷ members_of (without_lowest bits)
  members_of-split =
      let least = trailing_zeros w64 bits in
      let others = members_of (without_lowest bits) in
      let lowest = bit_at-trailing_zeros w64 bits some small in
      same_from_members (members_of bits) (least ∷ others) (IsSet-members_of bits).rising
      (AllPairs-cons ◌<◌ least others (All-from_members (λ later. least < later) others (λ index member. (without_lowest-only index member).0))
      (IsSet-members_of (without_lowest bits)).rising)
      (λ index member. ⊎_elim (λ same. rw same (Contains-head least others))
      (λ differs. Contains-tail least others index (without_lowest-all index member differs)) (cases_eq index least))
      (λ index member. ⊎_elim (λ same. rw (← same) ((members_of-is bits least).1 (lowest.0, lowest.1)))
      (λ later. (without_lowest-only index later).1) (Contains-cons_cases least others index member))

-- Each member is one of the other set where no bit is lost by taking the bits of both.
pub IsSubset-from_bits : (a b : ℕ) → bit_and a b ≡ a → IsSubset (members_of a) (members_of b)
IsSubset-from_bits a b kept =
    All-from_members (Contains (members_of b)) (members_of a)
    (λ index member. let both = (members_of-is a index).0 member in
    (members_of-is b index).1
    (both.0, omega (arith, both.1, bit_at_and a b index, ap (λ bits. bit_at bits index) kept, bit_at-lt b index)))

-- a one of the bits has an index below the maximum number of members
one_within : (bits index : ℕ) → bits < 2 ^ 64 → bit_at bits index ≡ 1 → index < MAX_MEMBERS
one_within bits index small one =
    ⊎_elim (λ within. within) (λ beyond. absurd (omega (arith, one, bit_at_above bits MAX_MEMBERS index small beyond))) (cases_lt index MAX_MEMBERS)

-- No bit is lost by taking the bits of both where each member is one of the other set.
pub bits_from_IsSubset : (a b : ℕ) → a < 2 ^ 64 → IsSubset (members_of a) (members_of b) → bit_and a b ≡ a
bits_from_IsSubset a b small subset =
    same_from_bits (bit_and a b) a
    (λ index. ⊎_elim
    (λ none. omega (arith, bit_at_and a b index, none))
    (λ some.
    let one : bit_at a index ≡ 1 = omega (arith, some, bit_at-lt a index) in
    let within = one_within a index small one in
    let other = (members_of-is b index).0 (All-contains (Contains (members_of b)) (members_of a) index subset ((members_of-is a index).1 (within, one))) in
    omega (arith, one, other.1, bit_at_and a b index))
    (cases_eq (bit_at a index) 0))

-- rising indexes below a bound are worth less than the bit of the bound, by at least the bit of an index at or before the first
bits_of-within : (indexes : List ℕ) (first bound : ℕ) → Rises indexes → All (λ index. first ≤ index) indexes → All (λ index. index < bound) indexes → first ≤ bound
    → bits_of indexes + 2 ^ first ≤ 2 ^ bound
bits_of-within [] first bound rises from to within = let bit : 2 ^ first ≤ 2 ^ bound = pow_mono within in omega (arith, bit)
bits_of-within (index ∷ others) first bound rises from to within =
    let low : first ≤ index = All-head (λ p. first ≤ p) index others from in
    let high : index < bound = All-head (λ p. p < bound) index others to in
    let rest : bits_of others + 2 ^ suc index ≤ 2 ^ bound = bits_of-within others (suc index) bound (AllPairs-tail ◌<◌ index others rises) (AllPairs-head ◌<◌ index others rises)
    (All-tail (λ p. p < bound) index others to) high in
    let bit : 2 ^ first ≤ 2 ^ index = pow_mono low in
    omega (arith, rest, bit, pow-suc 2 index, sum_by-cons (λ p. 2 ^ p) index others)

-- the bits of a set whose members are below a bound are below the bit of the bound
pub bits_of-below : (indexes : List ℕ) (bound : ℕ) → Rises indexes → All (λ index. index < bound) indexes → bits_of indexes < 2 ^ bound
bits_of-below indexes bound rises to = omega (arith, bits_of-within indexes 0 bound rises (λ k d within. omega arith) to (omega arith))

-- a list with an item is worth something
pub bits_of-some : (indexes : List ℕ) → indexes ≢ [] → 0 < bits_of indexes
bits_of-some [] some = absurd (some refl)
bits_of-some (index ∷ others) some = omega (arith, sum_by-cons (λ p. 2 ^ p) index others, pow_pos index)

-- ---- what the tests on bits say of the members

-- what bits keep is a set
pub IsSet-from_bits : (bits : ℕ) (members : List ℕ) → members_of bits ≡ members → IsSet members
IsSet-from_bits bits members view = rw (← view) (IsSet-members_of bits)

-- the bit of an index says whether it is a member
pub bit_says_member : (bits index : ℕ) (members : List ℕ) → members_of bits ≡ members → index < MAX_MEMBERS → IsTrue (nat_eq (bit_and (bits / 2 ^ index) 1) 1) ↔ Contains members index
bit_says_member bits index members view small =
    rw (← view) (
      λ yes. (members_of-is bits index).1 (small, sym (shr_and_one bits index) ∙ eqb-true (bit_and (bits / 2 ^ index) 1) 1 yes),
      λ member. eq-eqb (bit_and (bits / 2 ^ index) 1) 1 (shr_and_one bits index ∙ ((members_of-is bits index).0 member).1),
    )

-- an index from the maximum number of members on is no member
pub beyond_no_member : (bits index : ℕ) (members : List ℕ) → members_of bits ≡ members → MAX_MEMBERS ≤ index → Contains members index → ⊥
beyond_no_member bits index members view beyond =
    rw (← view) (λ member. omega (arith, beyond, ((members_of-is bits index).0 member).0))

-- the bits are equal where the members are
pub bits_say_equal : (a b : ℕ) (xs ys : List ℕ) → members_of a ≡ xs → members_of b ≡ ys → a < 2 ^ 64 → b < 2 ^ 64 → IsTrue (nat_eq a b) ↔ (xs ≡ ys)
bits_say_equal a b xs ys view_a view_b small_a small_b =
    rw (← view_a, ← view_b) (
      λ yes. ap members_of (eqb-true a b yes),
      λ same. eq-eqb a b (same_from_members_of a b small_a small_b same),
    )

-- the bits of both say whether one set is a subset of the other
pub bits_say_subset : (a b : ℕ) (xs ys : List ℕ) → members_of a ≡ xs → members_of b ≡ ys → a < 2 ^ 64 → IsTrue (nat_eq (bit_and a b) a) ↔ IsSubset xs ys
bits_say_subset a b xs ys view_a view_b small =
    rw (← view_a, ← view_b) (
      λ yes. IsSubset-from_bits a b (eqb-true (bit_and a b) a yes),
      λ subset. eq-eqb (bit_and a b) a (bits_from_IsSubset a b small subset),
    )

-- ---- how long a subset is

-- nothing but the empty set is a subset of it
pub IsSubset-none : (subset : List ℕ) → IsSubset subset [] → subset ≡ []
IsSubset-none [] within = refl
IsSubset-none (p ∷ ps) within = absurd (Contains-nil p (All-contains (Contains []) (p ∷ ps) p within (Contains-head p ps)))

-- A subset is the whole or shorter.
pub IsSubset-cases : (whole subset : List ℕ) → Rises subset → Rises whole → IsSubset subset whole → (subset ≡ whole) ⊎ (length subset < length whole)
IsSubset-cases [] [] rises_subset rises_whole within = inl refl
IsSubset-cases [] (p ∷ ps) rises_subset rises_whole within = absurd (Contains-nil p (All-contains (Contains []) (p ∷ ps) p within (Contains-head p ps)))
IsSubset-cases (w ∷ ws) [] rises_subset rises_whole within = inr (omega arith)
IsSubset-cases (w ∷ ws) (p ∷ ps) rises_subset rises_whole within =
    let rest_whole = AllPairs-tail ◌<◌ w ws rises_whole in
    let after_p = λ (x : ℕ) (member : Contains ps x). All-contains (λ y. p < y) ps x (AllPairs-head ◌<◌ p ps rises_subset) member in
    ⊎_elim
    (λ same.
    let rest : All (Contains (w ∷ ws)) ps = λ k d below. within (suc k) d (omega (arith, below)) in
    let inside = within_others ps w [] ws rest (All-from_members (λ x. w ≢ x) ps (λ x member is. omega (arith, is, same, after_p x member))) in
    ⊎_elim (λ equal. inl (let head : p ≡ w = sym same in cc)) (λ shorter. inr (omega (arith, shorter))) (IsSubset-cases ws ps (AllPairs-tail ◌<◌ p ps rises_subset) rest_whole inside))
    (λ later.
    let above_p = All-contains (λ y. w < y) ws p (AllPairs-head ◌<◌ w ws rises_whole) later in
    let inside = within_others (p ∷ ps) w [] ws within (All-from_members (λ x. w ≢ x) (p ∷ ps) (λ x member is. omega (arith, is, above_all x member above_p after_p))) in
    ⊎_elim (λ equal. inr (omega (arith, ap length equal))) (λ shorter. inr (omega (arith, shorter))) (IsSubset-cases ws (p ∷ ps) rises_subset rest_whole inside))
    (Contains-cons_cases w ws p (All-contains (Contains (w ∷ ws)) (p ∷ ps) p within (Contains-head p ps)))
  where
    above_all : (x : ℕ) → Contains (p ∷ ps) x → w < p → ((y : ℕ) → Contains ps y → p < y) → w < x
    above_all x member above_p after_p = ⊎_elim (λ is. omega (arith, is, above_p)) (λ rest. omega (arith, above_p, after_p x rest)) (Contains-cons_cases p ps x member)
