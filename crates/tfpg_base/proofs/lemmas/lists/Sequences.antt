-- Numbers: by steps, up to a limit, in products and in bits, and how two of them compare.
use Rattle.std.proofs.Common.{◌≡◌, ℕ, zero, suc, ◌+◌, ◌<◌, ◌≤◌, ◌⊎◌, cond, eqb, inl, inr, ap, subst, arith, ⊎_elim, count_ones, min, nat_lt, nat_le, sym, ◌∙◌, Bool, true, false, refl, ◌-◌, ◌*◌, ◌/◌, not, leb}
use Rattle.std.proofs.Math.Nat.{le_antisymm, add-mul}
use Rattle.std.proofs.lemmas.Bool.{cases_lt, cases_eq, lt-ltb, le-ltb, lt-leb, le-leb, false≢true, and_parts, and_from, eqb-true, eq-eqb}
use Rattle.std.proofs.lemmas.Bool.Decides.{nat_tests, leb_tells}
use Rattle.std.proofs.lemmas.Nat.{ones_le_self, zero_from_ones, row_fits}
use Rattle.std.specs.Prelude.{◌==◌, ◌&&◌}

-- What falls at no step is nowhere less than before.
pub never_falls : (f : ℕ → ℕ) → ((n : ℕ) → f n ≤ f (suc n)) → (lo hi : ℕ) → lo ≤ hi → f lo ≤ f hi
never_falls f step lo zero upto = let same : lo ≡ 0 = omega arith in omega (arith, ap f same)
never_falls f step lo (suc hi) upto = elim (cases_lt hi lo) [
  | inl above ↦ (let same : lo ≡ suc hi = omega arith in omega (arith, ap f same))
  | inr below ↦ omega (arith, never_falls f step lo hi below, step hi)
]

-- what is below the next number is below this one or is it
pub below_or_last : (n m : ℕ) → n < m + 1 → (n < m) ⊎ (n ≡ m)
below_or_last n m below = grind arith

-- what cannot be above is at most
pub not_above : (a b : ℕ) → (b < a → ⊥) → a ≤ b
not_above a b never = grind arith

-- two numbers of which neither is below the other are one
pub same_from_neither : (a b : ℕ) → (a < b → ⊥) → (b < a → ⊥) → a ≡ b
same_from_neither a b not_less not_greater = le_antisymm (not_above a b not_greater) (not_above b a not_less)

-- more than the limit were taken only where one more was, and no further one
pub only_one : (limit taken wanted count : ℕ) → taken ≤ limit → (taken < limit → taken + wanted ≤ limit) → (taken ≡ limit → wanted ≡ 1) → count ≤ wanted → limit < taken + count → count ≡ 1
only_one limit taken wanted count within few one asked above = grind arith

-- what holds of a number below the next limit, and not of this one, holds of a number below this one
pub some_below-not_last : (P : ℕ → Type 0) (limit : ℕ) → ((number : ℕ) × (number < limit + 1) × P number) → (P limit → ⊥) → (number : ℕ) × (number < limit) × P number
some_below-not_last P limit some not_last = elim (cases_lt some.0 limit) [
  | inl below ↦ (some.0, below, some.2)
  | inr above ↦ (let same : some.0 ≡ limit = omega (arith, some.1, above) in absurd (not_last (subst P same some.2)))
]

-- a count of the numbers that differ from those before them stays where two are equal,
pub count-same : (before here count : ℕ) → before ≡ here → count + cond (eqb before here) 0 1 ≡ count
count-same before here count e = grind (arith, nat_tests)

-- and only there
pub same-from_count : (before here count : ℕ) → count + cond (eqb before here) 0 1 ≡ count → before ≡ here
same-from_count before here count e = grind (arith, nat_tests)

-- where they differ, it is one more
pub count-unlike : (before here count : ℕ) → (before ≡ here → ⊥) → count + cond (eqb before here) 0 1 ≡ suc count
count-unlike before here count unlike = grind (arith, nat_tests)

-- ---- by number, and at one number by rank

module _ {X : Type 0} (rank : X → ℕ) (P : X → ℕ → Type 0)
    (step : (x : X) (number : ℕ) → ((other : X) (lesser : ℕ) → lesser < number → P other lesser)
    → ((other : X) → rank other < rank x → P other number) → P x number) where
  by_rank : (number : ℕ) → ((other : X) (lesser : ℕ) → lesser < number → P other lesser) → (bound : ℕ) (x : X) → rank x < bound → P x number
  by_rank number before zero x below = absurd (omega arith)
  by_rank number before (suc bound) x below = step x number before (λ other lesser. by_rank number before bound other (omega arith))

  by_number : (bound : ℕ) (x : X) (number : ℕ) → number < bound → P x number
  by_number zero x number below = absurd (omega arith)
  by_number (suc bound) x number below =
      by_rank number (λ other lesser before. by_number bound other lesser (omega arith)) (suc (rank x)) x (omega arith)

  -- What holds of an item at a number, wherever it holds at lesser numbers, and at that number of items of lesser rank, always holds.
  pub by_number_and_rank : (x : X) (number : ℕ) → P x number
  by_number_and_rank x number = by_number (suc number) x number (omega arith)

-- a bit has as many ones as it is worth
pub count_ones-bit : (bit : ℕ) → bit < 2 → count_ones bit ≡ bit
count_ones-bit bit small =
    ⊎_elim (λ none. none ∙ sym (zero_from_ones bit none)) (λ some. omega (arith, some, small, ones_le_self bit)) (cases_eq (count_ones bit) 0)

-- numbers compare as the next ones do
pub nat_lt-suc : (a b : ℕ) → nat_lt (1 + a) (suc b) ≡ nat_lt a b
nat_lt-suc a b = ⊎_elim
    (λ below. lt-ltb (1 + a) (suc b) (omega (arith, below)) ∙ sym (lt-ltb a b below))
    (λ past. le-ltb (1 + a) (suc b) (omega (arith, past)) ∙ sym (le-ltb a b past))
    (cases_lt a b)

-- a counter that stops at a limit still shows whether there are more than some number below it
pub nat_le-min : (n limit few : ℕ) → few < limit → nat_le (min n limit) few ≡ nat_le n few
nat_le-min n limit few within = ⊎_elim
    (λ more. lt-leb (min n limit) few (omega (arith, more)) ∙ sym (lt-leb n few more))
    (λ at_most. le-leb (min n limit) few (omega (arith, at_most)) ∙ sym (le-leb n few at_most))
    (cases_lt few n)

-- ---- how many numbers pass a test

-- how many numbers below this one pass a test
abbrev pub count_below : (ℕ → Bool) → ℕ → ℕ
count_below test zero = 0
count_below test (suc number) = cond (test number) 1 0 + count_below test number

-- one that passes adds to the count
cond-le : (x y : Bool) → (x ≡ true → y ≡ true) → cond {A = ℕ} x 1 0 ≤ cond {A = ℕ} y 1 0
cond-le true true more = omega arith
cond-le true false more = absurd (false≢true (more refl))
cond-le false true more = omega arith
cond-le false false more = omega arith

-- where more numbers pass, the count is no less
pub count_below-le : (test other : ℕ → Bool) (end : ℕ) → ((number : ℕ) → test number ≡ true → other number ≡ true)
    → count_below test end ≤ count_below other end
count_below-le test other zero more = omega arith
count_below-le test other (suc end) more =
    omega (arith, cond-le (test end) (other end) (more end), count_below-le test other end more)

-- where one more passes, it is greater
pub count_below-lt : (test other : ℕ → Bool) (end one : ℕ) → ((number : ℕ) → test number ≡ true → other number ≡ true)
    → one < end → test one ≡ false → other one ≡ true → count_below test end < count_below other end
count_below-lt test other zero one more within old new = absurd (omega arith)
count_below-lt test other (suc end) one more within old new =
    by (cases_lt one end) (λ less. count_below-lt test other end one more less old new)
  where
    by : (one < end) ⊎ (end ≤ one) → (one < end → count_below test end < count_below other end)
        → cond {A = ℕ} (test end) 1 0 + count_below test end < cond {A = ℕ} (other end) 1 0 + count_below other end
    by (inl less) before = omega (arith, cond-le (test end) (other end) (more end), before less)
    by (inr last) before =
        let is : end ≡ one = omega arith in
        let none : cond {A = ℕ} (test end) 1 0 ≡ 0 = ap (λ b. cond {A = ℕ} b 1 0) (ap test is ∙ old) in
        let some : cond {A = ℕ} (other end) 1 0 ≡ 1 = ap (λ b. cond {A = ℕ} b 1 0) (ap other is ∙ new) in
        omega (arith, none, some, count_below-le test other end more)

-- what holds of the one number where it is no greater, and of the other where it is less, holds of the lesser
pub min-cases : (F : ℕ → Type 0) (a b : ℕ) → (a ≤ b → F a) → (b < a → F b) → F (min a b)
min-cases F a b not_greater less =
    ⊎_elim (λ lt. subst F (let e : b ≡ min a b = omega (arith, lt) in e) (less lt))
    (λ le. subst F (let e : a ≡ min a b = omega (arith, le) in e) (not_greater le)) (cases_lt b a)

-- the middle of two numbers is no less than the one, and less than the other
pub middle-between : (low high : ℕ) → low < high → (low ≤ low + (high - low) / 2) × (low + (high - low) / 2 < high)
middle-between low high less = (omega arith, omega arith)

-- what is made of three numbers each of which passes the test of being another is what is made of the others
pub ap-three_equal : {X : Type 0} (f : ℕ → ℕ → ℕ → X) (a b c x y z : ℕ) → ((a == x) && ((b == y) && (c == z))) ≡ true → f a b c ≡ f x y z
ap-three_equal f a b c x y z is =
    let all = and_parts (a == x) ((b == y) && (c == z)) is in
    let others = and_parts (b == y) (c == z) all.1 in
    ap (λ n. f n b c) (eqb-true a x all.0) ∙ ap (λ n. f x n c) (eqb-true b y others.0) ∙ ap (λ n. f x y n) (eqb-true c z others.1)

-- three numbers pass that test with themselves
pub three_equal-itself : (a b c : ℕ) → ((a == a) && ((b == b) && (c == c))) ≡ true
three_equal-itself a b c = and_from (a == a) ((b == b) && (c == c)) (eq-eqb a a refl) (and_from (b == b) (c == c) (eq-eqb b b refl) (eq-eqb c c refl))

-- where one more than c is less than a, c rows of a length and two more fit into a rows of it
pub rows_fit-two : (a c p : ℕ) → c + 1 < a → c * p + p + p ≤ a * p
rows_fit-two a c p less =
    let same : p ≤ p = omega arith in
    let first : (c + 1) * p + p ≤ a * p = row_fits (c + 1) p a p less same in
    let parts : (c + 1) * p ≡ c * p + 1 * p = add-mul c 1 p in
    omega (arith, first, parts)

-- as many rows of a length as one number is above another are one row more than as many as it is above the next
pub sub-mul_next : (one other p : ℕ) → other < one → (one - other) * p ≡ (one - (other + 1)) * p + p
sub-mul_next one other p less =
    let same : one - other ≡ (one - (other + 1)) + 1 = omega (arith, less) in
    let parts : ((one - (other + 1)) + 1) * p ≡ (one - (other + 1)) * p + 1 * p = add-mul (one - (other + 1)) 1 p in
    let whole : (one - other) * p ≡ (one - (other + 1)) * p + 1 * p = ap (λ k. k * p) same ∙ parts in
    omega (arith, whole)

-- none is what is not some
pub zero-not_some : (n : ℕ) → (n == 0) ≡ not (nat_lt 0 n)
zero-not_some n = grind (arith, nat_tests)

-- numbers compare as those before them do
pub leb-suc : (a b : ℕ) → leb a b ≡ leb (suc a) (suc b)
leb-suc a b = elim (leb_tells a b) [
  | inl le ↦ le.0 ∙ sym (le-leb (suc a) (suc b) (omega (arith, le.1)))
  | inr lt ↦ elim (leb_tells (suc a) (suc b)) [
    | inl le ↦ absurd (omega (arith, lt.1, le.1))
    | inr more ↦ lt.0 ∙ sym more.0
  ]
]

-- the lesser of two bits is one exactly where both are
pub both_ones : (one other both : ℕ) → one < 2 → other < 2 → both ≡ min one other → eqb both 1 ≡ (eqb one 1 && eqb other 1)
both_ones one other both small low least = grind (arith, nat_tests)
