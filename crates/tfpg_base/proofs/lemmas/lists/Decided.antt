-- What can be decided: of numbers below a limit, of the members of a list, and of what is made of other facts.
use Rattle.std.proofs.Common.{◌≡◌, ℕ, zero, suc, ◌<◌, ◌≤◌, Bool, true, false, nat_eq, List, [], ◌∷◌, Option, Some, None, ◌⊎◌, inl, inr, refl, sym, subst, arith, below_more}
use Rattle.std.specs.Prelude.{IsTrue, All, Contains}
use Rattle.std.proofs.lemmas.Bool.{false≢true, cases_lt, eqb-true, eqb-false}
use Rattle.std.proofs.lemmas.Bool.Decides.{eqb_tells}
use Rattle.std.proofs.lemmas.List.Elements.{All-contains}
use Rattle.tfpg_base.proofs.lemmas.lists.Elements.{Contains-nil, Contains-tail, Contains-cons_cases, All-from_members}

-- the fact holds, or it does not
abbrev pub IsDecided : Type 0 → Type 0
IsDecided P = P ⊎ (P → ⊥)

-- ---- numbers below a limit

-- the first number below a limit of which the one thing holds; of those before it the other does
pub record IsFirstBelow (P Q : ℕ → Type 0) (limit number : ℕ) : Type 0 where
  pub below : number < limit
  pub holds : P number
  pub before : (earlier : ℕ) → earlier < number → Q earlier

-- Of two things one holds of each number. Then the one holds first of some number below the limit, or the other of all.
pub first_below : (P Q : ℕ → Type 0) → ((number : ℕ) → P number ⊎ Q number) → (limit : ℕ) → ((number : ℕ) × IsFirstBelow P Q limit number) ⊎ ((number : ℕ) → number < limit → Q number)
first_below P Q choice zero = inr (λ number below. absurd (omega (arith, below)))
first_below P Q choice (suc limit) = elim (first_below P Q choice limit) [
  | inl found ↦ inl (found.0, record { below = omega (arith, found.1.below); holds = found.1.holds; before = found.1.before })
  | inr before ↦ elim (choice limit) [
    | inl holds ↦ inl (limit, record { below = omega arith; holds = holds; before = before })
    | inr here ↦ inr (λ number within. below_more Q limit before here number (omega (arith, within)))
  ]
]

-- Whether something holds of all numbers below a limit is decided where it is of each.
pub all_below : (P : ℕ → Type 0) → ((number : ℕ) → IsDecided (P number)) → (limit : ℕ) → IsDecided ((number : ℕ) → number < limit → P number)
all_below P decided limit = elim (first_below (λ number. P number → ⊥) P (λ number. elim (decided number) [
  | inl holds ↦ inr holds
  | inr fails ↦ inl fails
]) limit) [
  | inl found ↦ inr (λ all. found.1.holds (all found.0 found.1.below))
  | inr all ↦ inl all
]

-- ---- facts that are made of others

-- whether a fact fails is decided where the fact is
pub not_decided : (P : Type 0) → IsDecided P → IsDecided (P → ⊥)
not_decided P (inl holds) = inr (λ fails. fails holds)
not_decided P (inr fails) = inl fails

-- whether both hold is decided where each is
pub both_decided : (P Q : Type 0) → IsDecided P → IsDecided Q → IsDecided (P × Q)
both_decided P Q (inl p) (inl q) = inl (p, q)
both_decided P Q (inl p) (inr fails) = inr (λ both. fails both.1)
both_decided P Q (inr fails) other = inr (λ both. fails both.0)

-- whether the one implies the other is decided where each is
pub implied_decided : (P Q : Type 0) → IsDecided P → IsDecided Q → IsDecided (P → Q)
implied_decided P Q (inr fails) other = inl (λ p. absurd (fails p))
implied_decided P Q (inl p) (inl q) = inl (λ _. q)
implied_decided P Q (inl p) (inr fails) = inr (λ implies. fails (implies p))

-- facts that follow from each other are decided together
pub same_decided : (P Q : Type 0) → (P → Q) → (Q → P) → IsDecided P → IsDecided Q
same_decided P Q there back (inl p) = inl (there p)
same_decided P Q there back (inr fails) = inr (λ q. fails (back q))

-- whether a test passes is decided
pub test_decided : (test : Bool) → IsDecided (IsTrue test)
test_decided true = inl refl
test_decided false = inr false≢true

-- whether a number is at most another one is decided
pub le_decided : (one other : ℕ) → IsDecided (one ≤ other)
le_decided one other = elim (cases_lt other one) [
  | inl lt ↦ inr (λ le. omega (arith, lt, le))
  | inr ge ↦ inl ge
]

-- whether an option has a number with a fact is decided where the fact is of each
pub some_decided : (P : ℕ → Type 0) (found : Option ℕ) → ((number : ℕ) → IsDecided (P number)) → IsDecided ((number : ℕ) × (found ≡ Some number) × P number)
some_decided P None decided = inr (λ some. let none = some.1 in absurd cc)
some_decided P (Some number) decided = elim (decided number) [
  | inl holds ↦ inl (number, refl, holds)
  | inr fails ↦ inr (λ some. (let same : some.0 ≡ number = (let is = some.1 in cc) in fails (subst P same some.2)))
]

-- what is said of the value of an option is decided, where it is of each value
pub each_decided : {A : Type 0} (P : A → Type 0) (found : Option A) → ((x : A) → IsDecided (P x)) → IsDecided ((x : A) → found ≡ Some x → P x)
each_decided P None decided = inl (λ x e. absurd cc)
each_decided P (Some here) decided = elim (decided here) [
  | inl holds ↦ inl (λ x e. (let same : here ≡ x = cc in subst P same holds))
  | inr fails ↦ inr (λ all. fails (all here refl))
]

-- whether an option has a certain number is decided
pub is_some_decided : (found : Option ℕ) (number : ℕ) → IsDecided (found ≡ Some number)
is_some_decided None number = inr (λ e. absurd cc)
is_some_decided (Some other) number = elim (eqb_tells other number) [
  | inl same ↦ inl (let e = same.1 in cc)
  | inr apart ↦ inr (λ e. apart.1 cc)
]

-- ---- members of a list

module _ {X : Type 0} (P : X → Type 0) (decided : (x : X) → IsDecided (P x)) where
  -- Whether a member has something is decided where it is of each.
  pub some_member_decided : (xs : List X) → IsDecided ((x : X) × Contains xs x × P x)
  some_member_decided [] = inr (λ some. Contains-nil some.0 some.1)
  some_member_decided (first ∷ others) = elim (decided first) [
    | inl holds ↦ inl (first, (0, omega arith, refl), holds)
    | inr fails ↦ elim (some_member_decided others) [
      | inl some ↦ inl (some.0, Contains-tail first others some.0 some.1, some.2)
      | inr none ↦ inr (λ some. elim (Contains-cons_cases first others some.0 some.1) [
        | inl here ↦ fails (subst P (sym here) some.2)
        | inr later ↦ none (some.0, later, some.2)
      ])
    ]
  ]

module _ {X : Type 0} (P : X → Type 0) (decided : (x : X) → IsDecided (P x)) where
  -- a decided fact that cannot fail holds
  holds_where : (x : X) → ((P x → ⊥) → ⊥) → P x
  holds_where x never = elim (decided x) [
    | inl holds ↦ holds
    | inr fails ↦ absurd (never fails)
  ]

  -- Whether all have it is decided too.
  pub all_members_decided : (xs : List X) → IsDecided (All P xs)
  all_members_decided xs = elim (some_member_decided (λ x. P x → ⊥) (λ x. not_decided (P x) (decided x)) xs) [
    | inl some ↦ inr (λ all. some.2 (All-contains P xs some.0 all some.1))
    | inr none ↦ inl (All-from_members P xs (λ x member. holds_where x (λ fails. none (x, member, fails))))
  ]

  -- so is whether something follows from each member that has it
  pub from_each_decided : (Q : Type 0) (xs : List X) → IsDecided Q → IsDecided ((x : X) → Contains xs x → P x → Q)
  from_each_decided Q xs (inl q) = inl (λ x member holds. q)
  from_each_decided Q xs (inr fails) = elim (some_member_decided P decided xs) [
    | inl some ↦ inr (λ each. fails (each some.0 some.1 some.2))
    | inr none ↦ inl (λ x member holds. absurd (none (x, member, holds)))
  ]

-- a number that cannot be missing is there
pub Contains-from_never : (numbers : List ℕ) (number : ℕ) → ((Contains numbers number → ⊥) → ⊥) → Contains numbers number
Contains-from_never [] number never = absurd (never (λ member. omega (arith, member.1)))
Contains-from_never (first ∷ others) number never = by (nat_eq first number) refl (Contains-from_never others number)
  where
    by : (b : Bool) → nat_eq first number ≡ b → (((Contains others number → ⊥) → ⊥) → Contains others number) → Contains (first ∷ others) number
    by true same rest = (0, omega arith, eqb-true first number same)
    by false other rest =
        Contains-tail first others number
        (rest (λ missing. never (λ member.
        elim (Contains-cons_cases first others number member) [
          | inl here ↦ eqb-false first number other here
          | inr later ↦ missing later
        ])))
