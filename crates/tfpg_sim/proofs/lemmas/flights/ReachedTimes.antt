-- When some or each of several times is reached, time by time.
use Rattle.std.proofs.Common.{◌≡◌, ℕ, ◌+◌, ◌<◌, ◌≤◌, ◌↔◌, max, inl, inr, ⊎_elim, List, get_or, Option, Some, None, sym, ap, subst, ◌∙◌, arith}
use Rattle.std.proofs.Math.Nat.{min-eq_left, min-eq_right, min-le_left, min-le_right}
use Rattle.std.proofs.lemmas.Bool.{cases_lt}
use Rattle.tfpg_base.proofs.lemmas.lists.Sequences.{below_or_last}
use Rattle.tfpg_base.specs.Choice.{earlier}
use Rattle.tfpg_sim.specs.inside.Flights.{IsReached, ReachedByEither}

-- the earlier of two times is reached where one of them is
pub earlier-reached : (one other result : Option ℕ) → result ≡ earlier one other → (x : ℕ) → IsReached result x ↔ ReachedByEither one other x
earlier-reached one other result is x = subst (λ r. IsReached r x ↔ ReachedByEither one other x) (sym is) (by one other) where
  by : (one other : Option ℕ) → IsReached (earlier one other) x ↔ ReachedByEither one other x
  by None other = (λ reached. inr reached, λ either. ⊎_elim (λ none. absurd none) (λ reached. reached) either)
  by (Some a) None = (λ reached. inl reached, λ either. ⊎_elim (λ reached. reached) (λ none. absurd none) either)
  by (Some a) (Some b) = (
    (λ reached. ⊎_elim (λ less. inl (let within : a ≤ b = omega arith in subst (λ m. m ≤ x) (min-eq_left within) reached))
        (λ more. inr (subst (λ m. m ≤ x) (min-eq_right more) reached)) (cases_lt a b)),
    (λ either. ⊎_elim (λ first. omega (arith, min-le_left a b, first)) (λ second. omega (arith, min-le_right a b, second)) either),
  )

-- each of the first times is reached
abbrev pub EachBelow : List (Option ℕ) → ℕ → ℕ → Type 0
EachBelow times count instant = (index : ℕ) → index < count → IsReached (get_or times index None) instant

-- some of them is
abbrev pub SomeBelow : List (Option ℕ) → ℕ → ℕ → Type 0
SomeBelow times count instant = (index : ℕ) × (index < count) × IsReached (get_or times index None) instant

module _ (times : List (Option ℕ)) (count : ℕ) where
  pub each_more : (last time : ℕ) → get_or times count None ≡ Some time → ((x : ℕ) → (last ≤ x) ↔ EachBelow times count x)
      → (x : ℕ) → (max time last ≤ x) ↔ EachBelow times (count + 1) x
  each_more last time is before x = (
    (λ reached index within. ⊎_elim (λ less. (before x).0 (omega arith) index less)
        (λ same. subst (λ n. IsReached (get_or times n None) x) (sym same) (subst (λ t. IsReached t x) (sym is) (omega arith))) (below_or_last index count within)),
    (λ each. let one : time ≤ x = subst (λ t. IsReached t x) is (each count (omega arith)) in
        let others : last ≤ x = (before x).1 (λ index less. each index (omega arith)) in omega arith),
  )

  pub some_more : (first time result : Option ℕ) → get_or times count None ≡ time → ((x : ℕ) → IsReached first x ↔ SomeBelow times count x)
      → ((x : ℕ) → IsReached result x ↔ ReachedByEither first time x) → (x : ℕ) → IsReached result x ↔ SomeBelow times (count + 1) x
  some_more first time result is before either x = (
    (λ reached. ⊎_elim (λ old. let some = (before x).0 old in (some.0, omega (arith, some.1), some.2))
        (λ new. (count, omega arith, subst (λ t. IsReached t x) (sym is) new)) ((either x).0 reached)),
    (λ some. (either x).1 (⊎_elim (λ less. inl ((before x).1 (some.0, less, some.2)))
        (λ same. inr (subst (λ t. IsReached t x) (ap (λ n. get_or times n None) same ∙ is) some.2)) (below_or_last some.0 count some.1))),
  )
