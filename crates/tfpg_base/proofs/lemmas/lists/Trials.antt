-- What a search by trial finds: the least or the greatest number up to a limit that passes, wherever one passes.
use Rattle.std.proofs.Common.{◌≡◌, ℕ, zero, suc, ◌<◌, ◌≤◌, Bool, true, false, cond, inl, inr, Option, Some, None, refl, ap, subst, ◌∙◌, arith}
use Rattle.std.specs.Prelude.{MatchOption}
use Rattle.std.proofs.lemmas.Bool.{both_ways, cases_eq, cases_lt}
use Rattle.std.specs.Option.{option_or}
use Rattle.tfpg_base.specs.Trials.{least, greatest}

-- no number up to the limit passes
abbrev pub NonePassesUpTo : (ℕ → Bool) → ℕ → Type 0
NonePassesUpTo passes limit = (number : ℕ) → number ≤ limit → passes number ≡ false

-- the number is the least up to the limit that passes
pub record IsLeast (passes : ℕ → Bool) (limit found : ℕ) : Type 0 where
  pub within : found ≤ limit
  pub here : passes found ≡ true
  pub none_below : (number : ℕ) → number < found → passes number ≡ false

-- the number is the greatest up to the limit that passes
pub record IsGreatest (passes : ℕ → Bool) (limit found : ℕ) : Type 0 where
  pub within : found ≤ limit
  pub here : passes found ≡ true
  pub none_above : (number : ℕ) → found < number → number ≤ limit → passes number ≡ false

module _ (passes : ℕ → Bool) where
  -- where nothing passed, nor does the next
  none_more : (limit : ℕ) → NonePassesUpTo passes limit → passes (suc limit) ≡ false → NonePassesUpTo passes (suc limit)
  none_more limit none fails number upto = elim (cases_eq (suc limit) number) [
    | inl same ↦ subst (λ n. passes n ≡ false) same fails
    | inr unlike ↦ none number (omega (arith, unlike))
  ]

  none_at_zero : passes 0 ≡ false → NonePassesUpTo passes 0
  none_at_zero fails number upto = let same : 0 ≡ number = omega arith in subst (λ n. passes n ≡ false) same fails

  -- ---- the least

  least_at_zero : (b : Bool) → passes 0 ≡ b → MatchOption (cond b (Some 0) None) (NonePassesUpTo passes 0) (IsLeast passes 0)
  least_at_zero true here = record { within = omega arith; here = here; none_below = λ number below. absurd (omega arith) }
  least_at_zero false fails = none_at_zero fails

  least_more : (limit : ℕ) (so_far : Option ℕ) (b : Bool) → passes (suc limit) ≡ b → MatchOption so_far (NonePassesUpTo passes limit) (IsLeast passes limit)
      → MatchOption (option_or so_far (cond b (Some (suc limit)) None)) (NonePassesUpTo passes (suc limit)) (IsLeast passes (suc limit))
  least_more limit (Some found) b at is = record { within = omega (arith, is.within); here = is.here; none_below = is.none_below }
  least_more limit None true here none = record { within = omega arith; here = here; none_below = λ number below. none number (omega arith) }
  least_more limit None false fails none = none_more limit none fails

  -- The search finds the least, or nothing passes.
  pub least_found : (limit : ℕ) → MatchOption (least passes limit) (NonePassesUpTo passes limit) (IsLeast passes limit)
  least_found zero = least_at_zero (passes 0) refl
  least_found (suc limit) = least_more limit (least passes limit) (passes (suc limit)) refl (least_found limit)

  -- ---- the greatest

  greatest_at_zero : (b : Bool) → passes 0 ≡ b → MatchOption (cond b (Some 0) None) (NonePassesUpTo passes 0) (IsGreatest passes 0)
  greatest_at_zero true here = record { within = omega arith; here = here; none_above = λ number above upto. absurd (omega arith) }
  greatest_at_zero false fails = none_at_zero fails

  greatest_before : (limit : ℕ) (so_far : Option ℕ) → passes (suc limit) ≡ false → MatchOption so_far (NonePassesUpTo passes limit) (IsGreatest passes limit)
      → MatchOption so_far (NonePassesUpTo passes (suc limit)) (IsGreatest passes (suc limit))
  greatest_before limit None fails none = none_more limit none fails
  greatest_before limit (Some found) fails is = record {
    within = omega (arith, is.within);
    here = is.here;
    none_above = λ number above upto. elim (cases_eq (suc limit) number) [
      | inl same ↦ subst (λ n. passes n ≡ false) same fails
      | inr unlike ↦ is.none_above number above (omega (arith, unlike))
    ];
  }

  greatest_more : (limit : ℕ) (so_far : Option ℕ) (b : Bool) → passes (suc limit) ≡ b → MatchOption so_far (NonePassesUpTo passes limit) (IsGreatest passes limit)
      → MatchOption (cond b (Some (suc limit)) so_far) (NonePassesUpTo passes (suc limit)) (IsGreatest passes (suc limit))
  greatest_more limit so_far true here is = record { within = omega arith; here = here; none_above = λ number above upto. absurd (omega arith) }
  greatest_more limit so_far false fails is = greatest_before limit so_far fails is

  -- The search finds the greatest, or nothing passes.
  pub greatest_found : (limit : ℕ) → MatchOption (greatest passes limit) (NonePassesUpTo passes limit) (IsGreatest passes limit)
  greatest_found zero = greatest_at_zero (passes 0) refl
  greatest_found (suc limit) = greatest_more limit (greatest passes limit) (passes (suc limit)) refl (greatest_found limit)

  -- ---- where some number passes

  something : (limit number : ℕ) (found : Option ℕ) (Q : ℕ → Type 0) → number ≤ limit → passes number ≡ true → MatchOption found (NonePassesUpTo passes limit) Q
      → (at : ℕ) × (found ≡ Some at) × Q at
  something limit number None Q upto here none = absurd (both_ways (passes number) (none number upto) here)
  something limit number (Some at) Q upto here is = (at, refl, is)

  -- Where some number passes, there is a least one, and the search finds it.
  pub least_there : (limit number : ℕ) → number ≤ limit → passes number ≡ true → (at : ℕ) × (least passes limit ≡ Some at) × IsLeast passes limit at
  least_there limit number upto here = something limit number (least passes limit) (IsLeast passes limit) upto here (least_found limit)

  -- So it is with the greatest.
  pub greatest_there : (limit number : ℕ) → number ≤ limit → passes number ≡ true → (at : ℕ) × (greatest passes limit ≡ Some at) × IsGreatest passes limit at
  greatest_there limit number upto here = something limit number (greatest passes limit) (IsGreatest passes limit) upto here (greatest_found limit)

  -- The least that passes is not above one that passes.
  pub least_upto : (limit found number : ℕ) → IsLeast passes limit found → passes number ≡ true → found ≤ number
  least_upto limit found number is here = elim (cases_lt number found) [
    | inl below ↦ absurd (both_ways (passes number) (is.none_below number below) here)
    | inr upto ↦ upto
  ]

  -- The greatest is not below one.
  pub greatest_from : (limit found number : ℕ) → IsGreatest passes limit found → number ≤ limit → passes number ≡ true → number ≤ found
  greatest_from limit found number is within here = elim (cases_lt found number) [
    | inl above ↦ absurd (both_ways (passes number) (is.none_above number above within) here)
    | inr upto ↦ upto
  ]

-- ---- searches by tests that agree

-- the tests agree on each number up to a limit
abbrev pub AgreeUpTo : (ℕ → Bool) → (ℕ → Bool) → ℕ → Type 0
AgreeUpTo passes tests limit = (number : ℕ) → number ≤ limit → passes number ≡ tests number

module _ (passes tests : ℕ → Bool) where
  -- so they do up to any lesser one
  pub agree_below : (limit : ℕ) → AgreeUpTo passes tests (suc limit) → AgreeUpTo passes tests limit
  agree_below limit agree number upto = agree number (omega arith)

  -- They have the same least number,
  pub least_same : (limit : ℕ) → AgreeUpTo passes tests limit → least passes limit ≡ least tests limit
  least_same zero agree = ap (λ b. cond b (Some 0) None) (agree 0 (omega arith))
  least_same (suc limit) agree =
      ap (λ so_far. option_or so_far (cond (passes (suc limit)) (Some (suc limit)) None)) (least_same limit (agree_below limit agree))
      ∙ ap (λ b. option_or (least tests limit) (cond b (Some (suc limit)) None)) (agree (suc limit) (omega arith))

  -- and the same greatest one.
  pub greatest_same : (limit : ℕ) → AgreeUpTo passes tests limit → greatest passes limit ≡ greatest tests limit
  greatest_same zero agree = ap (λ b. cond b (Some 0) None) (agree 0 (omega arith))
  greatest_same (suc limit) agree =
      ap (λ so_far. cond (passes (suc limit)) (Some (suc limit)) so_far) (greatest_same limit (agree_below limit agree))
      ∙ ap (λ b. cond b (Some (suc limit)) (greatest tests limit)) (agree (suc limit) (omega arith))
