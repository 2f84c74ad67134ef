-- The hypotheses that pass a test, by their numbers up to one.
use Rattle.std.proofs.Common.{◌≡◌, ◌≤◌, ◌<◌, ℕ, zero, suc, ◌+◌, ◌∷◌, [], ◌++◌, List, Bool, true, false, Option, Some, None, length, slice_get, inl, inr, refl, sym, ap, subst, arith, ◌∙◌, append-nil, append_assoc, add-one}
use Rattle.std.specs.List.{AllPairs, Contains}
use Rattle.tfpg_base.specs.Hypothesis.{Hypothesis}
use Rattle.std.proofs.lemmas.List.{length-append}
use Rattle.std.proofs.lemmas.List.Elements.{Contains-append_left, Contains-append_cases}
use Rattle.tfpg_base.proofs.lemmas.lists.Elements.{Contains-nil, Contains-one, Contains-middle}
use Rattle.tfpg_base.proofs.lemmas.lists.Sequences.{below_or_last}
use Rattle.tfpg_base.proofs.lemmas.lists.Ordered.{AllPairs-nil, AllPairs-append}
use Rattle.tfpg_check.specs.Judging.{NumberedHypothesis}

-- the hypothesis of a number, if it is there and passes
abbrev pub passing_at : Bool → Option Hypothesis → ℕ → List NumberedHypothesis
passing_at false found number = []
passing_at true None number = []
passing_at true (Some hypothesis) number = record { number = number; hypothesis = hypothesis } ∷ []

module _ (test : ℕ → Bool) (hypotheses : List Hypothesis) where
  -- those below a number that pass, by rising numbers
  abbrev pub passing_below : ℕ → List NumberedHypothesis
  passing_below zero = []
  passing_below (suc end) = passing_below end ++ passing_at (test end) (slice_get hypotheses end) end

  pub passing_more : (end : ℕ) → passing_below (end + 1) ≡ passing_below end ++ passing_at (test end) (slice_get hypotheses end) end
  passing_more end = ap passing_below (add-one end)

  -- one that passes there
  abbrev PassesAt : NumberedHypothesis → Type 0
  PassesAt named = (test named.number ≡ true) × (slice_get hypotheses named.number ≡ Some named.hypothesis)

  at_only : (number : ℕ) (named : NumberedHypothesis) → Contains (passing_at (test number) (slice_get hypotheses number) number) named → (named.number ≡ number) × PassesAt named
  at_only number named member = by (test number) refl (slice_get hypotheses number) refl member
    where
      by : (passes : Bool) → test number ≡ passes → (found : Option Hypothesis) → slice_get hypotheses number ≡ found → Contains (passing_at passes found number) named
          → (named.number ≡ number) × PassesAt named
      by false fails found at member = absurd (Contains-nil named member)
      by true passes None at member = absurd (Contains-nil named member)
      by true passes (Some hypothesis) at member =
          let same = Contains-one (record { number = number; hypothesis = hypothesis }) named member in
          let own : number ≡ named.number = ap (λ (n : NumberedHypothesis). n.number) same in (
            sym own,
            (ap test (sym own) ∙ passes, ap (slice_get hypotheses) (sym own) ∙ at ∙ ap (λ (n : NumberedHypothesis). Some n.hypothesis) same),
          )

  pub at_there : (number : ℕ) (hypothesis : Hypothesis) → test number ≡ true → slice_get hypotheses number ≡ Some hypothesis
      → passing_at (test number) (slice_get hypotheses number) number ≡ record { number = number; hypothesis = hypothesis } ∷ []
  at_there number hypothesis passes at = λ i. passing_at (passes i) (at i) number

  -- only those below the end that pass
  pub below_only : (end : ℕ) (named : NumberedHypothesis) → Contains (passing_below end) named → (named.number < end) × PassesAt named
  below_only zero named member = absurd (Contains-nil named member)
  below_only (suc end) named member = elim (Contains-append_cases (passing_below end) (passing_at (test end) (slice_get hypotheses end) end) named member) [
    | inl earlier ↦ (let own = below_only end named earlier in (omega (arith, own.0), own.1))
    | inr here ↦ (let own = at_only end named here in (omega (arith, own.0), own.1))
  ]

  -- and each of them
  pub below_each : (end number : ℕ) (hypothesis : Hypothesis) → number < end → test number ≡ true → slice_get hypotheses number ≡ Some hypothesis
      → Contains (passing_below end) (record { number = number; hypothesis = hypothesis })
  below_each zero number hypothesis less passes at = absurd (omega (arith, less))
  below_each (suc end) number hypothesis less passes at = elim (below_or_last number end (omega (arith, less))) [
    | inl earlier ↦ Contains-append_left (passing_below end) (passing_at (test end) (slice_get hypotheses end) end) _ (below_each end number hypothesis earlier passes at)
    | inr same ↦
        subst (λ (n : ℕ). Contains (passing_below n ++ passing_at (test n) (slice_get hypotheses n) n) (record { number = number; hypothesis = hypothesis })) same
        (subst (λ (here : List NumberedHypothesis). Contains (passing_below number ++ here) (record { number = number; hypothesis = hypothesis })) (sym (at_there number hypothesis passes at))
        (Contains-middle (passing_below number) (record { number = number; hypothesis = hypothesis }) []))
  ]

  -- their numbers rise
  pub below_rises : (end : ℕ) → AllPairs (λ (earlier later : NumberedHypothesis). earlier.number < later.number) (passing_below end)
  below_rises zero = AllPairs-nil (λ (earlier later : NumberedHypothesis). earlier.number < later.number)
  below_rises (suc end) =
      AllPairs-append (λ (earlier later : NumberedHypothesis). earlier.number < later.number) (passing_below end) (passing_at (test end) (slice_get hypotheses end) end) (below_rises end)
      (one_rises end)
      (λ earlier later before here. omega (arith, (below_only end earlier before).0, (at_only end later here).0))
    where
      one_rises : (number : ℕ) → AllPairs (λ (earlier later : NumberedHypothesis). earlier.number < later.number) (passing_at (test number) (slice_get hypotheses number) number)
      one_rises number = by (test number) (slice_get hypotheses number)
        where
          by : (passes : Bool) (found : Option Hypothesis) → AllPairs (λ (earlier later : NumberedHypothesis). earlier.number < later.number) (passing_at passes found number)
          by false found = AllPairs-nil (λ (earlier later : NumberedHypothesis). earlier.number < later.number)
          by true None = AllPairs-nil (λ (earlier later : NumberedHypothesis). earlier.number < later.number)
          by true (Some hypothesis) = λ i j d before within. absurd (omega (arith, before, within))

  -- what comes after those below a number
  pub below_front : (end number : ℕ) → number ≤ end → (rest : List NumberedHypothesis) × (passing_below end ≡ passing_below number ++ rest)
  below_front zero number least = ([], sym (append-nil (passing_below number) ∙ nothing_below number least))
    where
      nothing_below : (number : ℕ) → number ≤ 0 → passing_below number ≡ []
      nothing_below zero least = refl
      nothing_below (suc number) least = absurd (omega (arith, least))
  below_front (suc end) number least = elim (below_or_last number (suc end) (omega (arith, least))) [
    | inl earlier ↦ (let rest = below_front end number (omega (arith, earlier)) in (
      rest.0 ++ passing_at (test end) (slice_get hypotheses end) end,
      ap (λ (front : List NumberedHypothesis). front ++ passing_at (test end) (slice_get hypotheses end) end) rest.1
          ∙ append_assoc (passing_below number) rest.0 (passing_at (test end) (slice_get hypotheses end) end),
    ))
    | inr same ↦ ([], ap passing_below (sym same) ∙ sym (append-nil (passing_below number)))
  ]

  -- one that passes stands right after those below its number
  pub next_passing : (end number : ℕ) (hypothesis : Hypothesis) → number < end → test number ≡ true → slice_get hypotheses number ≡ Some hypothesis
      → (rest : List NumberedHypothesis) × (passing_below end ≡ passing_below number ++ record { number = number; hypothesis = hypothesis } ∷ rest)
  next_passing end number hypothesis less passes at =
      let rest = below_front end (number + 1) (omega (arith, less)) in (
        rest.0,
        rest.1 ∙ ap (λ (front : List NumberedHypothesis). front ++ rest.0)
            (passing_more number ∙ ap (λ (here : List NumberedHypothesis). passing_below number ++ here) (at_there number hypothesis passes at))
            ∙ append_assoc (passing_below number) (record { number = number; hypothesis = hypothesis } ∷ []) rest.0,
      )

  -- there are not more than that number
  pub below_few : (end : ℕ) → length (passing_below end) ≤ end
  below_few zero = omega arith
  below_few (suc end) =
      omega (arith, below_few end, length-append (passing_below end) (passing_at (test end) (slice_get hypotheses end) end), at_most_one (test end) (slice_get hypotheses end))
    where
      at_most_one : (passes : Bool) (found : Option Hypothesis) → length (passing_at passes found end) ≤ 1
      at_most_one false found = omega arith
      at_most_one true None = omega arith
      at_most_one true (Some hypothesis) = omega arith
