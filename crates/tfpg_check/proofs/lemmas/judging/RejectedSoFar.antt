-- The rejected lines so far are those of the hypotheses so far whose trees were closed in a round.
use Rattle.std.proofs.Common.{◌≡◌, ◌<◌, ℕ, ◌+◌, ◌∷◌, [], ◌++◌, List, Bool, true, false, Option, Some, None, length, take, map, slice_get, refl, sym, ap, subst, ◌∙◌, append-nil}
use Rattle.std.specs.Prelude.{option_map}
use Rattle.std.proofs.lemmas.List.{length-append}
use Rattle.std.proofs.lemmas.Option.{same_Some, slice_get-map}
use Rattle.tfpg_base.specs.Hypothesis.{Hypothesis}
use Rattle.tfpg_base.proofs.lemmas.lists.Cuts.{take-next}
use Rattle.tfpg_base.proofs.lemmas.lists.Elements.{slice_get-there}
use Rattle.tfpg_report.specs.declared.read_round.NamedSet.{NamedSet}
use Rattle.tfpg_report.specs.ReadRounds.{hypothesis_named}
use Rattle.tfpg_check.specs.declared.round.lookup.RoundLookup.{RoundLookup}
use Rattle.tfpg_check.specs.Judging.{NumberedHypothesis, named_hypothesis}
use Rattle.tfpg_check.specs.inside.Lookups.{is_newly_closed}
use Rattle.tfpg_check.specs.inside.Named.{Names}
use Rattle.tfpg_check.proofs.lemmas.judging.NewlyClosed.{passing_at, passing_below, passing_more, at_there}

-- a line that names a hypothesis is of it
named_is : (hypotheses : List Hypothesis) (number : ℕ) (hypothesis : Hypothesis) (named : NamedSet) → slice_get hypotheses number ≡ Some hypothesis → Names hypotheses number (Some named)
    → named_hypothesis named ≡ record { number = number; hypothesis = hypothesis }
named_is hypotheses number hypothesis named at names =
    let same : hypothesis_named named ≡ hypothesis = same_Some _ _ (sym names.1 ∙ at) in
    λ i. record { number = names.0 i; hypothesis = same i }

module _ (lookup : RoundLookup) where
  abbrev hypotheses : List Hypothesis
  hypotheses = lookup.table.now.hypotheses

  abbrev rejected : List NamedSet
  rejected = lookup.read.now.rejected

  abbrev lines : List NumberedHypothesis
  lines = map named_hypothesis lookup.read.now.rejected

  abbrev closed_below : ℕ → List NumberedHypothesis
  closed_below end = passing_below (is_newly_closed lookup) lookup.table.now.hypotheses end

  -- one line more, of the hypothesis whose turn it is
  pub rejected_more : (index number : ℕ) → number < length hypotheses → is_newly_closed lookup number ≡ true → take index lines ≡ closed_below number → length (closed_below number) ≡ index
      → Names hypotheses number (slice_get rejected index) → (take (index + 1) lines ≡ closed_below (number + 1)) × (length (closed_below (number + 1)) ≡ index + 1)
  rejected_more index number within newly same as_many names =
      let there = slice_get-there hypotheses number within in
      let named : NumberedHypothesis = record { number = number; hypothesis = there.0 } in
      let line = named_there (slice_get rejected index) refl names in
      let at : slice_get lines index ≡ Some named =
      slice_get-map named_hypothesis rejected index ∙ ap (option_map named_hypothesis) line.1 ∙ ap (λ (n : NumberedHypothesis). Some n)
      (named_is hypotheses number there.0 line.0 there.1 (subst (Names hypotheses number) line.1 names)) in
      let here : closed_below (number + 1) ≡ closed_below number ++ named ∷ [] =
      passing_more (is_newly_closed lookup) hypotheses number ∙ ap (λ (more : List NumberedHypothesis). closed_below number ++ more)
      (at_there (is_newly_closed lookup) hypotheses number there.0 newly there.1) in (
        take-next lines index named at ∙ ap (λ (front : List NumberedHypothesis). front ++ named ∷ []) same ∙ sym here,
        ap length here ∙ length-append (closed_below number) (named ∷ []) ∙ ap (λ (n : ℕ). n + 1) as_many,
      )
    where
      named_there : (found : Option NamedSet) → slice_get rejected index ≡ found → Names hypotheses number found → (line : NamedSet) × (slice_get rejected index ≡ Some line)
      named_there None is names = absurd names
      named_there (Some line) is names = (line, is)

  -- none more, where its tree was not closed in this round
  pub rejected_same : (index number : ℕ) → is_newly_closed lookup number ≡ false → take index lines ≡ closed_below number → length (closed_below number) ≡ index
      → (take index lines ≡ closed_below (number + 1)) × (length (closed_below (number + 1)) ≡ index)
  rejected_same index number newly same as_many =
      let here : closed_below (number + 1) ≡ closed_below number =
      passing_more (is_newly_closed lookup) hypotheses number ∙ ap (λ (passes : Bool). closed_below number ++ passing_at passes (slice_get hypotheses number) number) newly
      ∙ append-nil (closed_below number) in
      (same ∙ sym here, ap length here ∙ as_many)
