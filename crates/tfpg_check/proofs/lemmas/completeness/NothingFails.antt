-- Of a round that passes no test fails.
use Rattle.std.proofs.Common.{◌≡◌, ◌⊎◌, ℕ, suc, ◌<◌, List, [], ◌∷◌, ◌++◌, map, take, drop, Some, slice_get, inl, inr, refl, sym, ap, subst, ◌∙◌, arith, append-nil, append_assoc}
use Rattle.std.proofs.lemmas.List.{map-append}
use Rattle.tfpg_base.proofs.lemmas.lists.Cuts.{cut_at}
use Rattle.tfpg_base.proofs.lemmas.lists.Ordered.{same_in_order}
use Rattle.tfpg_evidence.specs.declared.step.Step.{Step}
use Rattle.tfpg_log.specs.Log.{Logbook}
use Rattle.tfpg_clause.specs.Case.{Case, case_at}
use Rattle.tfpg_clause.specs.Trees.{Judged, IsRefutation, IsPartial}
use Rattle.tfpg_clause.specs.Paths.{judged_by, with_steps, IsRightNext}
use Rattle.tfpg_clause.proofs.lemmas.trees.TreeFronts.{partial_front, refutation_front}
use Rattle.tfpg_clause.proofs.lemmas.trees.LedPaths.{last_of_partial, last_of_refutation, no_partial, one_leaf}
use Rattle.tfpg_kernel.specs.declared.taken.BadStep.{BadStep}
use Rattle.tfpg_kernel.specs.Breaks.{IsFirstBroken}
use Rattle.tfpg_kernel.proofs.lemmas.FirstBroken.{breaks_wrong, breaks_alike}
use Rattle.tfpg_report.specs.declared.read_round.NamedSet.{NamedSet}
use Rattle.tfpg_report.specs.declared.read_round.Part.{Part}
use Rattle.tfpg_report.specs.declared.read_round.RankedLine.{RankedLine}
use Rattle.tfpg_report.specs.declared.read_round.ReadRound.{ReadRound}
use Rattle.tfpg_check.specs.Tests.{Fails, InTurn, Passes}
use Rattle.tfpg_check.specs.Judging.{RoundBasis, NumberedHypothesis, OpenFails, PartFails, RankedFails, RejectedFails, RoundFails, StepFails, named_hypothesis}
use Rattle.tfpg_check.specs.Passing.{PartPasses, RoundPasses}
use Rattle.tfpg_check.proofs.lemmas.completeness.RightRoundFacts.{case_by, one_case}

-- Where the test of each item passes, they pass in turn.
pub in_turn_passes : {X : Type 0} (test : List X → X → Fails) (before xs : List X)
    → ((index : ℕ) (x : X) → slice_get xs index ≡ Some x → Passes (test (before ++ take index xs) x)) → Passes (InTurn test before xs)
in_turn_passes test before [] each line cause fails = fails
in_turn_passes test before (x ∷ xs) each line cause (inl fails) = each 0 x refl line cause (subst (λ earlier. test earlier x line cause) (sym (append-nil before)) fails)
in_turn_passes test before (x ∷ xs) each line cause (inr later) =
    in_turn_passes test (before ++ x ∷ []) xs
    (λ index y at. subst (λ earlier. Passes (test earlier y)) (sym (append_assoc before (x ∷ []) (take index xs))) (each (suc index) y at)) line cause later.1

-- ---- steps

module _ (case : Case) where
  -- A step that is right next breaks no condition.
  breaks_none : (steps : List Judged) (next : Judged) (bad : BadStep) → IsFirstBroken case steps next bad → IsRightNext case steps next → ⊥
  breaks_none steps next bad (inl closed) right = no_partial case steps closed.1 right.leaf.partial
  breaks_none steps next bad (inr breaks) right =
      breaks_wrong (case_at case next.seen) right.place right.subtrees next.step bad
      (breaks_alike (case_at case next.seen) breaks.0 right.place (one_leaf case steps breaks.0 right.place breaks.1 right.leaf) next.step bad breaks.2) right.right

  -- In right steps each is right next after those before it.
  right_after : (front : List Judged) (next : Judged) (back : List Judged) → IsPartial case (front ++ next ∷ back) ⊎ IsRefutation case (front ++ next ∷ back) → IsRightNext case front next
  right_after front next back (inl partial) =
      last_of_partial case front next (partial_front case (front ++ next ∷ []) back (subst (IsPartial case) (sym (append_assoc front (next ∷ []) back)) partial))
  right_after front next [] (inr refutation) = last_of_refutation case front next refutation
  right_after front next (later ∷ back) (inr refutation) =
      last_of_partial case front next
      (refutation_front case (front ++ next ∷ []) later back (subst (IsRefutation case) (sym (append_assoc front (next ∷ []) (later ∷ back))) refutation))

  right_at : (log : Logbook) (before : List Judged) (steps : List Step) (index : ℕ) (step : Step) → slice_get steps index ≡ Some step
      → IsPartial case (with_steps before log steps) ⊎ IsRefutation case (with_steps before log steps) → IsRightNext case (with_steps before log (take index steps)) (judged_by log step)
  right_at log before steps index step at are =
      let rest : List Judged = map (judged_by log) (drop (suc index) steps) in
      let whole : with_steps before log steps ≡ with_steps before log (take index steps) ++ judged_by log step ∷ rest =
      ap (with_steps before log) (cut_at steps index step at)
      ∙ ap (λ (added : List Judged). before ++ added) (map-append (judged_by log) (take index steps) (step ∷ drop (suc index) steps))
      ∙ sym (append_assoc before (map (judged_by log) (take index steps)) (judged_by log step ∷ rest)) in
      right_after (with_steps before log (take index steps)) (judged_by log step) rest
      (subst (λ (all : List Judged). IsPartial case all ⊎ IsRefutation case all) whole are)

-- No step of a part that passes fails.
step_passes : (basis : RoundBasis) (earlier : List Part) (part : Part) → PartPasses basis earlier part → (index : ℕ) (step : Step) → slice_get part.steps index ≡ Some step
    → Passes (StepFails basis part (take index part.steps) step)
step_passes basis earlier part passes index step at line why fails =
    let same : case_by basis passes.may.hypothesis passes.reach ≡ case_by basis fails.hypothesis fails.reach =
    one_case basis part.number passes.may.hypothesis fails.hypothesis passes.reach fails.reach passes.may.listed fails.listed passes.reach_is fails.reach_is in
    let own : Case = case_by basis passes.may.hypothesis passes.reach in
    let steps : List Judged = with_steps (basis.steps part.number) basis.log (take index part.steps) in
    breaks_none own steps (judged_by basis.log step) fails.broken
    (subst (λ (c : Case). IsFirstBroken c steps (judged_by basis.log step) fails.broken) (sym same) fails.first)
    (right_at own basis.log (basis.steps part.number) part.steps index step at passes.steps)

module _ (basis : RoundBasis) (number : ℕ) (read : ReadRound) (passes : RoundPasses basis number read) where
  part_does_not_fail : (index : ℕ) (part : Part) → slice_get read.parts index ≡ Some part → Passes (PartFails basis (take index read.parts) part)
  part_does_not_fail index part at line why (inl fails) = fails.2 (passes.parts index part at).may
  part_does_not_fail index part at line why (inr fails) =
      in_turn_passes (StepFails basis part) [] part.steps (λ k step there. step_passes basis (take index read.parts) part (passes.parts index part at) k step there) line why fails.1

  ranked_does_not_fail : (index : ℕ) (r : RankedLine) → slice_get read.ranked index ≡ Some r → Passes (RankedFails basis read (take index read.ranked) r)
  ranked_does_not_fail index r at line why (inl fails) = fails.2 (passes.ranked index r at).may
  ranked_does_not_fail index r at line why (inr fails) = fails.1.2 (passes.ranked index r at).explains

  open_does_not_fail : (index : ℕ) (named : NamedSet) → slice_get read.unsettled index ≡ Some named → Passes (OpenFails basis read (take index read.unsettled) named)
  open_does_not_fail index named at line why fails = fails.2 (passes.unsettled index named at)

  -- there is one list of those that were closed now
  rejected_does_not_fail : Passes (RejectedFails basis read)
  rejected_does_not_fail line why fails =
      fails.differ.differ (ap (λ (named : List NumberedHypothesis). slice_get named fails.index)
      (same_in_order (λ (a b : NumberedHypothesis). a.number < b.number) (λ a b less more. omega (arith, less, more)) (map named_hypothesis read.rejected) fails.closed
      passes.rejected.rising fails.are.rising
      (λ x member. (fails.are.exact x.number x.hypothesis).1 ((passes.rejected.exact x.number x.hypothesis).0 member))
      (λ x member. (passes.rejected.exact x.number x.hypothesis).1 ((fails.are.exact x.number x.hypothesis).0 member))))

  -- What passes does not fail.
  pub does_not_fail : Passes (RoundFails basis number read)
  does_not_fail line why (inl fails) = fails.2 passes.begins
  does_not_fail line why (inr (_, inl fails)) = in_turn_passes (PartFails basis) [] read.parts part_does_not_fail line why fails
  does_not_fail line why (inr (_, inr (_, inl fails))) = in_turn_passes (RankedFails basis read) [] read.ranked ranked_does_not_fail line why fails
  does_not_fail line why (inr (_, inr (_, inr (_, inl fails)))) = in_turn_passes (OpenFails basis read) [] read.unsettled open_does_not_fail line why fails
  does_not_fail line why (inr (_, inr (_, inr (_, inr (_, inl fails))))) = rejected_does_not_fail line why fails
  does_not_fail line why (inr (_, inr (_, inr (_, inr (_, inr (_, inl fails)))))) = fails.2 passes.statuses
  does_not_fail line why (inr (_, inr (_, inr (_, inr (_, inr (_, inr fails)))))) = fails.1.2 passes.counts
