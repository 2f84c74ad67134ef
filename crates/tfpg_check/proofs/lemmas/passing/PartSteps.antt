-- The steps that a round that passes has for each hypothesis.
use Rattle.std.proofs.Common.{◌≡◌, ◌⊎◌, ℕ, ◌<◌, List, [], take, Option, Some, None, slice_get, eqb, inl, inr, refl, sym, ap, subst, ◌∙◌, arith, append-nil}
use Rattle.std.specs.List.{AllPairs, Contains}
use Rattle.std.specs.Prelude.{find, option_map, unwrap_or}
use Rattle.std.proofs.lemmas.Bool.{eqb-true, eq-eqb, ne_eqb}
use Rattle.std.proofs.lemmas.Option.{same_Some}
use Rattle.tfpg_base.specs.Hypothesis.{Hypothesis}
use Rattle.tfpg_base.proofs.lemmas.lists.Elements.{AllPairs-at, slice_get-contains}
use Rattle.tfpg_base.proofs.lemmas.lists.FirstFound.{find_first, find-passes}
use Rattle.tfpg_graph.proofs.lemmas.reach.Reaches.{reach_is_one}
use Rattle.tfpg_clause.specs.Trees.{Judged}
use Rattle.tfpg_clause.specs.Paths.{with_steps}
use Rattle.tfpg_hyp.specs.Views.{IsReachOf, case_for}
use Rattle.tfpg_report.specs.declared.read_round.Part.{Part}
use Rattle.tfpg_report.specs.declared.read_round.ReadRound.{ReadRound}
use Rattle.tfpg_check.specs.Judging.{RoundBasis, steps_read}
use Rattle.tfpg_check.specs.Passing.{PartPasses, RoundPasses}
use Rattle.tfpg_check.proofs.lemmas.passing.ByNumber.{AllPairs-from_before}
use Rattle.tfpg_check.proofs.lemmas.passing.StepsSoFar.{AreRightSteps, EachHasRightSteps}

-- all steps of the hypothesis of a number, with those of the round
abbrev pub steps_now : RoundBasis → ReadRound → ℕ → List Judged
steps_now basis read number = with_steps (basis.steps number) basis.log (steps_read read number)

-- The part has the steps of the hypothesis of the number.
pub record IsPartOf (read : ReadRound) (number : ℕ) (part : Part) : Type 0 where
  pub stands : Contains read.parts part
  pub numbered : part.number ≡ number
  pub steps_are : steps_read read number ≡ part.steps

-- some part has the steps of the number, or there are none
pub part_or_none : (read : ReadRound) (number : ℕ) → ((part : Part) × IsPartOf read number part) ⊎ (steps_read read number ≡ [])
part_or_none read number = by (find (λ (part : Part). eqb part.number number) read.parts) refl
  where
    by : (found : Option Part) → find (λ (part : Part). eqb part.number number) read.parts ≡ found
        → ((part : Part) × IsPartOf read number part) ⊎ (steps_read read number ≡ [])
    by None none = inr (ap (λ (found : Option Part). unwrap_or (option_map (λ (part : Part). part.steps) found) []) none)
    by (Some part) there =
        let is = find-passes (λ (p : Part). eqb p.number number) read.parts part there in
        inl (
          part,
          record {
            stands = is.0;
            numbered = eqb-true part.number number is.1;
            steps_are = ap (λ (found : Option Part). unwrap_or (option_map (λ (p : Part). p.steps) found) []) there;
          },
        )

module _ (basis : RoundBasis) (line : ℕ) (read : ReadRound) (passes : RoundPasses basis line read) where
  -- the numbers of the parts rise
  pub parts_rise : AllPairs (λ (earlier later : Part). earlier.number < later.number) read.parts
  parts_rise = AllPairs-from_before (λ (earlier later : Part). earlier.number < later.number) read.parts (λ index part at. (passes.parts index part at).may.rising)

  -- the steps of a part are those of its number
  pub steps_of_part : (part : Part) → Contains read.parts part → steps_read read part.number ≡ part.steps
  steps_of_part part stands =
      ap (λ (found : Option Part). unwrap_or (option_map (λ (p : Part). p.steps) found) [])
      (find_first (λ (p : Part). eqb p.number part.number) read.parts stands.0 part (slice_get-contains read.parts part stands) (eq-eqb part.number part.number refl)
      (λ earlier other before there. ne_eqb other.number part.number
      (λ same. (let less : other.number < part.number = AllPairs-at (λ (a b : Part). a.number < b.number) read.parts earlier stands.0 other part parts_rise there (slice_get-contains read.parts part stands) before in
      omega (arith, same, less)))))

  -- With those of the round the steps of each hypothesis are right.
  pub right_now : EachHasRightSteps basis.graph basis.log basis.hypotheses basis.steps → EachHasRightSteps basis.graph basis.log basis.hypotheses (steps_now basis read)
  right_now before number hypothesis at reach is = elim (part_or_none read number) [
    | inl found ↦ by found.0 (take found.1.stands.0 read.parts) found.1 (passes.parts found.1.stands.0 found.0 (slice_get-contains read.parts found.0 found.1.stands))
    | inr none ↦ subst (AreRightSteps (case_for basis.graph basis.log hypothesis reach)) (sym (ap (with_steps (basis.steps number) basis.log) none ∙ append-nil (basis.steps number)))
        (before number hypothesis at reach is)
  ]
    where
      by : (part : Part) (others : List Part) → IsPartOf read number part → PartPasses basis others part → AreRightSteps (case_for basis.graph basis.log hypothesis reach) (steps_now basis read number)
      by part others own one =
          let same : one.may.hypothesis ≡ hypothesis =
          same_Some one.may.hypothesis hypothesis (sym one.may.listed ∙ ap (slice_get basis.hypotheses) own.numbered ∙ at) in
          let same_reach : one.reach ≡ reach =
          reach_is_one basis.graph hypothesis.set one.reach (subst (λ (h : Hypothesis). IsReachOf basis.graph h one.reach) same one.reach_is) reach is in
          let same_steps : with_steps (basis.steps part.number) basis.log part.steps ≡ steps_now basis read number =
          λ i. with_steps (basis.steps (own.numbered i)) basis.log (sym own.steps_are i) in
          subst (λ (nodes : List ℕ). AreRightSteps (case_for basis.graph basis.log hypothesis nodes) (steps_now basis read number)) same_reach
          (subst (λ (h : Hypothesis). AreRightSteps (case_for basis.graph basis.log h one.reach) (steps_now basis read number)) same
          (subst (AreRightSteps (case_for basis.graph basis.log one.may.hypothesis one.reach)) same_steps one.steps))
