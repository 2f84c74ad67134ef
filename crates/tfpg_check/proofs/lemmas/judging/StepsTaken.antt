-- The steps of a part, taken one by one.
use Rattle.std.proofs.Common.{◌≡◌, ◌↔◌, ◌≤◌, ℕ, ◌+◌, ◌∷◌, [], ◌++◌, List, Some, None, length, take, map, slice_get, refl, sym, ap, subst, arith, ◌∙◌, append-nil, append_assoc}
use Rattle.std.proofs.lemmas.List.{length-take, map_push, take_all}
use Rattle.std.proofs.lemmas.Option.{slice_get_within}
use Rattle.tfpg_base.proofs.lemmas.lists.Cuts.{take-next}
use Rattle.tfpg_graph.specs.Graph.{Tfpg}
use Rattle.tfpg_log.specs.Log.{Logbook, GoesOn}
use Rattle.tfpg_evidence.specs.declared.step.Step.{Step}
use Rattle.tfpg_clause.specs.Case.{Case, case_of}
use Rattle.tfpg_clause.specs.Trees.{Judged}
use Rattle.tfpg_clause.specs.Paths.{judged_by, with_step, with_steps}
use Rattle.tfpg_kernel.specs.CheckerState.{CheckerState}
use Rattle.tfpg_kernel.specs.Represents.{CheckerRepresents, steps_after}
use Rattle.tfpg_kernel.specs.Breaks.{IsFirstBroken}
use Rattle.tfpg_kernel.specs.declared.taken.BadStep.{BadStep}
use Rattle.tfpg_kernel.specs.declared.taken.Taken.{Taken}
use Rattle.tfpg_kernel.specs.declared.taken.Taken.TheVariants.{Open, Closed, Bad}
use Rattle.tfpg_report.specs.declared.read_round.Part.{Part}
use Rattle.tfpg_check.specs.declared.cause.CheckCause.{CheckCause}
use Rattle.tfpg_check.specs.Tests.{InTurn}
use Rattle.tfpg_check.specs.Judging.{cause_of_step}
use Rattle.tfpg_check.specs.inside.InTurn.{HoldBefore, PassesWith}
use Rattle.tfpg_check.specs.inside.Parts.{StepBreaks, IsTakenAs, HasTaken, broken_by}
use Rattle.tfpg_check.proofs.lemmas.judging.TestsInTurn.{hold_before_none, hold_before_more, hold_before_all, in_turn_fails}

-- a log goes on from itself
pub goes_on_itself : (log : Logbook) → GoesOn log log
goes_on_itself log = record { more = []; events = sym (append-nil log.events); ignored = refl }

-- more room changes nothing
pub roomier : (graph : Tfpg) (log : Logbook) (old new : CheckerState) (steps : List Judged) → new ≡ record old { spare = new.spare } → CheckerRepresents graph log old steps
    → CheckerRepresents graph log new steps
roomier graph log old new steps same is = subst (λ (c : CheckerState). CheckerRepresents graph log c steps) (sym same) (record { steps_are = is.steps_are })

partial_not_bad : (bad : BadStep) → Open ≡ Bad bad → ⊥
partial_not_bad bad is = cc

closed_not_bad : (bad : BadStep) → Closed ≡ Bad bad → ⊥
closed_not_bad bad is = cc

-- what was taken of a step, by the checker's result
pub taken_as : (case : Case) (steps : List Judged) (step : Step) (after : CheckerState) (taken : Taken)
    → ((bad : BadStep) → (taken ≡ Bad bad) ↔ IsFirstBroken case steps (judged_by case.log step) bad) → CheckerRepresents case.graph case.log after (steps_after taken steps case.log step)
    → IsTakenAs case steps step after (broken_by taken)
taken_as case steps step after Open exact represents = (represents, λ bad breaks. partial_not_bad bad ((exact bad).1 breaks))
taken_as case steps step after Closed exact represents = (represents, λ bad breaks. closed_not_bad bad ((exact bad).1 breaks))
taken_as case steps step after (Bad bad) exact represents = (exact bad).0 refl

module _ (graph : Tfpg) (log : Logbook) (reach : List ℕ) (lines : List ℕ) (steps : List Step) (earlier : List Judged) where
  abbrev case : Case
  case = case_of graph log reach

  -- The checker represents the first steps too, and none of them is at fault.
  abbrev pub HasTakenFirst : CheckerState → ℕ → Type 0
  HasTakenFirst checker end =
      CheckerRepresents graph log checker (with_steps earlier log (take end steps)) × HoldBefore (PassesWith (StepBreaks (case_of graph log reach) earlier lines)) steps end

  pub taken_none : (checker : CheckerState) → CheckerRepresents graph log checker earlier → HasTakenFirst checker 0
  taken_none checker is = (
    subst (CheckerRepresents graph log checker) (sym (append-nil earlier)) is,
    hold_before_none (PassesWith (StepBreaks case earlier lines)) steps,
  )

  -- one step more is taken
  pub taken_more : (end : ℕ) (step : Step) (checker after : CheckerState) → slice_get steps end ≡ Some step → checker.reach ≡ reach → HasTakenFirst checker end
      → IsTakenAs (case_of graph log checker.reach) (with_steps earlier log (take end steps)) step after None → HasTakenFirst after (end + 1)
  taken_more end step checker after at same before here =
      let taken = subst (λ (nodes : List ℕ). IsTakenAs (case_of graph log nodes) (with_steps earlier log (take end steps)) step after None) same here in
      let more : with_step (with_steps earlier log (take end steps)) log step ≡ with_steps earlier log (take (end + 1) steps) =
      append_assoc earlier (map (judged_by log) (take end steps)) (judged_by log step ∷ [])
      ∙ ap (λ (added : List Judged). earlier ++ added) (sym (map_push (judged_by log) (take end steps) step) ∙ ap (map (judged_by log)) (sym (take-next steps end step at))) in (
        subst (CheckerRepresents graph log after) more taken.0,
        hold_before_more (PassesWith (StepBreaks case earlier lines)) steps end step at before.1 (λ line why fails. taken.1 fails.0 fails.3),
      )

  -- a step is at fault
  pub taken_bad : (end line : ℕ) (step : Step) (checker after : CheckerState) (broken : BadStep) (why : CheckCause) → slice_get steps end ≡ Some step → slice_get lines end ≡ Some line
      → why ≡ cause_of_step broken → checker.reach ≡ reach → HasTakenFirst checker end
      → IsTakenAs (case_of graph log checker.reach) (with_steps earlier log (take end steps)) step after (Some broken)
      → InTurn (StepBreaks (case_of graph log reach) earlier lines) [] steps line why
  taken_bad end line step checker after broken why at stands cause same before here =
      let first = subst (λ (nodes : List ℕ). IsFirstBroken (case_of graph log nodes) (with_steps earlier log (take end steps)) (judged_by log step) broken) same here in
      let all : length (take end steps) ≡ end = omega (arith, length-take end steps, slice_get_within steps end step at) in
      in_turn_fails (StepBreaks case earlier lines) steps end step line why at before.1 (broken, ap (slice_get lines) all ∙ stands, cause, first)

-- all steps of a part are taken
pub taken_all : (graph : Tfpg) (log : Logbook) (reach : List ℕ) (part : Part) (earlier : List Judged) (checker : CheckerState) (end : ℕ) → length part.steps ≤ end
    → HasTakenFirst graph log reach part.step_lines part.steps earlier checker end → HasTaken (case_of graph log reach) earlier part checker
taken_all graph log reach part earlier checker end all before = record {
  represents = subst (λ (steps : List Step). CheckerRepresents graph log checker (with_steps earlier log steps)) (take_all end part.steps all) before.0;
  none_breaks = hold_before_all (PassesWith (StepBreaks (case_of graph log reach) earlier part.step_lines)) part.steps end all before.1;
}
