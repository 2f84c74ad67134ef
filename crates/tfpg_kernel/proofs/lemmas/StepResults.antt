-- The results of a checker are those of the definitions, by the laws of trees.
use Rattle.std.proofs.Common.{◌≡◌, ℕ, List, Bool, true, false, refl, sym, ap, subst, inl, inr}
use Rattle.tfpg_graph.specs.Graph.{Tfpg}
use Rattle.tfpg_log.specs.Log.{Logbook, GoesOn, IsOrdered}
use Rattle.tfpg_evidence.specs.declared.step.Step.{Step}
use Rattle.tfpg_evidence.specs.declared.step.Step.TheVariants.{Split, Cycle, Again}
use Rattle.tfpg_clause.specs.Case.{Case, case_of, case_at}
use Rattle.tfpg_clause.specs.Trees.{Judged, Chosen, TreePlace, stated, IsRefutation, IsPartial}
use Rattle.tfpg_clause.specs.Laws.{PresentLeavesAreAlone, RefutationsAreNotPartial, LastStepsOfRefutationsAreRight, LastStepsOfPartialTreesAreRight, RefutationsStay, PathsStay, PathsFollowSteps, PathsAreThoseOfPresentLeaves, LastLeavesEndInRefutations}
use Rattle.tfpg_clause.specs.Paths.{judged_by, with_step, HasPath, IsPathOf, IsRightNext}
use Rattle.tfpg_clause.specs.declared.path.PathSplit.{PathSplit}
use Rattle.tfpg_clause.proofs.lemmas.trees.LeafSteps.{whole_case}
use Rattle.tfpg_kernel.specs.declared.taken.Taken.{Taken}
use Rattle.tfpg_kernel.specs.declared.taken.Taken.TheVariants.{Open, Closed, Bad}
use Rattle.tfpg_kernel.specs.declared.taken.BadStep.{BadStep}
use Rattle.tfpg_kernel.specs.declared.taken.BadStep.TheVariants.{AfterClosed}
use Rattle.tfpg_kernel.specs.CheckerState.{CheckerState}
use Rattle.tfpg_kernel.specs.Breaks.{CycleBreaks, BreaksAt, IsFirstBroken}
use Rattle.tfpg_kernel.specs.Represents.{Represented, CheckerRepresents}
use Rattle.tfpg_kernel.specs.inside.StepResults.{IsStepResult}
use Rattle.tfpg_kernel.specs.inside.Paths.{BreaksOn, Moves}
use Rattle.tfpg_kernel.proofs.lemmas.FirstBroken.{breaks_wrong, breaks_alike, first_broken_unique}

-- what the laws say of all trees
pub record ResultLaws : Type 0 where
  pub only_one : PresentLeavesAreAlone
  pub finished : RefutationsAreNotPartial
  pub last_of_refutation : LastStepsOfRefutationsAreRight
  pub last_of_partial : LastStepsOfPartialTreesAreRight
  pub refutation_stays : RefutationsStay
  pub path_stays : PathsStay
  pub path_moves : PathsFollowSteps
  pub path_is : PathsAreThoseOfPresentLeaves
  pub leaf_ends : LastLeavesEndInRefutations

module _ (laws : ResultLaws) (case : Case) where
  broken_wrong : (steps : List Judged) (next : Judged) (bad : BadStep) → IsFirstBroken case steps next bad → IsRightNext case steps next → ⊥
  broken_wrong steps next bad (inl a) last = laws.finished case steps a.1 last.leaf.partial
  broken_wrong steps next bad (inr a) last =
      breaks_wrong (case_at case next.seen) last.place last.subtrees next.step bad
      (breaks_alike (case_at case next.seen) a.0 last.place (laws.only_one case steps a.0 last.place a.1 last.leaf) next.step bad a.2) last.right

  -- ---- the three results

  module _ (steps : List Judged) (step : Step) (after : CheckerState) where
    result_partial : IsPartial case (with_step steps case.log step) → CheckerRepresents case.graph case.log after (with_step steps case.log step) → IsStepResult case steps step Open after
    result_partial partial represents = record {
      closed = (λ same. cc, λ refutation. absurd (laws.finished case (with_step steps case.log step) refutation partial));
      partial = (λ same. partial, λ is. refl);
      bad = λ cause. (λ same. cc, λ broken. absurd (broken_wrong steps (judged_by case.log step) cause broken (laws.last_of_partial case steps (judged_by case.log step) partial)));
      represents = represents;
    }

    result_closed : IsRefutation case (with_step steps case.log step) → CheckerRepresents case.graph case.log after (with_step steps case.log step) → IsStepResult case steps step Closed after
    result_closed refutation represents = record {
      closed = (λ same. refutation, λ is. refl);
      partial = (λ same. cc, λ partial. absurd (laws.finished case (with_step steps case.log step) refutation partial));
      bad = λ cause. (λ same. cc, λ broken. absurd (broken_wrong steps (judged_by case.log step) cause broken (laws.last_of_refutation case steps (judged_by case.log step) refutation)));
      represents = represents;
    }

    result_bad : (cause : BadStep) → IsFirstBroken case steps (judged_by case.log step) cause → CheckerRepresents case.graph case.log after steps → IsStepResult case steps step (Bad cause) after
    result_bad cause broken represents = record {
      closed = (λ same. cc, λ refutation. absurd (broken_wrong steps (judged_by case.log step) cause broken (laws.last_of_refutation case steps (judged_by case.log step) refutation)));
      partial = (λ same. cc, λ partial. absurd (broken_wrong steps (judged_by case.log step) cause broken (laws.last_of_partial case steps (judged_by case.log step) partial)));
      bad = λ other. (
        λ same. let causes : cause ≡ other = cc in subst (IsFirstBroken case steps (judged_by case.log step)) causes broken,
        λ also. ap (λ (b : BadStep). Bad b) (first_broken_unique laws.only_one laws.finished case steps (judged_by case.log step) cause other broken also),
      );
      represents = represents;
    }

  -- ---- a checker that is not closed

  -- what is broken by the marks of a path is broken at its leaf
  breaks_there : (path : List PathSplit) (place : TreePlace) → IsPathOf path place → (step : Step) (cause : BadStep) → BreaksOn case path step cause → BreaksAt case place step cause
  breaks_there path place of (Split name) cause breaks = breaks
  breaks_there path place of (Cycle reasons) cause breaks = subst (λ (chosen : List Chosen). CycleBreaks (stated case chosen) reasons cause) of.chosen breaks
  breaks_there path place of Again cause breaks = (breaks.0, λ reusable. breaks.1 (of.reusable.1 reusable))

  broken : (steps : List Judged) (path : List PathSplit) (step : Step) (cause : BadStep) → HasPath case steps path → BreaksOn case path step cause
      → IsFirstBroken case steps (judged_by case.log step) cause
  broken steps path step cause has breaks =
      let there = laws.path_is case steps path has in
      inr (there.0, there.1, subst (λ (c : Case). BreaksAt c there.0 step cause) (sym (whole_case case)) (breaks_there path there.0 there.2 step cause breaks))

-- ---- what a checker represents

represents_by : (graph : Tfpg) (log : Logbook) (reach : List ℕ) (after : CheckerState) (steps : List Judged) (closed : Bool) → after.reach ≡ reach → after.closed ≡ closed
    → Represented (case_of graph log reach) after.path steps closed → CheckerRepresents graph log after steps
represents_by graph log reach after steps closed same_reach same_closed is = record {
  steps_are =
      subst (λ (r : List ℕ). Represented (case_of graph log r) after.path steps after.closed) (sym same_reach)
      (subst (λ (b : Bool). Represented (case_of graph log reach) after.path steps b) (sym same_closed) is);
}

module _ (laws : ResultLaws) (graph : Tfpg) (earlier log : Logbook) (old : CheckerState) (steps : List Judged) (ordered : IsOrdered log) (goes_on : GoesOn earlier log)
    (represents : CheckerRepresents graph earlier old steps) where
  -- the steps are those that it represents at this log too
  stays : (closed : Bool) → Represented (case_of graph earlier old.reach) old.path steps closed → Represented (case_of graph log old.reach) old.path steps closed
  stays true is = laws.refutation_stays (case_of graph earlier old.reach) log steps ordered goes_on is
  stays false is = laws.path_stays (case_of graph earlier old.reach) log steps old.path ordered goes_on is

  now_is : Represented (case_of graph log old.reach) old.path steps old.closed
  now_is = stays old.closed represents.steps_are

  -- it was closed before
  pub refused : (step : Step) → old.closed ≡ true → IsStepResult (case_of graph log old.reach) steps step (Bad AfterClosed) old
  refused step closed =
      let refutation : IsRefutation (case_of graph log old.reach) steps = subst (λ (b : Bool). Represented (case_of graph log old.reach) old.path steps b) closed now_is in
      result_bad laws (case_of graph log old.reach) steps step old AfterClosed (inl (refl, refutation)) (record { steps_are = now_is })

  module _ (step : Step) (new : CheckerState) (open_old : old.closed ≡ false) (kept : new.reach ≡ old.reach) where
    leaf_now : HasPath (case_of graph log old.reach) steps old.path
    leaf_now = subst (λ (b : Bool). Represented (case_of graph log old.reach) old.path steps b) open_old now_is

    -- it was not
    pub moved : (result : Taken) → Moves graph log old step result new → IsStepResult (case_of graph log old.reach) steps step result new
    moved Open moves =
        let leaf : HasPath (case_of graph log old.reach) (with_step steps log step) new.path = laws.path_moves (case_of graph log old.reach) steps old.path new.path step leaf_now moves.0 in
        result_partial laws (case_of graph log old.reach) steps step new leaf.partial (represents_by graph log old.reach new (with_step steps log step) false kept moves.1 leaf)
    moved Closed moves =
        let refutation : IsRefutation (case_of graph log old.reach) (with_step steps log step) = laws.leaf_ends (case_of graph log old.reach) steps old.path step leaf_now moves.0 in
        result_closed laws (case_of graph log old.reach) steps step new refutation (represents_by graph log old.reach new (with_step steps log step) true kept moves.1 refutation)
    moved (Bad cause) moves =
        result_bad laws (case_of graph log old.reach) steps step new cause (broken laws (case_of graph log old.reach) steps old.path step cause leaf_now moves.0)
        (subst (λ (n : CheckerState). CheckerRepresents graph log n steps) (sym moves.1) (record { steps_are = now_is }))
