-- What the checker of refutations shows of steps that it took.
use Rattle.std.proofs.Common.{◌≡◌, ℕ, ◌≤◌, true, List, [], ◌∷◌, ◌++◌, refl, sym, ap, subst, ◌∙◌}
use Rattle.std.specs.Prelude.{Bool, IsTrue}
use Rattle.std.proofs.lemmas.List.{append-nil, map-append}
use Rattle.tfpg_graph.specs.Graph.{Tfpg}
use Rattle.tfpg_log.specs.Log.{Logbook, GoesOn}
use Rattle.tfpg_evidence.specs.declared.step.Step.{Step}
use Rattle.tfpg_clause.specs.Case.{case_of}
use Rattle.tfpg_clause.specs.Trees.{Judged, IsRefutation, split_count}
use Rattle.tfpg_clause.specs.Paths.{judged_by, with_step, with_steps}
use Rattle.tfpg_kernel.specs.CheckerState.{CheckerState}
use Rattle.tfpg_kernel.specs.declared.taken.Taken.{Taken}
use Rattle.tfpg_kernel.specs.Represents.{CheckerRepresents, Represented, steps_after}
use Rattle.tfpg_whatif.specs.declared.outcome.Outcome.TheVariants.{Out}
use Rattle.tfpg_whatif.specs.Outcomes.{HasOutcomeEvidence}
use Rattle.tfpg_whatif.specs.inside.Early.{HasTaken, HasTakenAll}

-- a log goes on from itself
goes_on_itself : (log : Logbook) → GoesOn log log
goes_on_itself log = record { more = []; events = sym (append-nil log.events); ignored = refl }

-- more room changes nothing of what a checker represents
with_room : (graph : Tfpg) (log : Logbook) (old reserved : CheckerState) (steps : List Judged) → reserved ≡ record old { spare = reserved.spare } → CheckerRepresents graph log old steps
    → CheckerRepresents graph log reserved steps
with_room graph log old reserved steps same is =
    subst (λ (c : CheckerState). CheckerRepresents graph log c steps) (sym same) (record { steps_are = is.steps_are })

-- A checker that found the step right took it.
pub has_taken : (graph : Tfpg) (log : Logbook) (step : Step) (old reserved new : CheckerState) (taken right : Taken) → reserved ≡ record old { spare = reserved.spare } → taken ≡ right
    → ((steps : List Judged) → steps_after right steps log step ≡ with_step steps log step) → new.reach ≡ reserved.reach
    → ((earlier : Logbook) (steps : List Judged) → GoesOn earlier log → CheckerRepresents graph earlier reserved steps → CheckerRepresents graph log new (steps_after taken steps log step))
    → HasTaken graph log step old new
has_taken graph log step old reserved new taken right same is after same_reach represents = record {
  reach = same_reach ∙ ap (λ (c : CheckerState). c.reach) same;
  represents = λ steps own.
      subst (CheckerRepresents graph log new) (ap (λ (t : Taken). steps_after t steps log step) is ∙ after steps)
      (represents log steps (goes_on_itself log) (with_room graph log old reserved steps same own));
}

-- ---- all steps

-- a checker that took none
pub none_taken : (graph : Tfpg) (log : Logbook) (reach : List ℕ) (checker : CheckerState) → checker.reach ≡ reach → CheckerRepresents graph log checker [] → HasTakenAll graph log reach [] checker
none_taken graph log reach checker is represents = record { reach_is = is; represents = represents }

-- the same steps, and one more
one_more : (log : Logbook) (step : Step) (front : List Step) → with_step (with_steps [] log front) log step ≡ with_steps [] log (front ++ step ∷ [])
one_more log step front = sym (map-append (judged_by log) front (step ∷ []))

pub one_more_taken : (graph : Tfpg) (log : Logbook) (reach : List ℕ) (front steps : List Step) (step : Step) (old new : CheckerState) → steps ≡ front ++ step ∷ [] → HasTaken graph log step old new
    → HasTakenAll graph log reach front old → HasTakenAll graph log reach steps new
one_more_taken graph log reach front steps step old new are taken all = record {
  reach_is = taken.reach ∙ all.reach_is;
  represents =
      subst (λ (ss : List Step). CheckerRepresents graph log new (with_steps [] log ss)) (sym are)
      (subst (CheckerRepresents graph log new) (one_more log step front) (taken.represents (with_steps [] log front) all.represents));
}

-- Where it is closed, the steps are a refutation.
pub is_refuted : (graph : Tfpg) (log : Logbook) (reach : List ℕ) (steps taken : List Step) (checker : CheckerState) (closed : Bool) → taken ≡ steps → closed ≡ checker.closed → HasTakenAll graph log reach taken checker
    → IsTrue closed → IsRefutation (case_of graph log reach) (with_steps [] (case_of graph log reach).log steps)
is_refuted graph log reach steps taken checker closed same is all holds =
    let own : Represented (case_of graph log checker.reach) checker.path (with_steps [] log taken) true =
    subst (Represented (case_of graph log checker.reach) checker.path (with_steps [] log taken)) (sym is ∙ holds) all.represents.steps_are in
    subst (λ (ss : List Step). IsRefutation (case_of graph log reach) (with_steps [] log ss)) same
    (subst (λ (nodes : List ℕ). IsRefutation (case_of graph log nodes) (with_steps [] log taken)) all.reach_is own)

-- So they are an outcome, where they have few splits.
pub is_out : (graph : Tfpg) (log : Logbook) (reach set : List ℕ) (budget : ℕ) (steps read : List Step) (count : ℕ) → read ≡ steps → count ≡ split_count read → count ≤ budget
    → IsRefutation (case_of graph log reach) (with_steps [] (case_of graph log reach).log read) → HasOutcomeEvidence (case_of graph log reach) set budget (Out steps)
is_out graph log reach set budget steps read count same counted few refutation =
    subst (λ (ss : List Step). HasOutcomeEvidence (case_of graph log reach) set budget (Out ss)) same (refutation, subst (λ (n : ℕ). n ≤ budget) counted few)
