-- Refutations and partial trees at a log are those at each log that goes on from it.
use Rattle.std.proofs.Common.{◌≡◌, ℕ, ◌≤◌, List, [], ◌∷◌, ◌++◌, length, take, drop, get_or, Option, Some, None, refl, sym, ap, subst, ◌∙◌}
use Rattle.std.specs.Prelude.{All, AllPairs, option_map, option_and_then}
use Rattle.std.proofs.lemmas.List.{take-append-drop, take-take}
use Rattle.std.proofs.lemmas.List.Elements.{All-take}
use Rattle.std.proofs.lemmas.Option.{option_and_then_some}
use Rattle.tfpg_base.specs.Choice.{item_at}
use Rattle.tfpg_base.specs.declared.constraint.Constraint.{Constraint}
use Rattle.tfpg_base.specs.declared.limits.TheConstants.{MAX_TIME}
use Rattle.tfpg_base.proofs.lemmas.lists.Elements.{AllPairs-front}
use Rattle.tfpg_log.specs.declared.event.Event.{Event}
use Rattle.tfpg_log.specs.Log.{Logbook, GoesOn, IsOrdered, first_events, time_of_event}
use Rattle.tfpg_evidence.specs.declared.clause_name.ClauseName.{ClauseName}
use Rattle.tfpg_evidence.specs.declared.reason.Reason.{Reason}
use Rattle.tfpg_evidence.specs.declared.reason.Reason.TheVariants.{Zero, Top, Unreached, From, Upto, Quiet, Pick}
use Rattle.tfpg_evidence.specs.declared.step.Step.{Step}
use Rattle.tfpg_evidence.specs.declared.step.Step.TheVariants.{Split, Cycle, Again}
use Rattle.tfpg_base.proofs.lemmas.lists.Choices.{each_of-weaker, option_map-some}
use Rattle.tfpg_base.proofs.lemmas.lists.Cuts.{take-append}
use Rattle.tfpg_clause.specs.Case.{Case, at_log, case_at}
use Rattle.tfpg_clause.specs.declared.path.PathSplit.{PathSplit}
use Rattle.tfpg_clause.specs.Facts.{fact}
use Rattle.tfpg_clause.specs.Clauses.{alternatives, count_of, constraint_at}
use Rattle.tfpg_clause.specs.Trees.{Judged, Chosen, TreePlace, StepPlace, picked, stated, IsClosedLeaf, IsRight, IsRightStep, IsRefutation, IsPartial, IsPresentLeaf}
use Rattle.tfpg_clause.specs.Paths.{new_split, leaf_next, leaf_after, HasPath}
use Rattle.tfpg_clause.proofs.lemmas.logs.StaysAllowed.{clause_stays, alternatives_stay, fact_stays}
use Rattle.tfpg_clause.proofs.lemmas.trees.LeafPaths.{after_none}

-- The first events of a log are in order.
pub ordered_first : (log : Logbook) (seen : ℕ) → IsOrdered log → IsOrdered (first_events log seen)
ordered_first log seen ordered = record {
  in_order =
      AllPairs-front (λ (earlier later : Event). time_of_event earlier ≤ time_of_event later) (take seen log.events) (drop seen log.events)
      (subst (AllPairs (λ (earlier later : Event). time_of_event earlier ≤ time_of_event later))
      (sym (take-append-drop seen log.events)) ordered.in_order);
  in_range = All-take (λ (event : Event). time_of_event event ≤ MAX_TIME) seen log.events ordered.in_range;
}

-- The first events of a log that goes on go on from those of the earlier one.
pub first_go_on : (earlier later : Logbook) (seen : ℕ) → GoesOn earlier later → GoesOn (first_events earlier seen) (first_events later seen)
first_go_on earlier later seen goes_on =
    let more = take-append seen earlier.events goes_on.more in
    record { more = more.0; events = ap (take seen) goes_on.events ∙ more.1; ignored = goes_on.ignored }

-- The whole log goes on from its first events.
pub first_to_whole : (log : Logbook) (seen : ℕ) → GoesOn (first_events log seen) log
first_to_whole log seen = record { more = drop seen log.events; events = sym (take-append-drop seen log.events); ignored = refl }

-- More first events go on from fewer.
pub more_go_on : (log : Logbook) (seen more : ℕ) → seen ≤ more → GoesOn (first_events log seen) (first_events log more)
more_go_on log seen more up = record {
  more = drop seen (take more log.events);
  events =
      sym (take-append-drop seen (take more log.events))
      ∙ ap (λ (events : List Event). events ++ drop seen (take more log.events)) (take-take seen more log.events up);
  ignored = refl;
}

-- What is right at a log stays so at each log that goes on from it.
module _ (case : Case) (later : Logbook) (ordered : IsOrdered later) (goes_on : GoesOn case.log later) where
  -- what is computed of an allowed clause stays
  of_clause_stays : {X : Type 0} (f : List (List Constraint) → Option X) (name : ClauseName) (x : X)
      → option_and_then f (alternatives case.graph case.log name) ≡ Some x
      → option_and_then f (alternatives case.graph later name) ≡ Some x
  of_clause_stays f name x at =
      option_and_then_some f (alternatives case.graph case.log name) x at
      (λ clause there rest. ap (option_and_then f) (clause_stays case.graph case.log later ordered goes_on name clause there) ∙ rest)

  -- how many alternatives a clause has stays,
  pub count_stays : (name : ClauseName) (count : ℕ) → count_of case.graph case.log name ≡ Some count
      → count_of case.graph later name ≡ Some count
  count_stays name count at = ap (option_map length) (alternatives_stay case.graph case.log later ordered goes_on name count at) ∙ at

  -- what is picked on a path stays,
  pub picked_stays : (path : List Chosen) (split number : ℕ) (constraint : Constraint)
      → picked case.graph case.log path split number ≡ Some constraint
      → picked case.graph later path split number ≡ Some constraint
  picked_stays path split number constraint at =
      option_and_then_some
      (λ (taken : Chosen). option_and_then (λ clause. constraint_at clause taken.alternative number)
      (alternatives case.graph case.log taken.name))
      (item_at path split) constraint at
      (λ taken there rest.
      ap
      (option_and_then
      (λ (taken : Chosen). option_and_then (λ clause. constraint_at clause taken.alternative number)
      (alternatives case.graph later taken.name))) there
      ∙ of_clause_stays (λ clause. constraint_at clause taken.alternative number) taken.name constraint rest)

  fact_here : (reason : Reason) (constraint : Constraint) → fact case reason ≡ Some constraint
      → fact (at_log case later) reason ≡ Some constraint
  fact_here = fact_stays case.graph case.log later ordered goes_on case.reach

  -- what a reason states on a path stays,
  pub stated_stays : (path : List Chosen) (reason : Reason) (constraint : Constraint) → stated case path reason ≡ Some constraint
      → stated (at_log case later) path reason ≡ Some constraint
  stated_stays path (Pick split number) constraint at = picked_stays path split number constraint at
  stated_stays path (Zero node) constraint at = at
  stated_stays path (Top node) constraint at = at
  stated_stays path (Unreached node horizon) constraint at = fact_here (Unreached node horizon) constraint at
  stated_stays path (From event) constraint at = fact_here (From event) constraint at
  stated_stays path (Upto event) constraint at = fact_here (Upto event) constraint at
  stated_stays path (Quiet event node) constraint at = fact_here (Quiet event node) constraint at

  closed_stays : (path : List Chosen) (reasons : List Reason) → IsClosedLeaf case path reasons
      → IsClosedLeaf (at_log case later) path reasons
  closed_stays path reasons closed = record {
    constraints = closed.constraints;
    hold = each_of-weaker (stated case path) (stated (at_log case later) path) (stated_stays path) reasons closed.constraints closed.hold;
    negative_cycle = closed.negative_cycle;
  }

  -- a step that is right stays right
  pub step_stays : (place : TreePlace) (subtrees : ℕ) (step : Step) → IsRightStep case place subtrees step
      → IsRightStep (at_log case later) place subtrees step
  step_stays place subtrees (Split name) right = count_stays name subtrees right
  step_stays place subtrees (Cycle reasons) right = closed_stays place.path reasons right
  step_stays place subtrees Again right = right

-- And so are trees.
module _ (case : Case) (later : Logbook) (ordered : IsOrdered later) (goes_on : GoesOn case.log later) where
  right_stays : (all : List StepPlace) → All (IsRight case) all → All (IsRight (at_log case later)) all
  right_stays all right k d within =
      let here : StepPlace = get_or all k d in
      step_stays (case_at case here.step.seen) (first_events later here.step.seen) (ordered_first later here.step.seen ordered)
      (first_go_on case.log later here.step.seen goes_on)
      here.place here.subtrees here.step.step (right k d within)

  -- A refutation stays one.
  pub refutation_stays : (steps : List Judged) → IsRefutation case steps → IsRefutation (at_log case later) steps
  refutation_stays steps refutation =
      record { tree = refutation.tree; steps_are = refutation.steps_are; right = right_stays _ refutation.right }

  -- A partial tree stays one.
  pub partial_stays : (steps : List Judged) → IsPartial case steps → IsPartial (at_log case later) steps
  partial_stays steps partial =
      record {
        tree = partial.tree;
        more = partial.more;
        unfinished = partial.unfinished;
        steps_are = partial.steps_are;
        right =
            right_stays _ partial.right;
      }

  -- A partial tree keeps its present leaf.
  pub leaf_stays : (steps : List Judged) (place : TreePlace) → IsPresentLeaf case steps place
      → IsPresentLeaf (at_log case later) steps place
  unfolding partial_stays
  leaf_stays steps place leaf = record { partial = partial_stays steps leaf.partial; here = leaf.here }

  -- ---- the path that steps lead to

  next_stays : (path : List PathSplit) (seen : ℕ) (step : Step) (next : List PathSplit) → leaf_next case path seen step ≡ Some next
      → leaf_next (at_log case later) path seen step ≡ Some next
  next_stays path seen (Split name) next is =
      let longer : ℕ → List PathSplit = λ count. path ++ new_split name count ∷ [] in
      let counted = option_map-some longer (count_of case.graph (first_events case.log seen) name) next is in
      ap (option_map longer)
      (count_stays (case_at case seen) (first_events later seen) (ordered_first later seen ordered)
      (first_go_on case.log later seen goes_on) name counted.0 counted.1)
      ∙ ap (λ (found : List PathSplit). Some found) counted.2
  next_stays path seen (Cycle reasons) next is = is
  next_stays path seen Again next is = is

  led_stays : (steps : List Judged) (start : Option (List PathSplit)) (path : List PathSplit) → leaf_after case start steps ≡ Some path
      → leaf_after (at_log case later) start steps ≡ Some path
  led_stays [] start path led = led
  led_stays (step ∷ steps) None path led = led
  led_stays (step ∷ steps) (Some before) path led =
      by (λ next rest. led_stays steps (Some next) path rest) (leaf_next case before step.seen step.step) refl led
    where
      by :
          ((next : List PathSplit) → leaf_after case (Some next) steps ≡ Some path
          → leaf_after (at_log case later) (Some next) steps ≡ Some path)
          → (found : Option (List PathSplit)) → leaf_next case before step.seen step.step ≡ found → leaf_after case found steps ≡ Some path
          → leaf_after (at_log case later) (leaf_next (at_log case later) before step.seen step.step) steps ≡ Some path
      by later_on None is rest = let none : None ≡ Some path = sym (after_none case steps) ∙ rest in absurd cc
      by later_on (Some next) is rest =
          ap (λ (leaf : Option (List PathSplit)). leaf_after (at_log case later) leaf steps) (next_stays before step.seen step.step next is)
          ∙ later_on next rest

  -- Steps lead to the same path.
  pub path_stays : (steps : List Judged) (path : List PathSplit) → HasPath case steps path → HasPath (at_log case later) steps path
  path_stays steps path has = record { partial = partial_stays steps has.partial; led = led_stays steps (Some []) path has.led }
