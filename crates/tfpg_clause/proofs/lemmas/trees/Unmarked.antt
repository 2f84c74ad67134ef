-- Trees by marked paths are the trees themselves: the same places, with the same alternatives, and what is right by the marks is
-- right.
use Rattle.std.proofs.Common.{◌≡◌, ◌↔◌, ℕ, zero, suc, ◌+◌, List, [], ◌∷◌, ◌++◌, length, take, Bool, true, false, Option, Some, None, refl, sym, ap, subst, ◌∙◌, arith, length-append}
use Rattle.std.specs.Prelude.{All, Contains, IsTrue, IsSomeAnd, ◌||◌, ◌==◌, not, map, slice_get, option_map, option_and_then}
use Rattle.std.proofs.lemmas.Bool.{eqb-true, false≢true}
use Rattle.std.proofs.lemmas.Bool.Decides.{nat_tests}
use Rattle.std.proofs.lemmas.List.{length-map, map-append}
use Rattle.std.proofs.lemmas.List.Elements.{All-nil, All-cons, All-head, All-tail}
use Rattle.tfpg_base.specs.Choice.{last_of}
use Rattle.tfpg_base.specs.declared.constraint.Constraint.{Constraint}
use Rattle.tfpg_base.proofs.lemmas.lists.Elements.{list_any-passes}
use Rattle.tfpg_graph.specs.Graph.{Tfpg}
use Rattle.tfpg_log.specs.Log.{Logbook}
use Rattle.tfpg_evidence.specs.declared.reason.Reason.{Reason}
use Rattle.tfpg_evidence.specs.declared.reason.Reason.TheVariants.{Zero, Top, Unreached, From, Upto, Quiet, Pick}
use Rattle.tfpg_evidence.specs.declared.step.Step.{Step}
use Rattle.tfpg_evidence.specs.declared.step.Step.TheVariants.{Split, Cycle, Again}
use Rattle.tfpg_clause.specs.Case.{Case, case_at}
use Rattle.tfpg_clause.specs.Facts.{fact}
use Rattle.tfpg_clause.specs.Clauses.{alternatives, constraint_at}
use Rattle.tfpg_clause.specs.Trees.{Judged, Tree, Leaf, Branch, Subtrees, NoMore, Next, Reused, Chosen, TreePlace, StepPlace, how_many, reasons_in, root, place_in, places, places_from, places_of, picked, stated, stated_with, IsClosedBy, IsClosedLeaf, IsReusable, IsRight, IsRightStep, IsRefutation, IsPartial, IsPresentLeaf}
use Rattle.tfpg_clause.specs.Paths.{chosen_on, is_pick_of, cites, new_split, cited_from, cited_by, IsPathOf}
use Rattle.tfpg_clause.specs.inside.MarkedTrees.{MarkedPlace, after_subtree, marked_places, marked_from, marked_places_of, picked_on, stated_on, IsClosedOn, IsMarkedStep, IsMarkedRight, IsMarkedRefutation, IsMarkedPartial, IsMarkedLeaf}
use Rattle.tfpg_clause.specs.declared.path.PathSplit.{PathSplit}
use Rattle.tfpg_clause.proofs.lemmas.trees.Marks.{last_push}

-- the alternative that is taken at a split
abbrev pub chosen_at : PathSplit → Chosen
chosen_at split = record { name = split.name; alternative = split.alternative }

-- Marks leave the alternatives as they are.
pub chosen_cited : (number : ℕ) (reasons : List Reason) (path : List PathSplit)
    → chosen_on (cited_from number reasons path) ≡ chosen_on path
chosen_cited number reasons [] = refl
chosen_cited number reasons (split ∷ deeper) = ap (λ (cs : List Chosen). chosen_at split ∷ cs) (chosen_cited (number + 1) reasons deeper)

-- ---- what is stated

module _ (graph : Tfpg) (log : Logbook) where
  found_on : (path : List PathSplit) (index number : ℕ)
      → option_and_then
      (λ (taken : Chosen). option_and_then (λ clause. constraint_at clause taken.alternative number) (alternatives graph log taken.name))
      (slice_get (chosen_on path) index)
      ≡ option_and_then
      (λ (taken : PathSplit). option_and_then (λ clause. constraint_at clause taken.alternative number) (alternatives graph log taken.name))
      (slice_get path index)
  found_on [] index number = refl
  found_on (split ∷ deeper) zero number = refl
  found_on (split ∷ deeper) (suc index) number = found_on deeper index number

  -- What is picked on a path does not depend on marks,
  pub picked_same : (path : List PathSplit) (split number : ℕ)
      → picked graph log (chosen_on path) split number ≡ picked_on graph log path split number
  picked_same path zero number = refl
  picked_same path (suc index) number = found_on path index number

-- nor does what a reason states.
pub stated_same : (case : Case) (path : List PathSplit) → stated case (chosen_on path) ≡ stated_on case path
stated_same case path = λ i reason. stated_with (λ split number. picked_same case.graph case.log path split number i) (fact case) reason

-- So reasons close the leaf of a path by its alternatives, and the other way round.
pub closed_on : (case : Case) (path : List PathSplit) (reasons : List Reason) → IsClosedLeaf case (chosen_on path) reasons
    → IsClosedOn case path reasons
closed_on case path reasons closed = subst (λ (s : Reason → Option Constraint). IsClosedBy s reasons) (stated_same case path) closed

-- Reasons that close the leaf of a path with marks close it by its alternatives.
pub closed_by : (case : Case) (path : List PathSplit) (reasons : List Reason) → IsClosedOn case path reasons
    → IsClosedLeaf case (chosen_on path) reasons
closed_by case path reasons closed = subst (λ (s : Reason → Option Constraint). IsClosedBy s reasons) (sym (stated_same case path)) closed

-- ---- what is reusable

-- none of the reasons picks from the split of this number
abbrev PickNone : List Reason → ℕ → Type 0
PickNone reasons split = (number : ℕ) → Contains reasons (Pick split number) → ⊥

-- the first of some reasons is no pick of the split, and the others are none
none_first : (reason : Reason) (reasons : List Reason) (split : ℕ) → PickNone (reason ∷ reasons) split → PickNone reasons split
none_first reason reasons split none number member = none number (suc member.0, omega (arith, member.1), member.2)

is_no_pick : (reason : Reason) (split : ℕ) → ((number : ℕ) → reason ≡ Pick split number → ⊥) → is_pick_of split reason ≡ false
is_no_pick (Pick other number) split none = other_split (other == split) refl
  where
    other_split : (same : Bool) → (other == split) ≡ same → (other == split) ≡ false
    other_split true is = absurd (none number (ap (λ (n : ℕ). Pick n number) (eqb-true other split is)))
    other_split false is = is
is_no_pick (Zero node) split none = refl
is_no_pick (Top node) split none = refl
is_no_pick (Unreached node horizon) split none = refl
is_no_pick (From event) split none = refl
is_no_pick (Upto event) split none = refl
is_no_pick (Quiet event node) split none = refl

not_cited : (reasons : List Reason) (split : ℕ) → PickNone reasons split → cites reasons split ≡ false
not_cited [] split none = refl
not_cited (reason ∷ reasons) split none =
    let first : is_pick_of split reason ≡ false = is_no_pick reason split (λ number same. none number (0, omega arith, same)) in
    (λ i. first i || cites reasons split) ∙ not_cited reasons split (none_first reason reasons split none)

cited_none : (reasons : List Reason) (split : ℕ) → not (cites reasons split) ≡ true → PickNone reasons split
cited_none reasons split not_cites number member =
    let cites_it : cites reasons split ≡ true =
    list_any-passes (is_pick_of split) reasons (Pick split number) member (grind (arith, nat_tests)) in
    cc

-- ---- the places

-- The marked place is the place, by the same alternatives, with the same step.
pub record SamePlace (marked : MarkedPlace) (next : StepPlace) : Type 0 where
  pub path_of : IsPathOf marked.path next.place
  pub step : marked.step ≡ next.step
  pub subtrees : marked.subtrees ≡ next.subtrees

-- these are the same places, one by one
abbrev pub SamePlaces : List MarkedPlace → List StepPlace → Type 0
SamePlaces [] [] = Unit {0}
SamePlaces [] (next ∷ others) = ⊥
SamePlaces (marked ∷ more) [] = ⊥
SamePlaces (marked ∷ more) (next ∷ others) = SamePlace marked next × SamePlaces more others

both_same : (front : List MarkedPlace) (front_places : List StepPlace) (back : List MarkedPlace) (back_places : List StepPlace)
    → SamePlaces front front_places → SamePlaces back back_places
    → SamePlaces (front ++ back) (front_places ++ back_places)
both_same [] [] back back_places same later = later
both_same [] (next ∷ others) back back_places same later = absurd same
both_same (marked ∷ more) [] back back_places same later = absurd same
both_same (marked ∷ more) (next ∷ others) back back_places same later = (same.0, both_same more others back back_places same.1 later)

-- a split whose mark is right makes the path of its alternative
path_in : (path : List PathSplit) (chosen : List Chosen) (split : PathSplit) (before : Option (List Reason)) → chosen_on path ≡ chosen
    → IsTrue split.reusable ↔ IsReusable (place_in chosen split.name split.alternative before)
    → IsPathOf (path ++ split ∷ []) (place_in chosen split.name split.alternative before)
path_in path chosen split before same reuse =
    let last : last_of (path ++ split ∷ []) ≡ Some split = last_push path split in
    record {
      chosen = map-append chosen_at path (split ∷ []) ∙ ap (λ (cs : List Chosen). cs ++ chosen_at split ∷ []) same;
      reusable = (
        λ marked. reuse.0 (subst (λ (o : Option PathSplit). IsSomeAnd o (λ (s : PathSplit). IsTrue s.reusable)) last marked),
        λ reusable. subst (λ (o : Option PathSplit). IsSomeAnd o (λ (s : PathSplit). IsTrue s.reusable)) (sym last) (reuse.1 reusable),
      );
    }

-- the next alternative is marked as reusable exactly where no cycle of the subtree before picks from the split
next_reusable : (path : List PathSplit) (chosen : List Chosen) (split : PathSplit) (reasons : List Reason) → chosen_on path ≡ chosen
    → split.cited ≡ false
    → IsTrue (after_subtree (length path + 1) reasons split).reusable
    ↔ IsReusable (place_in chosen split.name (split.alternative + 1) (Some reasons))
next_reusable path chosen split reasons same uncited =
    let next : Chosen = record { name = split.name; alternative = split.alternative + 1 } in
    let long : length path + 1 ≡ length (chosen ++ next ∷ []) =
    omega (arith, length-append chosen (next ∷ []), ap length same, length-map path chosen_at) in
    let mark : (after_subtree (length path + 1) reasons split).reusable ≡ not (cites reasons (length (chosen ++ next ∷ []))) =
    (λ i. not (uncited i || cites reasons (long i))) in (
      λ marked. cited_none reasons (length (chosen ++ next ∷ [])) (sym mark ∙ marked),
      λ none. mark ∙ ap not (not_cited reasons (length (chosen ++ next ∷ [])) none),
    )

mutual
  -- The places of a tree are its marked places.
  pub tree_same : (path : List PathSplit) (place : TreePlace) (tree : Tree) → IsPathOf path place
      → SamePlaces (marked_places path tree) (places place tree)
  tree_same path place (Leaf seen reasons) of = (record { path_of = of; step = refl; subtrees = refl }, tt)
  tree_same path place (Branch seen name subtrees) of = (
    record { path_of = of; step = refl; subtrees = refl },
    subtrees_same path place.path (new_split name (how_many subtrees)) None of.chosen refl
        (λ marked. absurd (false≢true marked), λ reusable. absurd reusable) subtrees,
  )

  subtrees_same : (path : List PathSplit) (chosen : List Chosen) (split : PathSplit) (before : Option (List Reason))
      → chosen_on path ≡ chosen → split.cited ≡ false
      → IsTrue split.reusable ↔ IsReusable (place_in chosen split.name split.alternative before)
      → (subtrees : Subtrees) → SamePlaces (marked_from path split subtrees)
      (places_from chosen split.name split.alternative before subtrees)
  subtrees_same path chosen split before same uncited reuse NoMore = tt
  subtrees_same path chosen split before same uncited reuse (Reused seen others) =
      (record { path_of = path_in path chosen split before same reuse; step = refl; subtrees = refl }, tt)
  subtrees_same path chosen split before same uncited reuse (Next tree others) =
      let reasons : List Reason = reasons_in tree in
      let next : PathSplit = after_subtree (length path + 1) reasons split in
      let own : TreePlace = place_in chosen split.name split.alternative before in
      both_same (marked_places (path ++ split ∷ []) tree) (places own tree) (marked_from (cited_by reasons path) next others)
      (places_from chosen split.name (split.alternative + 1) (Some reasons) others)
      (tree_same (path ++ split ∷ []) own tree (path_in path chosen split before same reuse))
      (subtrees_same (cited_by reasons path) chosen next (Some reasons) (chosen_cited 1 reasons path ∙ same) refl
      (next_reusable path chosen split reasons same uncited) others)

-- So are those of a whole tree.
pub whole_same : (tree : Tree) → SamePlaces (marked_places_of tree) (places_of tree)
whole_same tree = tree_same [] root tree (record { chosen = refl; reusable = (λ marked. absurd marked, λ reusable. absurd reusable) })

-- ---- what is the same of the same places

take_same : (count : ℕ) (marked : List MarkedPlace) (all : List StepPlace) → SamePlaces marked all
    → SamePlaces (take count marked) (take count all)
take_same zero marked all same = tt
take_same (suc count) [] [] same = tt
take_same (suc count) [] (next ∷ others) same = absurd same
take_same (suc count) (marked ∷ more) [] same = absurd same
take_same (suc count) (marked ∷ more) (next ∷ others) same = (same.0, take_same count more others same.1)

steps_same : (marked : List MarkedPlace) (all : List StepPlace) → SamePlaces marked all
    → map (λ (place : MarkedPlace). place.step) marked ≡ map (λ (next : StepPlace). next.step) all
steps_same [] [] same = refl
steps_same [] (next ∷ others) same = absurd same
steps_same (marked ∷ more) [] same = absurd same
steps_same (marked ∷ more) (next ∷ others) same = λ i. same.0.step i ∷ steps_same more others same.1 i

module _ (case : Case) where
  -- a step is right in a place where it is right at the leaf of its path
  pub right_step : (path : List PathSplit) (place : TreePlace) (subtrees : ℕ) → IsPathOf path place → (step : Step)
      → IsMarkedStep case path subtrees step ↔ IsRightStep case place subtrees step
  right_step path place subtrees of (Split name) = (λ right. right, λ right. right)
  right_step path place subtrees of (Cycle reasons) = (
    λ closed. subst (λ (chosen : List Chosen). IsClosedLeaf case chosen reasons) of.chosen (closed_by case path reasons closed),
    λ closed. closed_on case path reasons (subst (λ (chosen : List Chosen). IsClosedLeaf case chosen reasons) (sym of.chosen) closed),
  )
  right_step path place subtrees of Again = of.reusable

place_there : (marked : List MarkedPlace) (all : List StepPlace) → SamePlaces marked all → (index : ℕ) (path : List PathSplit)
    → option_map (λ (place : MarkedPlace). place.path) (slice_get marked index) ≡ Some path
    → (place : TreePlace) × (option_map (λ (next : StepPlace). next.place) (slice_get all index) ≡ Some place) × IsPathOf path place
place_there [] all same index path is = cc
place_there (marked ∷ more) [] same index path is = absurd same
place_there (marked ∷ more) (next ∷ others) same zero path is =
    let own : marked.path ≡ path = cc in
    (next.place, refl, subst (λ (p : List PathSplit). IsPathOf p next.place) own same.0.path_of)
place_there (marked ∷ more) (next ∷ others) same (suc index) path is = place_there more others same.1 index path is

path_there : (marked : List MarkedPlace) (all : List StepPlace) → SamePlaces marked all → (index : ℕ) (place : TreePlace)
    → option_map (λ (next : StepPlace). next.place) (slice_get all index) ≡ Some place
    → (path : List PathSplit) × (option_map (λ (m : MarkedPlace). m.path) (slice_get marked index) ≡ Some path) × IsPathOf path place
path_there marked [] same index place is = cc
path_there [] (next ∷ others) same index place is = absurd same
path_there (marked ∷ more) (next ∷ others) same zero place is =
    let own : next.place ≡ place = cc in
    (marked.path, refl, subst (IsPathOf marked.path) own same.0.path_of)
path_there (marked ∷ more) (next ∷ others) same (suc index) place is = path_there more others same.1 index place is

module _ (case : Case) where
  right_place : (marked : MarkedPlace) (next : StepPlace) → SamePlace marked next → IsMarkedRight case marked ↔ IsRight case next
  right_place marked next same =
      let right = right_step (case_at case next.step.seen) marked.path next.place next.subtrees same.path_of next.step.step in (
        λ own.
            right.0
            (subst (λ (n : ℕ). IsMarkedStep (case_at case next.step.seen) marked.path n next.step.step) same.subtrees
            (subst (λ (j : Judged). IsMarkedStep (case_at case j.seen) marked.path marked.subtrees j.step) same.step own)),
        λ own.
            subst (λ (j : Judged). IsMarkedStep (case_at case j.seen) marked.path marked.subtrees j.step) (sym same.step)
            (subst (λ (n : ℕ). IsMarkedStep (case_at case next.step.seen) marked.path n next.step.step) (sym same.subtrees) (right.1 own)),
      )

  all_right : (marked : List MarkedPlace) (all : List StepPlace) → SamePlaces marked all → All (IsMarkedRight case) marked
      → All (IsRight case) all
  all_right [] [] same right = All-nil (IsRight case)
  all_right [] (next ∷ others) same right = absurd same
  all_right (marked ∷ more) [] same right = absurd same
  all_right (marked ∷ more) (next ∷ others) same right =
      All-cons (IsRight case) next others ((right_place marked next same.0).0 (All-head (IsMarkedRight case) marked more right))
      (all_right more others same.1 (All-tail (IsMarkedRight case) marked more right))

  all_marked : (marked : List MarkedPlace) (all : List StepPlace) → SamePlaces marked all → All (IsRight case) all
      → All (IsMarkedRight case) marked
  all_marked [] [] same right = All-nil (IsMarkedRight case)
  all_marked [] (next ∷ others) same right = absurd same
  all_marked (marked ∷ more) [] same right = absurd same
  all_marked (marked ∷ more) (next ∷ others) same right =
      All-cons (IsMarkedRight case) marked more ((right_place marked next same.0).1 (All-head (IsRight case) next others right))
      (all_marked more others same.1 (All-tail (IsRight case) next others right))

  -- ---- trees

  -- A refutation is one by its marked places, and the other way round.
  pub refutation_marked : (steps : List Judged) → IsRefutation case steps → IsMarkedRefutation case steps
  refutation_marked steps is = record {
    tree = is.tree;
    steps_are = is.steps_are ∙ sym (steps_same (marked_places_of is.tree) (places_of is.tree) (whole_same is.tree));
    right = all_marked (marked_places_of is.tree) (places_of is.tree) (whole_same is.tree) is.right;
  }

  -- Steps that are a refutation by their marked places are one.
  pub refutation_unmarked : (steps : List Judged) → IsMarkedRefutation case steps → IsRefutation case steps
  refutation_unmarked steps is = record {
    tree = is.tree;
    steps_are = is.steps_are ∙ steps_same (marked_places_of is.tree) (places_of is.tree) (whole_same is.tree);
    right = all_right (marked_places_of is.tree) (places_of is.tree) (whole_same is.tree) is.right;
  }

  -- So is a partial tree.
  pub partial_marked : (steps : List Judged) → IsPartial case steps → IsMarkedPartial case steps
  partial_marked steps is = record {
    tree = is.tree;
    more = is.more;
    unfinished = is.unfinished;
    steps_are = is.steps_are ∙ sym (steps_same (marked_places_of is.tree) (places_of is.tree) (whole_same is.tree));
    right = all_marked (take (length steps) (marked_places_of is.tree)) (take (length steps) (places_of is.tree))
        (take_same (length steps) (marked_places_of is.tree) (places_of is.tree) (whole_same is.tree)) is.right;
  }

  -- Steps that are a partial tree by their marked places are one.
  pub partial_unmarked : (steps : List Judged) → IsMarkedPartial case steps → IsPartial case steps
  partial_unmarked steps is = record {
    tree = is.tree;
    more = is.more;
    unfinished = is.unfinished;
    steps_are = is.steps_are ∙ steps_same (marked_places_of is.tree) (places_of is.tree) (whole_same is.tree);
    right = all_right (take (length steps) (marked_places_of is.tree)) (take (length steps) (places_of is.tree))
        (take_same (length steps) (marked_places_of is.tree) (places_of is.tree) (whole_same is.tree)) is.right;
  }

  -- ---- the present leaf

  -- The leaf of a marked path is the present leaf,
  pub leaf_unmarked : (steps : List Judged) (path : List PathSplit) → IsMarkedLeaf case steps path
      → (place : TreePlace) × IsPresentLeaf case steps place × IsPathOf path place
  unfolding partial_unmarked
  leaf_unmarked steps path leaf =
      let tree : Tree = leaf.partial.tree in
      let there = place_there (marked_places_of tree) (places_of tree) (whole_same tree) (length steps) path leaf.here in
      (there.0, record { partial = partial_unmarked steps leaf.partial; here = there.1 }, there.2)

  -- and the present leaf has a marked path.
  pub leaf_marked : (steps : List Judged) (place : TreePlace) → IsPresentLeaf case steps place
      → (path : List PathSplit) × IsMarkedLeaf case steps path × IsPathOf path place
  unfolding partial_marked
  leaf_marked steps place leaf =
      let tree : Tree = leaf.partial.tree in
      let there = path_there (marked_places_of tree) (places_of tree) (whole_same tree) (length steps) place leaf.here in
      (there.0, record { partial = partial_marked steps leaf.partial; here = there.1 }, there.2)
