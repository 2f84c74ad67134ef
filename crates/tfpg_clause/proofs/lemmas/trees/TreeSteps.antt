-- One more right step makes a refutation or another partial tree of a partial tree.
use Rattle.std.proofs.Common.{◌≡◌, ℕ, suc, ◌+◌, ◌-◌, ◌<◌, List, [], ◌∷◌, ◌++◌, length, take, drop, Option, Some, None, refl, sym, ap, subst, ◌∙◌, arith, append_assoc}
use Rattle.std.specs.Prelude.{All, slice_get, option_map}
use Rattle.std.proofs.Math.Seq.{take-append_seam}
use Rattle.std.proofs.lemmas.List.{length-map, take-map, map-append, append-nil}
use Rattle.std.proofs.lemmas.List.Elements.{All-nil, All-cons, All-append, All-head}
use Rattle.std.proofs.lemmas.Option.{same_Some}
use Rattle.tfpg_base.proofs.lemmas.lists.Elements.{All-front, All-back, slice_get-there}
use Rattle.tfpg_base.proofs.lemmas.lists.Written.{slice_get-after}
use Rattle.tfpg_log.specs.Log.{first_events}
use Rattle.tfpg_clause.specs.Case.{Case, case_at}
use Rattle.tfpg_evidence.specs.declared.clause_name.ClauseName.{ClauseName}
use Rattle.tfpg_evidence.specs.declared.reason.Reason.{Reason}
use Rattle.tfpg_evidence.specs.declared.step.Step.TheVariants.{Split, Cycle, Again}
use Rattle.tfpg_base.proofs.lemmas.lists.Cuts.{cut_at}
use Rattle.tfpg_clause.specs.Clauses.{count_of}
use Rattle.tfpg_clause.specs.Trees.{Judged, Tree, Leaf, Branch, Subtrees, Next, how_many}
use Rattle.tfpg_clause.specs.inside.MarkedTrees.{MarkedPlace, leaf_place, branch_place, again_place, after_subtree, marked_from, marked_places_of, IsMarkedRight, IsMarkedStep, IsClosedOn, IsMarkedRefutation, IsMarkedPartial, IsMarkedLeaf, IsMarkedNext}
use Rattle.tfpg_clause.specs.declared.path.PathSplit.{PathSplit}
use Rattle.tfpg_clause.specs.Paths.{cited_by, new_split, next_leaf, above_last, leaf_next, leaf_after, IsMarkedReusable}
use Rattle.tfpg_clause.proofs.lemmas.trees.LeafPaths.{after_both}
use Rattle.tfpg_clause.proofs.lemmas.alternatives.SomeAlternative.{some_alternative}
use Rattle.tfpg_clause.proofs.lemmas.trees.TreeWalk.{steps_of_places, first_path, walk_tree}
use Rattle.tfpg_clause.proofs.lemmas.trees.Grafts.{Grafted, some_leaves, so_many, graft, graft_again}
use Rattle.tfpg_clause.proofs.lemmas.trees.MarkedLeaf.{more_places, leaf_there}

-- A partial tree with its present leaf: the places of a tree, cut where the leaf is.
pub record Cut (case : Case) (steps : List Judged) (path : List PathSplit) : Type 0 where
  pub tree : Tree
  pub front : List MarkedPlace
  pub here : MarkedPlace
  pub back : List MarkedPlace
  pub places_are : marked_places_of tree ≡ front ++ here ∷ back
  pub steps_are : steps_of_places front ≡ steps
  pub right : All (IsMarkedRight case) front
  pub path_is : here.path ≡ path

module _ (case : Case) where
  abbrev step_in : MarkedPlace → Judged
  step_in place = place.step

  front_steps : (steps : List Judged) (partial : IsMarkedPartial case steps)
      → steps_of_places (take (length steps) (marked_places_of partial.tree)) ≡ steps
  front_steps steps partial =
      sym (take-map step_in (length steps) (marked_places_of partial.tree)) ∙ ap (take (length steps)) (sym partial.steps_are)
      ∙ take-append_seam steps partial.more

  -- The tree is cut where its present leaf is.
  pub cut_of_leaf : (steps : List Judged) (path : List PathSplit) → IsMarkedLeaf case steps path → Cut case steps path
  cut_of_leaf steps path leaf =
      let partial = leaf.partial in
      let place = slice_get-there (marked_places_of partial.tree) (length steps) (more_places case steps partial) in
      let there : option_map (λ (place : MarkedPlace). place.path) (slice_get (marked_places_of partial.tree) (length steps))
      ≡ Some place.0.path =
      ap (option_map (λ (place : MarkedPlace). place.path)) place.1 in
      record {
        tree = partial.tree;
        front = take (length steps) (marked_places_of partial.tree);
        here = place.0;
        back = drop (suc (length steps)) (marked_places_of partial.tree);
        places_are = cut_at (marked_places_of partial.tree) (length steps) place.0 place.1;
        steps_are = front_steps steps partial;
        right = partial.right;
        path_is = same_Some place.0.path path (sym there ∙ leaf.here);
      }

  -- a partial tree has a present leaf
  pub cut_of_partial : (steps : List Judged) → IsMarkedPartial case steps → (path : List PathSplit) × Cut case steps path
  cut_of_partial steps partial = let leaf = leaf_there case steps partial in (leaf.0, cut_of_leaf steps leaf.0 leaf.1)

  leaf_of_front : (tree : Tree) (front : List MarkedPlace) (here : MarkedPlace) (back : List MarkedPlace)
      → marked_places_of tree ≡ front ++ here ∷ back → All (IsMarkedRight case) front
      → IsMarkedLeaf case (steps_of_places front) here.path
  leaf_of_front tree front here back are right =
      let many : length (steps_of_places front) ≡ length front = length-map front step_in in
      record {
        partial = record {
          tree = tree;
          more = steps_of_places (here ∷ back);
          unfinished = omega arith;
          steps_are = sym (map-append step_in front (here ∷ back)) ∙ ap steps_of_places (sym are);
          right =
              let first : take (length (steps_of_places front)) (marked_places_of tree) ≡ front =
              ap (λ (n : ℕ). take n (marked_places_of tree)) many ∙ ap (take (length front)) are ∙ take-append_seam front (here ∷ back) in
              subst (All (IsMarkedRight case)) (sym first) right;
        };
        here =
            ap (option_map (λ (place : MarkedPlace). place.path))
            (ap (λ (n : ℕ). slice_get (marked_places_of tree) n) many ∙ ap (λ (ps : List MarkedPlace). slice_get ps (length front)) are
            ∙ slice_get-after front here back);
      }

  -- A tree that is cut where its next place has this path has a present leaf of the path.
  pub leaf_of_cut : (steps : List Judged) (path : List PathSplit) → Cut case steps path → IsMarkedLeaf case steps path
  leaf_of_cut steps path cut =
      let leaf : IsMarkedLeaf case (steps_of_places cut.front) cut.here.path =
      leaf_of_front cut.tree cut.front cut.here cut.back cut.places_are cut.right in
      let of_steps : IsMarkedLeaf case steps cut.here.path =
      subst (λ (s : List Judged). IsMarkedLeaf case s cut.here.path) cut.steps_are leaf in
      subst (λ (p : List PathSplit). IsMarkedLeaf case steps p) cut.path_is of_steps

  -- the path of the leaf is the one that the steps lead to
  pub path_of_cut : (steps : List Judged) (path : List PathSplit) → Cut case steps path → leaf_after case (Some []) steps ≡ Some path
  path_of_cut steps path cut =
      ap (leaf_after case (Some [])) (sym cut.steps_are)
      ∙ walk_tree case [] cut.tree cut.front (cut.here ∷ cut.back) cut.places_are cut.right
      ∙ ap (λ (p : List PathSplit). Some p) cut.path_is

  -- and so there is only one
  pub one_leaf : (steps : List Judged) (one other : List PathSplit) → IsMarkedLeaf case steps one → IsMarkedLeaf case steps other
      → one ≡ other
  one_leaf steps one other first second =
      same_Some one other
      (sym (path_of_cut steps one (cut_of_leaf steps one first)) ∙ path_of_cut steps other (cut_of_leaf steps other second))

  -- the steps of a refutation lead to no leaf
  pub none_of_refutation : (steps : List Judged) → IsMarkedRefutation case steps → leaf_after case (Some []) steps ≡ None
  none_of_refutation steps refutation =
      ap (leaf_after case (Some [])) refutation.steps_are
      ∙ walk_tree case [] refutation.tree (marked_places_of refutation.tree) []
      (sym (append-nil (marked_places_of refutation.tree))) refutation.right

  -- a refutation has no leaf left
  pub no_partial : (steps : List Judged) → IsMarkedRefutation case steps → IsMarkedPartial case steps → ⊥
  no_partial steps refutation partial =
      let cut = cut_of_partial steps partial in
      let both : None ≡ Some cut.0 = sym (none_of_refutation steps refutation) ∙ path_of_cut steps cut.0 cut.1 in
      cc

  -- no step: the leaf is the root
  pub first_cut : Cut case [] []
  first_cut = record {
    tree = Leaf 0 [];
    front = [];
    here = leaf_place [] 0 [];
    back = [];
    places_are = refl;
    steps_are = refl;
    right = All-nil (IsMarkedRight case);
    path_is = refl;
  }

  -- ---- a split

  -- A split on an allowed name moves to its first alternative.
  pub split_step : (steps : List Judged) (path : List PathSplit) (seen : ℕ) (name : ClauseName) (count : ℕ) → Cut case steps path
      → count_of case.graph (first_events case.log seen) name ≡ Some count
      → Cut case (steps ++ record { seen = seen; step = Split name } ∷ []) (path ++ new_split name count ∷ [])
  split_step steps path seen name count cut is =
      let some : 0 < count = some_alternative case.graph (first_events case.log seen) name count is in
      let others : Subtrees = some_leaves (count - 1) in
      let many : suc (how_many others) ≡ count = ap (λ (k : ℕ). suc k) (so_many (count - 1)) ∙ omega arith in
      let new : Tree = Branch seen name (Next (Leaf 0 []) others) in
      let grafted = graft [] cut.tree cut.front cut.here cut.back new cut.places_are in
      let split : PathSplit = new_split name (suc (how_many others)) in
      let first : MarkedPlace = branch_place cut.here.path seen name (suc (how_many others)) in
      let own : List PathSplit = cut.here.path ++ split ∷ [] in
      let leaf : MarkedPlace = leaf_place own 0 [] in
      let later : List MarkedPlace =
      marked_from (cited_by [] cut.here.path) (after_subtree (length cut.here.path + 1) [] split) others ++ grafted.rest in
      let first_right : IsMarkedRight case first = is ∙ ap (λ (k : ℕ). Some k) (sym many) in
      record {
        tree = grafted.tree;
        front = cut.front ++ first ∷ [];
        here = leaf;
        back = later;
        places_are = grafted.is ∙ sym (append_assoc cut.front (first ∷ []) (leaf ∷ later));
        steps_are =
            map-append step_in cut.front (first ∷ [])
            ∙ ap (λ (s : List Judged). s ++ record { seen = seen; step = Split name } ∷ []) cut.steps_are;
        right =
            All-append (IsMarkedRight case) cut.front (first ∷ []) cut.right
            (All-cons (IsMarkedRight case) first [] first_right (All-nil (IsMarkedRight case)));
        path_is = ap (λ (p : List PathSplit). p ++ split ∷ []) cut.path_is ∙ ap (λ (n : ℕ). path ++ new_split name n ∷ []) many;
      }

  -- ---- a step that closes a leaf

  -- a tree after such a step, with the places that are left
  record ClosedTree (steps : List Judged) (next : Option (List PathSplit)) (rest : List MarkedPlace) : Type 0 where
    tree : Tree
    front : List MarkedPlace
    places_are : marked_places_of tree ≡ front ++ rest
    steps_are : steps_of_places front ≡ steps
    right : All (IsMarkedRight case) front
    path_is : next ≡ first_path None rest

  -- the tree in which the step has this place
  closed_tree : (steps : List Judged) (path : List PathSplit) (one : MarkedPlace) (cut : Cut case steps path)
      → Grafted [] cut.front (one ∷ []) → IsMarkedRight case one
      → (rest : List MarkedPlace) × ClosedTree (steps ++ one.step ∷ []) (leaf_next case path one.step.seen one.step.step) rest
  closed_tree steps path one cut grafted one_right =
      let front : List MarkedPlace = cut.front ++ one ∷ [] in
      let right : All (IsMarkedRight case) front =
      All-append (IsMarkedRight case) cut.front (one ∷ []) cut.right
      (All-cons (IsMarkedRight case) one [] one_right (All-nil (IsMarkedRight case))) in
      let are : marked_places_of grafted.tree ≡ front ++ grafted.rest = grafted.is ∙ sym (append_assoc cut.front (one ∷ []) grafted.rest) in
      let steps_are : steps_of_places front ≡ steps ++ one.step ∷ [] =
      map-append step_in cut.front (one ∷ []) ∙ ap (λ (s : List Judged). s ++ one.step ∷ []) cut.steps_are in (
        grafted.rest,
        record {
          tree = grafted.tree;
          front = front;
          places_are = are;
          steps_are = steps_are;
          right = right;
          path_is =
              sym (ap (λ (leaf : Option (List PathSplit)). leaf_after case leaf (one.step ∷ [])) (path_of_cut steps path cut))
              ∙ sym (after_both case (Some []) steps (one.step ∷ []))
              ∙ ap (leaf_after case (Some [])) (sym steps_are)
              ∙ walk_tree case [] grafted.tree front grafted.rest are right;
        },
      )

  finished : (steps : List Judged) (next : Option (List PathSplit)) (rest : List MarkedPlace) → ClosedTree steps next rest → next ≡ None
      → IsMarkedRefutation case steps
  finished steps next [] closed none =
      let all : marked_places_of closed.tree ≡ closed.front = closed.places_are ∙ append-nil closed.front in
      record {
        tree = closed.tree;
        steps_are = sym closed.steps_are ∙ ap steps_of_places (sym all);
        right = subst (All (IsMarkedRight case)) (sym all) closed.right;
      }
  finished steps next (here ∷ back) closed none = let same : Some here.path ≡ None = sym closed.path_is ∙ none in cc

  goes_on : (steps : List Judged) (next : Option (List PathSplit)) (path : List PathSplit) (rest : List MarkedPlace)
      → ClosedTree steps next rest → next ≡ Some path → Cut case steps path
  goes_on steps next path [] closed some = let same : None ≡ Some path = sym closed.path_is ∙ some in cc
  goes_on steps next path (here ∷ back) closed some =
      let same : Some here.path ≡ Some path = sym closed.path_is ∙ some in
      let path_same : here.path ≡ path = cc in
      record {
        tree = closed.tree;
        front = closed.front;
        here = here;
        back = back;
        places_are = closed.places_are;
        steps_are =
            closed.steps_are;
        right = closed.right;
        path_is = path_same;
      }

  -- a cycle
  after_cycle : (steps : List Judged) (path : List PathSplit) (seen : ℕ) (reasons : List Reason) → Cut case steps path
      → IsClosedOn (case_at case seen) path reasons
      → (rest : List MarkedPlace) × ClosedTree (steps ++ record { seen = seen; step = Cycle reasons } ∷ [])
      (next_leaf (cited_by reasons path)) rest
  after_cycle steps path seen reasons cut closed =
      closed_tree steps path (leaf_place cut.here.path seen reasons) cut
      (graft [] cut.tree cut.front cut.here cut.back (Leaf seen reasons) cut.places_are)
      (subst (λ (p : List PathSplit). IsClosedOn (case_at case seen) p reasons) (sym cut.path_is) closed)

  -- A cycle that closes the last leaf makes a refutation;
  pub last_cycle : (steps : List Judged) (path : List PathSplit) (seen : ℕ) (reasons : List Reason) → Cut case steps path
      → IsClosedOn (case_at case seen) path reasons
      → next_leaf (cited_by reasons path) ≡ None → IsMarkedRefutation case (steps ++ record { seen = seen; step = Cycle reasons } ∷ [])
  last_cycle steps path seen reasons cut closed none =
      let tree = after_cycle steps path seen reasons cut closed in
      finished (steps ++ record { seen = seen; step = Cycle reasons } ∷ []) (next_leaf (cited_by reasons path)) tree.0 tree.1 none

  -- one that closes another leaf moves to the next.
  pub cycle_step : (steps : List Judged) (path next : List PathSplit) (seen : ℕ) (reasons : List Reason) → Cut case steps path
      → IsClosedOn (case_at case seen) path reasons
      → next_leaf (cited_by reasons path) ≡ Some next → Cut case (steps ++ record { seen = seen; step = Cycle reasons } ∷ []) next
  cycle_step steps path next seen reasons cut closed some =
      let tree = after_cycle steps path seen reasons cut closed in
      goes_on (steps ++ record { seen = seen; step = Cycle reasons } ∷ []) (next_leaf (cited_by reasons path)) next tree.0 tree.1 some

  -- at the root no subtree is reusable
  not_at_root : (path : List PathSplit) → IsMarkedReusable path → path ≡ [] → ⊥
  not_at_root path reusable root = let none : IsMarkedReusable [] = subst IsMarkedReusable root reusable in absurd none

  -- a subtree that is reused
  after_again : (steps : List Judged) (path : List PathSplit) (seen : ℕ) → Cut case steps path → IsMarkedReusable path
      → (rest : List MarkedPlace) × ClosedTree (steps ++ record { seen = seen; step = Again } ∷ []) (next_leaf (above_last path)) rest
  after_again steps path seen cut reusable =
      let here : IsMarkedReusable cut.here.path = subst IsMarkedReusable (sym cut.path_is) reusable in
      closed_tree steps path (again_place cut.here.path seen) cut
      (graft_again cut.tree cut.front cut.here cut.back seen (not_at_root cut.here.path here) cut.places_are) here

  -- A subtree that is reused, where no leaf is left, makes a refutation;
  pub last_again : (steps : List Judged) (path : List PathSplit) (seen : ℕ) → Cut case steps path → IsMarkedReusable path
      → next_leaf (above_last path) ≡ None
      → IsMarkedRefutation case (steps ++ record { seen = seen; step = Again } ∷ [])
  last_again steps path seen cut reusable none =
      let tree = after_again steps path seen cut reusable in
      finished (steps ++ record { seen = seen; step = Again } ∷ []) (next_leaf (above_last path)) tree.0 tree.1 none

  -- and else moves to the next.
  pub again_step : (steps : List Judged) (path next : List PathSplit) (seen : ℕ) → Cut case steps path → IsMarkedReusable path
      → next_leaf (above_last path) ≡ Some next
      → Cut case (steps ++ record { seen = seen; step = Again } ∷ []) next
  again_step steps path next seen cut reusable some =
      let tree = after_again steps path seen cut reusable in
      goes_on (steps ++ record { seen = seen; step = Again } ∷ []) (next_leaf (above_last path)) next tree.0 tree.1 some

  -- ---- the last step

  record LastPlace (front : List MarkedPlace) (steps : List Judged) (last : Judged) : Type 0 where
    before : List MarkedPlace
    place : MarkedPlace
    front_is : front ≡ before ++ place ∷ []
    steps_are : steps_of_places before ≡ steps
    last_is : place.step ≡ last

  last_place : (front : List MarkedPlace) (steps : List Judged) (last : Judged) → steps_of_places front ≡ steps ++ last ∷ []
      → LastPlace front steps last
  last_place [] [] last same = cc
  last_place [] (step ∷ steps) last same = cc
  last_place (place ∷ []) [] last same =
      let is : place.step ≡ last = cc in record { before = []; place = place; front_is = refl; steps_are = refl; last_is = is }
  last_place (place ∷ other ∷ front) [] last same = let none : other.step ∷ steps_of_places front ≡ [] = cc in cc
  last_place (place ∷ front) (step ∷ steps) last same =
      let head : place.step ≡ step = cc in
      let tail : steps_of_places front ≡ steps ++ last ∷ [] = cc in
      let rest = last_place front steps last tail in
      record {
        before = place ∷ rest.before;
        place = rest.place;
        front_is = ap (λ (ps : List MarkedPlace). place ∷ ps) rest.front_is;
        steps_are = ap (λ (s : Judged). s ∷ steps_of_places rest.before) head ∙ ap (λ (s : List Judged). step ∷ s) rest.steps_are;
        last_is = rest.last_is;
      }

  -- the last of some right steps stands at the leaf of the steps before it
  last_of : (tree : Tree) (front rest : List MarkedPlace) (steps : List Judged) (last : Judged) → marked_places_of tree ≡ front ++ rest
      → All (IsMarkedRight case) front
      → steps_of_places front ≡ steps ++ last ∷ [] → IsMarkedNext case steps last
  last_of tree front rest steps last are right same =
      let at = last_place front steps last same in
      let place = at.place in
      let split_right : All (IsMarkedRight case) (at.before ++ place ∷ []) = subst (All (IsMarkedRight case)) at.front_is right in
      let place_right : IsMarkedRight case place =
      All-head (IsMarkedRight case) place [] (All-back (IsMarkedRight case) at.before (place ∷ []) split_right) in
      let split_are : marked_places_of tree ≡ at.before ++ place ∷ rest =
      are ∙ ap (λ (f : List MarkedPlace). f ++ rest) at.front_is ∙ append_assoc at.before (place ∷ []) rest in
      let leaf : IsMarkedLeaf case (steps_of_places at.before) place.path =
      leaf_of_front tree at.before place rest split_are (All-front (IsMarkedRight case) at.before (place ∷ []) split_right) in
      record {
        path = place.path;
        leaf = subst (λ (s : List Judged). IsMarkedLeaf case s place.path) at.steps_are leaf;
        subtrees = place.subtrees;
        right = subst (λ (s : Judged). IsMarkedStep (case_at case s.seen) place.path place.subtrees s.step) at.last_is place_right;
      }

  -- The last step of a refutation is right at the present leaf of the steps before it;
  pub last_of_refutation : (steps : List Judged) (last : Judged) → IsMarkedRefutation case (steps ++ last ∷ [])
      → IsMarkedNext case steps last
  last_of_refutation steps last refutation =
      last_of refutation.tree (marked_places_of refutation.tree) [] steps last
      (sym (append-nil (marked_places_of refutation.tree))) refutation.right (sym refutation.steps_are)

  -- and so is that of a partial tree.
  pub last_of_partial : (steps : List Judged) (last : Judged) → IsMarkedPartial case (steps ++ last ∷ []) → IsMarkedNext case steps last
  last_of_partial steps last partial =
      let cut = cut_of_partial (steps ++ last ∷ []) partial in
      last_of cut.1.tree cut.1.front (cut.1.here ∷ cut.1.back) steps last cut.1.places_are cut.1.right cut.1.steps_are
