-- After each move the search stands at its leaf, and its steps lead there.
use Rattle.std.proofs.Common.{◌≡◌, ℕ, ◌+◌, ◌-◌, ◌<◌, List, [], ◌∷◌, ◌++◌, length, take, Option, Some, None, sym, ap, subst, ◌∙◌}
use Rattle.std.specs.Prelude.{slice_get, map, Result, Ok, Err, OnOk, IfErr}
use Rattle.tfpg_base.specs.Choice.{each_of}
use Rattle.tfpg_base.specs.declared.constraint.Constraint.{Constraint}
use Rattle.tfpg_graph.specs.Graph.{Tfpg}
use Rattle.tfpg_log.specs.Log.{Logbook}
use Rattle.tfpg_evidence.specs.declared.clause_name.ClauseName.{ClauseName}
use Rattle.tfpg_evidence.specs.declared.reason.Reason.{Reason}
use Rattle.tfpg_evidence.specs.declared.step.Step.{Step}
use Rattle.tfpg_evidence.specs.declared.step.Step.TheVariants.{Split, Cycle, Again}
use Rattle.tfpg_clause.specs.Facts.{fact}
use Rattle.tfpg_clause.specs.Clauses.{count_of}
use Rattle.tfpg_search.specs.declared.add_fault.AddFault.{AddFault}
use Rattle.tfpg_search.specs.inside.Closing.{Closes, IsSimpleCycle}
use Rattle.tfpg_clause.specs.Paths.{chosen_on, new_split, cited_by, next_leaf, above_last, MovesTo, IsMarkedReusable}
use Rattle.tfpg_clause.specs.declared.path.PathSplit.{PathSplit}
use Rattle.tfpg_search.specs.inside.Leaf.{Leaf, pick_reasons, IsStated}
use Rattle.tfpg_search.specs.inside.Picks.{picks_from}
use Rattle.tfpg_search.specs.inside.Leaving.{constraint_count_at, Leaves, Pushing}
use Rattle.tfpg_search.specs.SearchState.{SearchState, case_of_search}
use Rattle.tfpg_search.specs.inside.AtItsLeaf.{IsAtItsLeaf, HasEnteredAll, with_next_entered}
use Rattle.tfpg_search.specs.inside.Moves.{IsSearchStepAt, Grows, GrowsAnyhow, KeepsSet, IsLoaded, untaken}
use Rattle.tfpg_search.proofs.lemmas.steps.StepsAppended.{grows_none, grows_one}
use Rattle.tfpg_search.specs.inside.Facts.{AreFactsIn}
use Rattle.tfpg_search.proofs.lemmas.work.BoundsGiven.{system_given}
use Rattle.tfpg_search.proofs.lemmas.leaves.AlternativePushed.{at_other}
use Rattle.tfpg_search.proofs.lemmas.leaves.AtItsLeaf.{leaf_stands, cited_stands, split_stands, enter_stands, left_again}
use Rattle.tfpg_search.proofs.lemmas.leaves.NextLeaf.{next_stands, next_some, next_fewer, untaken_cited}
use Rattle.tfpg_search.proofs.lemmas.steps.PathAfter.{Moved, moved_by}
use Rattle.tfpg_clause.specs.Trees.{split_count}
use Rattle.tfpg_clause.specs.inside.MarkedTrees.{stated_on}
use Rattle.tfpg_clause.specs.Case.{case_of}
use Rattle.tfpg_clause.proofs.lemmas.trees.Unmarked.{closed_by, stated_same}
use Rattle.tfpg_search.specs.Live.{IsLiveAt}
use Rattle.tfpg_search.specs.Searched.{call_of}

module _ (graph : Tfpg) (log : Logbook) (old : SearchState) (at : IsAtItsLeaf graph log old) (before : List Step) where
  -- nothing happened
  pub nothing : (new : SearchState) → GrowsAnyhow graph log (call_of old new before before)
  nothing new = (Some old.path, grows_none graph log old new before)

  -- ---- a split

  pub split_ok : (new : SearchState) (after : List Step) (name : ClauseName) (count : ℕ) → HasEnteredAll old → IsLiveAt (case_of_search graph log old) (chosen_on old.path) name → (IsMarkedReusable old.path → ⊥)
      → count_of graph log name ≡ Some count → 0 < count → new ≡ record old { path = old.path ++ new_split name count ∷ [] } → after ≡ before ++ Split name ∷ []
      → IsAtItsLeaf graph log new × Grows graph log (call_of old new before after) 1 (Some new.path)
  split_ok new after name count all live none counted some same appended = (
    subst (IsAtItsLeaf graph log) (sym same) (split_stands graph log old at name count all counted some),
    grows_one graph log old new before after (Split name) (Some new.path) appended (count, counted, ap (λ (s : SearchState). Some s.path) same) (live, none),
  )

  -- ---- a closed leaf

  -- the move of a cycle, and of a subtree that is reused
  pub cycle_moves : (reasons cited : List Reason) (end : Option (List PathSplit)) → IsSimpleCycle (stated_on (case_of_search graph log old) old.path) reasons → cited ≡ reasons
      → next_leaf (cited_by cited old.path) ≡ end → MovesTo (case_of_search graph log old) old.path (Cycle reasons) end
  cycle_moves reasons cited end cycle same is =
      (closed_by (case_of_search graph log old) old.path reasons (record { constraints = cycle.0; hold = cycle.1.are_named; negative_cycle = cycle.1.negative_cycle }), sym is ∙ ap (λ (rs : List Reason). next_leaf (cited_by rs old.path)) same)

  pub cycle_is : (reasons : List Reason) → IsSimpleCycle (stated_on (case_of_search graph log old) old.path) reasons → (IsMarkedReusable old.path → ⊥)
      → IsSearchStepAt (case_of_search graph log old) old.path (Cycle reasons)
  cycle_is reasons cycle none =
      let names = subst (λ (s : Reason → Option Constraint). each_of (map s reasons) ≡ Some cycle.0) (sym (stated_same (case_of_search graph log old) old.path)) cycle.1.are_named in
      (record { constraints = cycle.0; hold = names; simple = cycle.1.simple }, none)

  pub reuse_moves : (end : Option (List PathSplit)) → IsMarkedReusable old.path → next_leaf (above_last old.path) ≡ end → MovesTo (case_of_search graph log old) old.path Again end
  reuse_moves end reusable is = (reusable, sym is)

  module _ (after : List Step) (step : Step) (closes : split_count (step ∷ []) ≡ 0) (is_step : IsSearchStepAt (case_of_search graph log old) old.path step) (appended : after ≡ before ++ step ∷ []) where
    closes_to : (new : SearchState) (end : Option (List PathSplit)) → MovesTo (case_of_search graph log old) old.path step end → Grows graph log (call_of old new before after) 0 end
    closes_to new end moves = subst (λ (n : ℕ). Grows graph log (call_of old new before after) n end) closes (grows_one graph log old new before after step end appended moves is_step)

    -- no leaf is left
    pub close_last : (new : SearchState) → MovesTo (case_of_search graph log old) old.path step None → Grows graph log (call_of old new before after) 0 None
    close_last new moves = closes_to new None moves

    module _ (middle : SearchState) (same : middle ≡ record old { path = middle.path }) (moves : MovesTo (case_of_search graph log old) old.path step (Some middle.path)) where
      moved : Moved old.path middle.path
      moved = moved_by (case_of_search graph log old) old.path middle.path step closes moves

      abbrev marked : SearchState
      marked = record old { path = cited_by moved.0 old.path }

      marked_at : IsAtItsLeaf graph log marked
      marked_at = cited_stands graph log old at moved.0

      pub close_some : length middle.path ≡ 0 → ⊥
      close_some = next_some graph log marked marked_at middle.path moved.1

      pub close_ok : (new : SearchState) (kept : ℕ) → kept ≡ length middle.path - 1 → new ≡ record middle { entered = take kept middle.entered; leaf = new.leaf }
          → Leaves (slice_get middle.entered kept) middle.leaf new.leaf
          → IsAtItsLeaf graph log new × Grows graph log (call_of old new before after) 0 (Some new.path) × (untaken new.path < untaken old.path)
      close_ok new kept number new_is leaves =
          let path_is : new.path ≡ middle.path = ap (λ (s : SearchState). s.path) new_is in
          let entered_is : middle.entered ≡ old.entered = ap (λ (s : SearchState). s.entered) same in
          let leaf_is : middle.leaf ≡ old.leaf = ap (λ (s : SearchState). s.leaf) same in
          let left : Leaves (slice_get old.entered kept) old.leaf new.leaf =
          subst (λ (l : Leaf). Leaves (slice_get old.entered kept) l new.leaf) leaf_is (subst (λ (es : List ℕ). Leaves (slice_get es kept) middle.leaf new.leaf) entered_is leaves) in
          let stands : IsAtItsLeaf graph log (record old { path = middle.path; entered = take kept old.entered; leaf = new.leaf }) =
          next_stands graph log marked marked_at middle.path moved.1 kept number new.leaf left in
          let all : new ≡ record old { path = middle.path; entered = take kept old.entered; leaf = new.leaf } =
          new_is ∙ ap (λ (s : SearchState). record s { path = middle.path; entered = take kept s.entered; leaf = new.leaf }) same in
          let fewer : untaken middle.path < untaken old.path =
          subst (λ (n : ℕ). untaken middle.path < n) (untaken_cited 1 moved.0 old.path) (next_fewer graph log marked marked_at middle.path moved.1) in (
            subst (IsAtItsLeaf graph log) (sym all) stands,
            subst (λ (fs : List PathSplit). Grows graph log (call_of old new before after) 0 (Some fs)) (sym path_is) (closes_to new (Some middle.path) moves),
            subst (λ (fs : List PathSplit). untaken fs < untaken old.path) (sym path_is) fewer,
          )

-- ---- entering

module _ (graph : Tfpg) (log : Logbook) (old : SearchState) (at : IsAtItsLeaf graph log old) where
  module _ (marked : SearchState) (marked_is : marked ≡ with_next_entered old) where
    pub marked_stated : IsStated (fact (case_of graph log marked.reach)) (stated_on (case_of graph log marked.reach) marked.path) marked.leaf
    marked_stated =
        subst (λ (s : SearchState). IsStated (fact (case_of graph log s.reach)) (stated_on (case_of graph log s.reach) s.path) s.leaf) (sym marked_is) at.stated

    pub marked_closes : (fault : AddFault) → Closes (stated_on (case_of graph log marked.reach) marked.path) fault → Closes (stated_on (case_of graph log old.reach) old.path) fault
    marked_closes fault closes = subst (λ (s : SearchState). Closes (stated_on (case_of graph log s.reach) s.path) fault) marked_is closes

    module _ (pushed : SearchState) (pushed_is : pushed ≡ record marked { leaf = pushed.leaf }) (pushing : Pushing (case_of graph log marked.reach) marked.path marked.leaf pushed.leaf) where
      whole : pushed ≡ record old { entered = old.entered ++ length (pick_reasons old.leaf) ∷ []; leaf = pushed.leaf }
      whole = pushed_is ∙ ap (λ (s : SearchState). record s { leaf = pushed.leaf }) marked_is

      pushing_old : Pushing (case_of graph log old.reach) old.path old.leaf pushed.leaf
      pushing_old =
          let from_marked = subst (λ (s : SearchState). Pushing (case_of graph log s.reach) s.path s.leaf pushed.leaf) marked_is pushing in
          record { variables = from_marked.variables; stated = from_marked.stated; more = from_marked.more }

      module _ (count : ℕ) (count_is : count ≡ length old.entered) where
        module _ (not_all : count ≡ length old.path → ⊥) (split : ℕ) (split_is : split ≡ count + 1)
            (picks : pick_reasons pushed.leaf ≡ pick_reasons marked.leaf ++ picks_from split 1 (constraint_count_at graph log marked.path split)) where
          left_out : HasEnteredAll old → ⊥
          left_out all = not_all (count_is ∙ all)

          pub entered_stands : IsAtItsLeaf graph log pushed
          entered_stands =
              let number : split ≡ length old.entered + 1 = split_is ∙ ap (λ (n : ℕ). n + 1) count_is in
              let picks_old : pick_reasons pushed.leaf ≡ pick_reasons old.leaf ++ picks_from split 1 (constraint_count_at graph log old.path split) =
              subst (λ (s : SearchState). pick_reasons pushed.leaf ≡ pick_reasons s.leaf ++ picks_from split 1 (constraint_count_at graph log s.path split)) marked_is picks in
              let picks_there : pick_reasons pushed.leaf ≡ pick_reasons old.leaf ++ picks_from (length old.entered + 1) 1 (constraint_count_at graph log old.path (length old.entered + 1)) =
              subst (λ (n : ℕ). pick_reasons pushed.leaf ≡ pick_reasons old.leaf ++ picks_from n 1 (constraint_count_at graph log old.path n)) number picks_old in
              subst (IsAtItsLeaf graph log) (sym whole) (enter_stands graph log old at left_out pushed.leaf pushing_old picks_there)

        pub left_stands : (new : SearchState) → new ≡ record pushed { entered = take count pushed.entered; leaf = new.leaf }
            → Leaves (slice_get pushed.entered count) pushed.leaf new.leaf → IsAtItsLeaf graph log new
        left_stands new new_is leaves =
            let marks : List ℕ = old.entered ++ length (pick_reasons old.leaf) ∷ [] in
            let entered_is : pushed.entered ≡ old.entered ++ length (pick_reasons old.leaf) ∷ [] = ap (λ (s : SearchState). s.entered) whole in
            let left : Leaves (slice_get (old.entered ++ length (pick_reasons old.leaf) ∷ []) (length old.entered)) pushed.leaf new.leaf =
            subst (λ (n : ℕ). Leaves (slice_get (old.entered ++ length (pick_reasons old.leaf) ∷ []) n) pushed.leaf new.leaf) count_is
            (subst (λ (es : List ℕ). Leaves (slice_get es count) pushed.leaf new.leaf) entered_is leaves) in
            let all : new ≡ record old { entered = take (length old.entered) (old.entered ++ length (pick_reasons old.leaf) ∷ []); leaf = new.leaf } =
            new_is
            ∙ ap (λ (s : SearchState). record s { entered = take count s.entered; leaf = new.leaf }) whole
            ∙ ap (λ (n : ℕ). record old { entered = take n (old.entered ++ length (pick_reasons old.leaf) ∷ []); leaf = new.leaf }) count_is in
            subst (IsAtItsLeaf graph log) (sym all) (left_again graph log old at pushed.leaf new.leaf pushing_old left)

  -- ---- the facts are added

  pub facts_stand : (new : SearchState) → new ≡ record old { leaf = new.leaf } → length new.leaf.demands.bounds ≡ length old.leaf.demands.bounds
      → pick_reasons new.leaf ≡ pick_reasons old.leaf
      → ((stated : Reason → Option Constraint) → IsStated (fact (case_of graph log old.reach)) stated old.leaf → IsStated (fact (case_of graph log old.reach)) stated new.leaf)
      → IsAtItsLeaf graph log new
  facts_stand new new_is variables reasons keeps =
      subst (IsAtItsLeaf graph log) (sym new_is) (leaf_stands graph log old at new.leaf variables (keeps (stated_on (case_of graph log old.reach) old.path) at.stated) reasons)

-- All facts are added where all alternatives were entered: the leaf is loaded.
pub add_loaded : (graph : Tfpg) (log : Logbook) (middle new : SearchState) → new ≡ record middle { leaf = new.leaf } → HasEnteredAll middle → IsAtItsLeaf graph log new → (result : Result (Unit {0}) AddFault)
    → OnOk result ((node : ℕ) → node < length graph.nodes → AreFactsIn (fact (case_of graph log middle.reach)) new.leaf.demands node)
    → OnOk result (IsLoaded graph log new)
add_loaded graph log middle new same all at (Ok done) inside =
    let there : IsAtItsLeaf graph log (record middle { leaf = new.leaf }) = subst (IsAtItsLeaf graph log) same at in
    subst (λ (s : SearchState). IsLoaded graph log s) (sym same)
    (record { all_entered = all; bounds = system_given (case_of graph log middle.reach) new.leaf there.variables there.stated.bounds inside })
add_loaded graph log middle new same all at (Err fault) inside = tt

pub add_closes : (graph : Tfpg) (log : Logbook) (old middle : SearchState) → KeepsSet old middle → middle.path ≡ old.path → (result : Result (Unit {0}) AddFault)
    → IfErr result (Closes (stated_on (case_of graph log middle.reach) middle.path)) → IfErr result (Closes (stated_on (case_of graph log old.reach) old.path))
add_closes graph log old middle keeps path result closes =
    at_other old middle keeps.reach path (λ (r : List ℕ) (fs : List PathSplit). IfErr result (Closes (stated_on (case_of graph log r) fs))) closes
