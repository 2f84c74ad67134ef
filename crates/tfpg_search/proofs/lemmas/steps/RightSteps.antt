-- The steps that lead on from the leaf of a path are right after the steps that lead there.
use Rattle.std.proofs.Common.{◌≡◌, List, [], ◌∷◌, ◌++◌, Option, Some, None, refl, sym, ap, subst, ◌∙◌, inl, inr, append_assoc}
use Rattle.std.specs.Prelude.{map}
use Rattle.std.proofs.lemmas.List.{append-nil}
use Rattle.std.proofs.lemmas.List.Elements.{All-push}
use Rattle.tfpg_evidence.specs.declared.clause_name.ClauseName.{ClauseName}
use Rattle.tfpg_evidence.specs.declared.step.Step.{Step}
use Rattle.tfpg_evidence.specs.declared.step.Step.TheVariants.{Split, Cycle, Again}
use Rattle.tfpg_clause.specs.Case.{Case}
use Rattle.tfpg_clause.specs.Trees.{Judged, Chosen, TreePlace, split_count, IsRefutation, IsPresentLeaf}
use Rattle.tfpg_clause.specs.Paths.{chosen_on, IsMarkedReusable, HasPath, IsPathOf, new_split, judged_by, with_step, with_steps, MovesTo}
use Rattle.tfpg_clause.specs.declared.path.PathSplit.{PathSplit}
use Rattle.tfpg_search.specs.Live.{IsLiveAt, IsLive, IsSimpleAt, AllowsReuse, HasDistinctNames, HasNoNameTwice}
use Rattle.tfpg_search.specs.Searched.{IsSearchStep, AreSearchSteps}
use Rattle.tfpg_search.specs.inside.Moves.{IsSearchStepAt, Leads, LeadsTo}
use Rattle.tfpg_search.specs.inside.Picks.{IsAllowed}
use Rattle.tfpg_search.specs.inside.ClauseLaws.{ClauseLaws}
use Rattle.tfpg_base.proofs.lemmas.lists.Cuts.{cut_last}
use Rattle.tfpg_clause.proofs.lemmas.trees.Unmarked.{picked_same}
use Rattle.tfpg_search.proofs.lemmas.steps.DistinctNames.{AreDistinct, chosen_distinct, distinct_chosen, new_name, distinct_push, distinct_after, range_after, range_push}
use Rattle.tfpg_search.proofs.lemmas.steps.PathAfter.{Moved, moved_by, all_after}

module _ (laws : ClauseLaws) (case : Case) where
  module _ (path : List PathSplit) (earlier : List Judged) (has : HasPath case earlier path) where
    -- the present leaf, of which it is the path
    there : (place : TreePlace) × IsPresentLeaf case earlier place × IsPathOf path place
    there = laws.path_is case earlier path has

    pub live_here : (name : ClauseName) → IsLiveAt case (chosen_on path) name → IsLive case earlier name
    live_here name live = record { place = there.0; leaf = there.1; live = subst (λ (p : List Chosen). IsLiveAt case p name) there.2.chosen live }

    -- where no subtree is reusable at this leaf, none is after the steps
    pub none_allowed : (IsMarkedReusable path → ⊥) → AllowsReuse case earlier → ⊥
    none_allowed none allows =
        let alike = laws.one_leaf case earlier allows.place there.0 allows.leaf there.1 in
        none (there.2.reusable.1 (alike.1.0 allows.reusable))

    right_here : (step : Step) → IsSearchStepAt case path step → IsSearchStep case earlier step
    right_here (Split name) is = (live_here name is.0, none_allowed is.1)
    right_here (Cycle reasons) is = (
      record { place = there.0; leaf = there.1; simple = subst (λ (p : List Chosen). IsSimpleAt case p reasons) there.2.chosen is.0 },
      none_allowed is.1,
    )
    right_here Again is = record { place = there.0; leaf = there.1; reusable = there.2.reusable.0 is }

    -- the names on the path of the present leaf are those on this one
    distinct_names : (other : TreePlace) → IsPresentLeaf case earlier other → AreDistinct path → HasDistinctNames other.path
    distinct_names other leaf distinct =
        subst HasDistinctNames (there.2.chosen ∙ (laws.one_leaf case earlier there.0 other there.1 leaf).0) (chosen_distinct path distinct)

    pub distinct_path : HasNoNameTwice case earlier → AreDistinct path
    distinct_path names = distinct_chosen path (subst HasDistinctNames (sym there.2.chosen) (names earlier [] there.0 (sym (append-nil earlier)) there.1))

  -- ---- one step

  names_push : (earlier : List Judged) (step : Judged) → HasNoNameTwice case earlier → ((place : TreePlace) → IsPresentLeaf case (earlier ++ step ∷ []) place → HasDistinctNames place.path)
      → HasNoNameTwice case (earlier ++ step ∷ [])
  names_push earlier step names last front back place is leaf =
      elim (cut_last earlier step front back is) [
        | inl whole ↦ last place (subst (λ (steps : List Judged). IsPresentLeaf case steps place) whole leaf)
        | inr before ↦ names front before.rest place before.is leaf
      ]

  abbrev Here : List PathSplit → List Judged → Type 0
  Here path earlier = LeadsTo case earlier (Some path)

  after_split : (path : List PathSplit) (earlier : List Judged) → Here path earlier → (name : ClauseName) (next : Option (List PathSplit)) → MovesTo case path (Split name) next
      → IsLiveAt case (chosen_on path) name → LeadsTo case (with_step earlier case.log (Split name)) next
  after_split path earlier here name next moves live =
      let split : PathSplit = new_split name moves.0 in
      let steps : List Judged = with_step earlier case.log (Split name) in
      let leaf : HasPath case steps (path ++ split ∷ []) =
      laws.path_moves case earlier path (path ++ split ∷ []) (Split name) here.0 (subst (MovesTo case path (Split name)) moves.2 moves) in
      let fresh = new_name case.graph case.log live.times path name here.2 here.3
      (λ number index constraint is. live.latest.solves.picks number index constraint (picked_same case.graph case.log path number index ∙ is)) live.first.violated in
      let distinct : AreDistinct (path ++ split ∷ []) = distinct_push path split (distinct_path path earlier here.0 here.1) fresh in
      subst (LeadsTo case steps) (sym moves.2) (
        leaf,
        names_push earlier (judged_by case.log (Split name)) here.1 (λ other there. distinct_names (path ++ split ∷ []) steps leaf other there distinct),
        range_push case.graph case.log path name moves.0 here.2 (laws.some case.graph case.log name moves.0 moves.1),
        All-push (IsAllowed case.graph case.log) path split here.3 moves.1,
      )

  after_closing : (path : List PathSplit) (earlier : List Judged) → Here path earlier → (step : Step) (next : Option (List PathSplit)) → split_count (step ∷ []) ≡ 0
      → MovesTo case path step next → LeadsTo case (with_step earlier case.log step) next
  after_closing path earlier here step None closes moves =
      let steps : List Judged = with_step earlier case.log step in
      let refutation : IsRefutation case steps = laws.leaf_ends case earlier path step here.0 moves in (
        refutation,
        names_push earlier (judged_by case.log step) here.1 (λ other there. absurd (laws.finished case steps refutation there.partial)),
      )
  after_closing path earlier here step (Some after) closes moves =
      let steps : List Judged = with_step earlier case.log step in
      let moved : Moved path after = moved_by case path after step closes moves in
      let leaf : HasPath case steps after = laws.path_moves case earlier path after step here.0 moves in
      let distinct : AreDistinct after = distinct_after path after moved (distinct_path path earlier here.0 here.1) in (
        leaf,
        names_push earlier (judged_by case.log step) here.1 (λ other there. distinct_names after steps leaf other there distinct),
        range_after path after here.2 moved,
        all_after (IsAllowed case.graph case.log) (λ split cited allowed. allowed) (λ split more allowed. allowed) path after moved here.3,
      )

  pub after_step : (path : List PathSplit) (earlier : List Judged) → Here path earlier → (step : Step) (next : Option (List PathSplit)) → MovesTo case path step next → IsSearchStepAt case path step
      → LeadsTo case (with_step earlier case.log step) next
  after_step path earlier here (Split name) next moves is = after_split path earlier here name next moves is.0
  after_step path earlier here (Cycle reasons) next moves is = after_closing path earlier here (Cycle reasons) next refl moves
  after_step path earlier here Again next moves is = after_closing path earlier here Again next refl moves

  -- ---- all steps

  one_more : (earlier : List Judged) (step : Step) (steps : List Step) → with_steps (with_step earlier case.log step) case.log steps ≡ with_steps earlier case.log (step ∷ steps)
  one_more earlier step steps = append_assoc earlier (judged_by case.log step ∷ []) (map (judged_by case.log) steps)

  names_in : (steps : List Judged) (end : Option (List PathSplit)) → LeadsTo case steps end → HasNoNameTwice case steps
  names_in steps None leads = leads.1
  names_in steps (Some path) leads = leads.1

  -- each of the steps is one that a search makes after the ones before it
  abbrev Each : List Judged → List Step → Type 0
  Each earlier added = (front : List Step) (step : Step) (back : List Step) → added ≡ front ++ step ∷ back → IsSearchStep case (with_steps earlier case.log front) step

  pub record Lifted (earlier : List Judged) (steps : List Step) (end : Option (List PathSplit)) : Type 0 where
    pub each : Each earlier steps
    pub leads : LeadsTo case (with_steps earlier case.log steps) end

  none_at_all : (earlier : List Judged) → Each earlier []
  none_at_all earlier [] step back is = cc
  none_at_all earlier (first ∷ front) step back is = cc

  none_more : (earlier : List Judged) (end other : Option (List PathSplit)) → LeadsTo case earlier end → end ≡ other → Lifted earlier [] other
  none_more earlier end other leads same = record {
    each = none_at_all earlier;
    leads = subst (λ (steps : List Judged). LeadsTo case steps other) (sym (append-nil earlier)) (subst (LeadsTo case earlier) same leads);
  }

  each_more : (earlier : List Judged) (step : Step) (steps : List Step) → IsSearchStep case earlier step → Each (with_step earlier case.log step) steps → Each earlier (step ∷ steps)
  each_more earlier step steps right each [] other back is =
      let same : step ≡ other = cc in
      subst (λ (before : List Judged). IsSearchStep case before other) (sym (append-nil earlier)) (subst (IsSearchStep case earlier) same right)
  each_more earlier step steps right each (first ∷ front) other back is =
      let same : step ≡ first = cc in
      let others : steps ≡ front ++ other ∷ back = cc in
      subst (λ (before : List Judged). IsSearchStep case before other)
      (one_more earlier step front ∙ ap (λ (s : Step). with_steps earlier case.log (s ∷ front)) same)
      (each front other back others)

  lifted_more : (earlier : List Judged) (step : Step) (steps : List Step) (end : Option (List PathSplit)) → IsSearchStep case earlier step
      → Lifted (with_step earlier case.log step) steps end → Lifted earlier (step ∷ steps) end
  lifted_more earlier step steps end right others = record {
    each = each_more earlier step steps right others.each;
    leads = subst (λ (all : List Judged). LeadsTo case all end) (one_more earlier step steps) others.leads;
  }

  lift_from : (steps : List Step) (earlier : List Judged) (start end : Option (List PathSplit)) → LeadsTo case earlier start → Leads case start steps end → Lifted earlier steps end
  lift_from [] earlier start end here leads = none_more earlier start end here leads
  lift_from (step ∷ steps) earlier None end here leads = absurd leads
  lift_from (step ∷ steps) earlier (Some path) end here leads =
      lifted_more earlier step steps end (right_here path earlier here.0 step leads.2)
      (lift_from steps (with_step earlier case.log step) leads.0 end (after_step path earlier here step leads.0 leads.1 leads.2) leads.3)

  pub lift : (path : List PathSplit) (earlier : List Judged) (steps : List Step) (end : Option (List PathSplit)) → LeadsTo case earlier (Some path) → Leads case (Some path) steps end
      → AreSearchSteps case earlier steps × LeadsTo case (with_steps earlier case.log steps) end
  lift path earlier steps end here leads =
      let all = lift_from steps earlier (Some path) end here leads in
      (record { each = all.each; names = names_in (with_steps earlier case.log steps) end all.leads }, all.leads)
