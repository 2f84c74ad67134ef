-- What a call of a search comes to, for all steps that it represented before.
use Rattle.std.proofs.Common.{◌≡◌, ◌⊎◌, inl, inr, ℕ, ◌≤◌, List, [], ◌∷◌, length, Option, Some, None, refl, sym, ap, subst, ◌∙◌, arith}
use Rattle.std.specs.Prelude.{All, Result, Ok, Err, map, option_map}
use Rattle.std.proofs.lemmas.List.Elements.{All-nil, All-cons, All-head, All-tail}
use Rattle.tfpg_base.specs.declared.constraint.Constraint.{Constraint}
use Rattle.tfpg_base.specs.declared.no_memory.NoMemory.{NoMemory}
use Rattle.tfpg_graph.specs.Graph.{Tfpg}
use Rattle.tfpg_log.specs.Log.{Logbook, IsOrdered, first_events}
use Rattle.tfpg_evidence.specs.declared.step.Step.{Step}
use Rattle.tfpg_clause.specs.Trees.{Judged, IsPartial, IsRefutation, split_count}
use Rattle.tfpg_clause.specs.Clauses.{alternatives}
use Rattle.tfpg_clause.specs.Order.{horizon_of}
use Rattle.tfpg_clause.specs.declared.path.PathSplit.{PathSplit}
use Rattle.tfpg_search.specs.declared.found.Found.{Found}
use Rattle.tfpg_search.specs.declared.found.Found.TheVariants.{Shown, Closed, Spent}
use Rattle.tfpg_search.specs.SearchState.{SearchState, case_of_search}
use Rattle.tfpg_search.specs.Represents.{SearchRepresents, RepresentsSome}
use Rattle.tfpg_search.specs.inside.AtItsLeaf.{IsAtItsLeaf}
use Rattle.tfpg_clause.specs.Paths.{with_steps}
use Rattle.tfpg_search.specs.Searched.{AreSearchSteps, FindsOrNot, IsSearched, call_of}
use Rattle.tfpg_search.specs.inside.ClauseLaws.{ClauseLaws}
use Rattle.tfpg_search.specs.inside.Moves.{Leads, LeadsTo, IsLoaded, FoundAtLeaf, SearchesOn}
use Rattle.tfpg_search.proofs.lemmas.calls.NewSearch.{names_of_partial}
use Rattle.tfpg_search.proofs.lemmas.steps.RightSteps.{live_here, none_allowed, lift}
use Rattle.tfpg_search.proofs.lemmas.leaves.StaysAtItsLeaf.{carried, all_allowed}
use Rattle.tfpg_search.specs.Enough.{IsEventTime, IsNameAt, IsEnough}
use Rattle.tfpg_search.specs.inside.Picks.{IsAllowed}
use Rattle.tfpg_search.proofs.lemmas.steps.DistinctNames.{split_name}
use Rattle.tfpg_search.proofs.lemmas.budget.EventHorizons.{AtTimes, now_is_a_time, times_stay, times_after}
use Rattle.tfpg_search.proofs.lemmas.budget.NeverSpent.{not_spent}
use Rattle.tfpg_clause.specs.Case.{Case, case_of}

-- ---- a call

-- The search stands at the whole log.
pub seen_stands : ClauseLaws → (graph : Tfpg) (log : Logbook) (old new : SearchState) → IsOrdered log → RepresentsSome graph log old → new ≡ record old { seen = length log.events } → IsAtItsLeaf graph log new
seen_stands laws graph log old new ordered some same =
    subst (IsAtItsLeaf graph log) (sym same) (carried laws graph (first_events log old.seen) log ordered (laws.first log old.seen) old (length log.events) some.1.system)

module _ (laws : ClauseLaws) (graph : Tfpg) (log : Logbook) (budget : ℕ) (new : SearchState) (seen : new.seen ≡ length log.events) (some : 1 ≤ length log.events) where
  abbrev case : Case
  case = case_of_search graph log new

  represents : (steps : List Judged) → LeadsTo case steps (Some new.path) → AtTimes log new.path → IsAtItsLeaf graph log new → IsLoaded graph log new → SearchRepresents graph log new steps
  represents steps leads times stands loaded = record {
    seen = seen;
    leaf = leads.0;
    names = leads.1;
    horizons = times;
    system = stands;
    all_entered = loaded.all_entered;
    bounds = record { unseen = λ none. absurd (omega arith); given = λ _. loaded.bounds };
  }

  right_steps : (steps : List Judged) (end : Option (List PathSplit)) → LeadsTo case steps end → IsPartial case steps ⊎ IsRefutation case steps
  right_steps steps None leads = inr leads.0
  right_steps steps (Some path) leads = inl leads.0.partial

  finds : (added : List Step) (steps : List Judged) (splits : ℕ) (end : Option (List PathSplit)) (result : Result Found NoMemory) → split_count added ≡ splits → LeadsTo case steps end
      → (end ≡ Some new.path → AtTimes log new.path) → FoundAtLeaf case budget new splits end result → FindsOrNot case budget added steps new result
  finds added steps splits end (Ok (Shown trace)) count leads times ends =
      let here : LeadsTo case steps (Some new.path) = subst (LeadsTo case steps) ends.3 leads in (
        ends.0,
        represents steps here (times ends.3) ends.1 ends.2,
        none_allowed laws case new.path steps here.0 ends.4,
      )
  finds added steps splits end (Ok Closed) count leads times ends = (subst (LeadsTo case steps) ends leads).0
  finds added steps splits end (Ok Spent) count leads times ends =
      let here : LeadsTo case steps (Some new.path) = subst (LeadsTo case steps) ends.4 leads in (
        count ∙ ends.0,
        (ends.1.0, live_here laws case new.path steps here.0 ends.1.0 ends.1.1),
        represents steps here (times ends.4) ends.2 ends.3,
        none_allowed laws case new.path steps here.0 ends.5,
      )
  finds added steps splits end (Err no_memory) count leads times ends = right_steps steps end leads

module _ (laws : ClauseLaws) (graph : Tfpg) (log : Logbook) (budget : ℕ) (old middle new : SearchState) (before after : List Step) (result : Result Found NoMemory) (ordered : IsOrdered log) (some : 1 ≤ length log.events)
    (middle_is : middle ≡ record old { seen = length log.events }) (reach : new.reach ≡ middle.reach) (seen : new.seen ≡ middle.seen)
    (on : SearchesOn graph log budget (call_of middle new before after) result) where
  abbrev old_case : Case
  old_case = case_of_search graph log old

  reach_is : new.reach ≡ old.reach
  reach_is = reach ∙ ap (λ (s : SearchState). s.reach) middle_is

  seen_is : new.seen ≡ length log.events
  seen_is = seen ∙ ap (λ (s : SearchState). s.seen) middle_is

  leads : Leads old_case (Some old.path) on.grows.added on.end
  leads = subst (λ (s : SearchState). Leads (case_of graph log s.reach) (Some s.path) on.grows.added on.end) middle_is on.grows.leads

  module _ (earlier : List Judged) (represented : SearchRepresents graph (first_events log old.seen) old earlier) where
    at_start : LeadsTo old_case earlier (Some old.path)
    at_start = (
      laws.path_stays (case_of_search graph (first_events log old.seen) old) log earlier old.path ordered (laws.first log old.seen) represented.leaf,
      names_of_partial laws.leaf_there laws.one_leaf laws.leaf_stays (case_of_search graph (first_events log old.seen) old) log ordered (laws.first log old.seen) earlier
          laws.partial_front represented.leaf.partial represented.names,
      represented.system.range,
      all_allowed laws graph (first_events log old.seen) log ordered (laws.first log old.seen) old.path represented.system.allowed,
    )

    times_at_start : AtTimes log old.path
    times_at_start = times_stay log old.seen old.path represented.horizons

    lifted : AreSearchSteps old_case earlier on.grows.added × LeadsTo old_case (with_steps earlier log on.grows.added) on.end
    lifted = lift laws old_case old.path earlier on.grows.added on.end at_start leads

    times_at_end : on.end ≡ Some new.path → AtTimes log new.path
    times_at_end is = times_after old_case (now_is_a_time log some) old.path new.path on.grows.added on.end times_at_start leads is

  pub searched : IsSearched graph log budget (call_of old new before after) result
  searched = record {
    added = on.grows.added;
    appended = on.grows.appended;
    within = subst (λ (n : ℕ). n ≤ budget) (sym on.grows.count) on.within;
    right = λ earlier represents. (lifted earlier represents).0;
    found = λ earlier represents.
        finds laws graph log budget new seen_is some on.grows.added (with_steps earlier log on.grows.added) on.splits on.end result on.grows.count
        (subst (λ (r : List ℕ). LeadsTo (case_of graph log r) (with_steps earlier log on.grows.added) on.end) (sym reach_is) (lifted earlier represents).1)
        (times_at_end earlier represents) on.ends;
  }

  -- ---- a budget that is enough

  named : (taken : PathSplit) (clause : Option (List (List Constraint))) → alternatives graph log taken.name ≡ clause → option_map length clause ≡ Some taken.alternatives
      → IsEventTime log (horizon_of taken.name) → IsNameAt graph log taken.name
  named taken None is counted time = cc
  named taken (Some clause) is counted time = record { clause = clause; allowed = is; horizon = time }

  all_named : (path : List PathSplit) → All (IsAllowed graph log) path → AtTimes log path → All (IsNameAt graph log) (map split_name path)
  all_named [] allowed times = All-nil (IsNameAt graph log)
  all_named (taken ∷ path) allowed times =
      All-cons (IsNameAt graph log) taken.name (map split_name path)
      (named taken (alternatives graph log taken.name) refl (All-head (IsAllowed graph log) taken path allowed) (All-head (λ (f : PathSplit). IsEventTime log (horizon_of f.name)) taken path times))
      (all_named path (All-tail (IsAllowed graph log) taken path allowed) (All-tail (λ (f : PathSplit). IsEventTime log (horizon_of f.name)) taken path times))

  pub never_spent : RepresentsSome graph log old → IsEnough graph log budget → result ≡ Ok Spent → ⊥
  never_spent represented enough spent =
      let here = at_start represented.0 represented.1 in
      let ends : FoundAtLeaf (case_of_search graph log new) budget new on.splits on.end (Ok Spent) = subst (FoundAtLeaf (case_of_search graph log new) budget new on.splits on.end) spent on.ends in
      let led : Leads old_case (Some old.path) on.grows.added (Some new.path) = subst (Leads old_case (Some old.path) on.grows.added) ends.4 leads in
      not_spent laws old_case (now_is_a_time log some) budget enough old.path represented.0 here
      (all_named old.path here.3 (times_at_start represented.0 represented.1))
      on.grows.added new.path led (on.grows.count ∙ ends.0)
