-- What a search of a probed log finds, as what is tried with its bound.
use Rattle.std.proofs.Common.{◌≡◌, ℕ, ◌≤◌, List, [], ◌++◌, Ok, refl, sym, ap, ◌∙◌, subst, append-nil}
use Rattle.std.specs.Prelude.{Result}
use Rattle.tfpg_base.specs.declared.no_memory.NoMemory.{NoMemory}
use Rattle.tfpg_graph.specs.Graph.{Tfpg}
use Rattle.tfpg_graph.specs.Reach.{IsReach}
use Rattle.tfpg_graph.specs.Valid.{IsValid}
use Rattle.tfpg_log.specs.Explains.{Explains}
use Rattle.tfpg_log.specs.Log.{Logbook, IsOrdered, first_events}
use Rattle.tfpg_evidence.specs.declared.step.Step.{Step}
use Rattle.tfpg_clause.specs.Case.{case_of}
use Rattle.tfpg_clause.specs.Paths.{with_steps}
use Rattle.tfpg_clause.specs.Trees.{IsRefutation, split_count}
use Rattle.tfpg_clause.proofs.lemmas.traces.NoTrace.{no_trace}
use Rattle.tfpg_search.specs.declared.found.Found.{Found}
use Rattle.tfpg_search.specs.declared.found.Found.TheVariants.{Shown, Closed, Spent}
use Rattle.tfpg_search.specs.Enough.{IsEnough}
use Rattle.tfpg_search.specs.Represents.{SearchRepresents, RepresentsSome}
use Rattle.tfpg_search.specs.Searched.{IsSearched, AreSearchSteps, Finds, call_of}
use Rattle.tfpg_search.specs.SearchState.{SearchState}
use Rattle.tfpg_predict.specs.LeastTime.{Lookahead}
use Rattle.tfpg_predict.specs.Probed.{IsProbed, IsProbeable}
use Rattle.tfpg_predict.specs.Outlooks.{IsProbeCase}
use Rattle.tfpg_predict.specs.inside.Tried.{IsOutBy, IsFoundAs}
use Rattle.tfpg_predict.proofs.lemmas.AsProbed.{fits, not_by, of_probed}

-- a new search represents no steps
pub represents_none : (graph : Tfpg) (log : Logbook) (search : SearchState) → search.seen ≡ 0
    → ((before : Logbook) → SearchRepresents graph (first_events before 0) search []) → RepresentsSome graph log search
represents_none graph log search seen represents =
    ([], subst (λ (n : ℕ). SearchRepresents graph (first_events log n) search []) (sym seen) (represents log))

module _ (asked : Lookahead) (bound : ℕ) (valid : IsValid asked.graph) (able : IsProbeable asked) (ordered : IsOrdered asked.log) (upto : bound ≤ asked.to)
    (graph : Tfpg) (log : Logbook) (is : IsProbed asked bound graph log) (graph_valid : IsValid graph) (log_ordered : IsOrdered log)
    (set reach : List ℕ) (is_reach : IsReach graph set reach) where
  probe_case : IsProbeCase asked set bound (case_of graph log reach)
  probe_case = record { probed = is; reach = is_reach }

  out : (budget : ℕ) (steps : List Step) → split_count steps ≤ budget → AreSearchSteps (case_of graph log reach) [] steps → IsRefutation (case_of graph log reach) (with_steps [] log steps) → IsOutBy asked set bound budget steps
  out budget steps within right refutation = record {
    none = not_by asked bound valid able ordered upto graph log is set
        (no_trace graph log log set reach (with_steps [] log steps) graph_valid (of_probed asked bound valid able ordered upto graph log is) log_ordered is_reach
        (record { more = []; events = sym (append-nil log.events); ignored = refl }) refutation);
    refuted = record { case = case_of graph log reach; probe = probe_case; right = right; refutation = refutation; within = within };
  }

  module _ (budget : ℕ) (steps : List Step) (within : split_count steps ≤ budget) (right : AreSearchSteps (case_of graph log reach) [] steps) where
    found_as : (search : SearchState) (found : Found) → search.set ≡ set
        → (IsEnough graph log budget → ◌≡◌ {A = Result Found NoMemory} (Ok found) (Ok Spent) → ⊥)
        → Finds (case_of graph log reach) budget steps (with_steps [] log steps) search found → IsFoundAs asked set budget bound steps found
    found_as search (Shown trace) same enough finds =
        fits asked bound valid able ordered upto graph log is set trace (subst (λ (s : List ℕ). Explains graph log s trace) same finds.0)
    found_as search Closed same enough finds = out budget steps within right finds
    found_as search Spent same enough finds = record {
      case = case_of graph log reach;
      probe = probe_case;
      right = right;
      spent = finds.0;
      unsettled = finds.1;
      none_reusable = finds.3;
      not_enough = λ is_enough. enough is_enough refl;
    }

  module _ (budget : ℕ) (old new : SearchState) (before after : List Step) (none : before ≡ []) (seen : old.seen ≡ 0) (old_reach : old.reach ≡ reach)
      (new_reach : new.reach ≡ reach) (new_set : new.set ≡ set) (represents : (past : Logbook) → SearchRepresents graph (first_events past 0) old []) where
    -- What a first round of a search finds is what is tried with the bound.
    pub tried_by : (found : Found) → (IsEnough graph log budget → ◌≡◌ {A = Result Found NoMemory} (Ok found) (Ok Spent) → ⊥)
        → IsSearched graph log budget (call_of old new before after) (Ok found) → IsFoundAs asked set budget bound after found
    tried_by found enough searched =
        let added_is : after ≡ searched.added = searched.appended ∙ ap (λ (steps : List Step). steps ++ searched.added) none in
        let begun : SearchRepresents graph (first_events log old.seen) old [] = subst (λ (n : ℕ). SearchRepresents graph (first_events log n) old []) (sym seen) (represents log) in
        let right : AreSearchSteps (case_of graph log reach) [] searched.added =
        subst (λ (r : List ℕ). AreSearchSteps (case_of graph log r) [] searched.added) old_reach (searched.right [] begun) in
        let finds : Finds (case_of graph log reach) budget searched.added (with_steps [] log searched.added) new found =
        subst (λ (r : List ℕ). Finds (case_of graph log r) budget searched.added (with_steps [] log searched.added) new found) new_reach (searched.found [] begun) in
        subst (λ (steps : List Step). IsFoundAs asked set budget bound steps found) (sym added_is) (found_as budget searched.added searched.within right new found new_set enough finds)
