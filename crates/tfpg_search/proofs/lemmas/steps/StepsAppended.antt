-- Steps that are appended lead on.
use Rattle.std.proofs.Common.{◌≡◌, ℕ, ◌+◌, List, [], ◌∷◌, ◌++◌, cond, Option, Some, None, refl, sym, ap, subst, ◌∙◌, append_assoc}
use Rattle.std.proofs.lemmas.List.{append-nil}
use Rattle.std.proofs.lemmas.List.Sums.{sum_by-append}
use Rattle.tfpg_graph.specs.Graph.{Tfpg}
use Rattle.tfpg_log.specs.Log.{Logbook}
use Rattle.tfpg_evidence.specs.declared.step.Step.{Step}
use Rattle.tfpg_clause.specs.Case.{Case, case_of}
use Rattle.tfpg_clause.specs.Trees.{is_split, split_count}
use Rattle.tfpg_clause.specs.Paths.{MovesTo}
use Rattle.tfpg_clause.specs.declared.path.PathSplit.{PathSplit}
use Rattle.tfpg_search.specs.SearchState.{SearchState, case_of_search}
use Rattle.tfpg_search.specs.Searched.{call_of}
use Rattle.tfpg_search.specs.inside.Moves.{IsSearchStepAt, Leads, Grows, KeepsSet}

leads_on : (case : Case) (steps more : List Step) (start middle end : Option (List PathSplit)) → Leads case start steps middle → Leads case middle more end → Leads case start (steps ++ more) end
leads_on case [] more start middle end leads then = subst (λ (s : Option (List PathSplit)). Leads case s more end) (sym leads) then
leads_on case (step ∷ steps) more None middle end leads then = absurd leads
leads_on case (step ∷ steps) more (Some path) middle end leads then = (leads.0, leads.1, leads.2, leads_on case steps more leads.0 middle end leads.3 then)

splits_on : (steps more : List Step) → split_count (steps ++ more) ≡ split_count steps + split_count more
splits_on steps more = sum_by-append (λ (step : Step). cond (is_split step) 1 0) steps more

module _ (graph : Tfpg) (log : Logbook) where
  -- nothing is appended
  pub grows_none : (old new : SearchState) (before : List Step) → Grows graph log (call_of old new before before) 0 (Some old.path)
  grows_none old new before = record { added = []; appended = sym (append-nil before); count = refl; leads = refl }

  -- one call after another, where the second begins with the reach and the path of the first
  pub grows_on : (old between middle new : SearchState) (before during after : List Step) (splits more : ℕ) (end : Option (List PathSplit)) → KeepsSet old middle → middle.path ≡ between.path
      → Grows graph log (call_of old between before during) splits (Some between.path) → Grows graph log (call_of middle new during after) more end
      → Grows graph log (call_of old new before after) (splits + more) end
  grows_on old between middle new before during after splits more end keeps path one other = record {
    added = one.added ++ other.added;
    appended = other.appended ∙ ap (λ (steps : List Step). steps ++ other.added) one.appended ∙ append_assoc before one.added other.added;
    count = splits_on one.added other.added ∙ ap (λ (n : ℕ). n + split_count other.added) one.count ∙ ap (λ (n : ℕ). splits + n) other.count;
    leads =
        leads_on (case_of_search graph log old) one.added other.added (Some old.path) (Some between.path) end one.leads
        (subst (λ (p : List PathSplit). Leads (case_of_search graph log old) (Some p) other.added end) path
        (subst (λ (r : List ℕ). Leads (case_of graph log r) (Some middle.path) other.added end) keeps.reach other.leads));
  }

  -- one step is appended
  pub grows_one : (old new : SearchState) (before after : List Step) (step : Step) (end : Option (List PathSplit)) → after ≡ before ++ step ∷ []
      → MovesTo (case_of_search graph log old) old.path step end → IsSearchStepAt (case_of_search graph log old) old.path step
      → Grows graph log (call_of old new before after) (split_count (step ∷ [])) end
  grows_one old new before after step end appended moves is = record { added = step ∷ []; appended = appended; count = refl; leads = (end, moves, is, refl) }
