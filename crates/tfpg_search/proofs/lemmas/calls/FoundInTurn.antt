-- What calls of a search after another come to.
use Rattle.std.proofs.Common.{◌≡◌, ℕ, ◌+◌, ◌≤◌, List, Option, Some, refl, subst, ◌∙◌, arith}
use Rattle.std.specs.Prelude.{Result}
use Rattle.tfpg_base.specs.declared.no_memory.NoMemory.{NoMemory}
use Rattle.tfpg_graph.specs.Graph.{Tfpg}
use Rattle.tfpg_log.specs.Log.{Logbook}
use Rattle.tfpg_evidence.specs.declared.step.Step.{Step}
use Rattle.tfpg_clause.specs.declared.path.PathSplit.{PathSplit}
use Rattle.tfpg_search.specs.declared.found.Found.{Found}
use Rattle.tfpg_search.specs.SearchState.{SearchState, case_of_search}
use Rattle.tfpg_search.specs.Searched.{call_of}
use Rattle.tfpg_search.specs.inside.Moves.{Grows, KeepsSet, FoundAtLeaf, SearchesOn}
use Rattle.tfpg_search.proofs.lemmas.steps.StepsAppended.{grows_on}

pub keeps_on : (a b c : SearchState) → KeepsSet a b → KeepsSet b c → KeepsSet a c
keeps_on a b c one other = record {
  set = other.set ∙ one.set;
  reach = other.reach ∙ one.reach;
  seen = other.seen ∙ one.seen;
  identity = other.identity ∙ one.identity;
}

module _ (graph : Tfpg) (log : Logbook) where
  -- what was grown, and no split more
  pub grows_still : (old between middle new : SearchState) (before during after : List Step) (splits : ℕ) (end : Option (List PathSplit)) → KeepsSet old middle → middle.path ≡ between.path
      → Grows graph log (call_of old between before during) splits (Some between.path) → Grows graph log (call_of middle new during after) 0 end
      → Grows graph log (call_of old new before after) splits end
  grows_still old between middle new before during after splits end keeps path one other =
      let same : splits + 0 ≡ splits = omega arith in
      subst (λ (n : ℕ). Grows graph log (call_of old new before after) n end) same (grows_on graph log old between middle new before during after splits 0 end keeps path one other)

  -- what is found at the end
  pub found_on : (budget : ℕ) (old middle new : SearchState) (before during after : List Step) (splits : ℕ) (end : Option (List PathSplit)) (result : Result Found NoMemory) → KeepsSet old middle
      → Grows graph log (call_of old middle before during) splits (Some middle.path) → Grows graph log (call_of middle new during after) 0 end → splits ≤ budget
      → FoundAtLeaf (case_of_search graph log new) budget new splits end result → SearchesOn graph log budget (call_of old new before after) result
  found_on budget old middle new before during after splits end result keeps one other within ends = record {
    splits = splits;
    end = end;
    grows = grows_still old middle middle new before during after splits end keeps refl one other;
    within = within;
    ends = ends;
  }
