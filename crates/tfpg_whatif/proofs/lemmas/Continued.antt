-- What a copy of the engine's search shows at a log that goes on.
use Rattle.std.proofs.Common.{◌≡◌, ℕ, List, refl, sym, ap, subst, ◌∙◌}
use Rattle.std.specs.Prelude.{Ok, IfSome}
use Rattle.tfpg_base.specs.Hypothesis.{Hypothesis}
use Rattle.tfpg_base.specs.declared.activation.Activation.{Activation}
use Rattle.tfpg_graph.specs.Graph.{Tfpg}
use Rattle.tfpg_log.specs.Explains.{Explains}
use Rattle.tfpg_log.specs.Log.{Logbook, ignoring}
use Rattle.tfpg_evidence.specs.declared.step.Step.{Step}
use Rattle.tfpg_clause.specs.Case.{case_of}
use Rattle.tfpg_search.specs.declared.found.Found.{Found}
use Rattle.tfpg_search.specs.declared.found.Found.TheVariants.{Shown, Closed, Spent}
use Rattle.tfpg_search.specs.SearchState.{SearchState}
use Rattle.tfpg_search.specs.Represents.{RepresentsSome}
use Rattle.tfpg_search.specs.Searched.{IsSearched, call_of}
use Rattle.tfpg_search.proofs.lemmas.calls.CopyRepresents.{copy_represents}
use Rattle.tfpg_engine.specs.EngineState.{EngineState, IsLentSearch}
use Rattle.tfpg_whatif.specs.inside.Asking.{CanContinue, HasEventsOf, IsShown, trace_found}
use Rattle.tfpg_whatif.specs.declared.outcome.Outcome.TheVariants.{Fits}

-- A search that the engine lends can continue at what the hypothesis sees of a log of more events.
pub can_continue : (engine : EngineState) (lent : Tfpg) (hypothesis : Hypothesis) (search : SearchState) (log own : Logbook) → lent ≡ engine.graph → HasEventsOf engine.log log → own ≡ ignoring log hypothesis.doubts
    → IsLentSearch engine hypothesis search → CanContinue lent own hypothesis.set search
can_continue engine lent hypothesis search log own same goes_on is kept = record {
  set_is = kept.set_is;
  represents =
      let later : Logbook = record { events = log.events; ignored = engine.log.ignored } in
      subst (λ (g : Tfpg). RepresentsSome g own search) (sym same)
      (subst (λ (l : Logbook). RepresentsSome engine.graph l search) (sym is)
      (kept.represents later (record { more = goes_on.0; events = goes_on.1; ignored = refl })));
}

-- What a copy that can continue has found is a trace from the set, where it is one.
pub continues : (graph : Tfpg) (log : Logbook) (set : List ℕ) (budget : ℕ) (kept copy after : SearchState) (before steps : List Step) (found : Found) → CanContinue graph log set kept → copy ≡ record kept { leaf = record kept.leaf { identity = copy.leaf.identity } } → after.set ≡ copy.set
    → IsSearched graph log budget (call_of copy after before steps) (Ok found) → IfSome (trace_found found) (λ trace. Explains graph log set trace)
continues graph log set budget kept copy after before steps (Shown trace) can is same searched =
    let own = copy_represents graph log kept copy is can.represents in
    subst (λ (members : List ℕ). Explains graph log members trace) (same ∙ ap (λ (s : SearchState). s.set) is ∙ can.set_is) (searched.found own.0 own.1).0
continues graph log set budget kept copy after before steps Closed can is same searched = tt
continues graph log set budget kept copy after before steps Spent can is same searched = tt

-- A trace from the set is an outcome.
pub is_fit : (graph : Tfpg) (log : Logbook) (reach set : List ℕ) (budget : ℕ) (trace : List Activation) → Explains graph log set trace → IsShown (case_of graph log reach) set budget (Fits trace)
is_fit graph log reach set budget trace explains = record { evidence = explains; known = λ enough. refl }
