-- A simulated set has failure modes of its graph alone.
use Rattle.std.proofs.Common.{◌≡◌, ℕ, ◌<◌, ◌==◌, List, [], ◌∷◌, length, fold, All, Option, Some, None, refl, sym, subst}
use Rattle.std.specs.Prelude.{unwrap_or, option_map}
use Rattle.std.proofs.lemmas.List.Elements.{All-nil}
use Rattle.std.proofs.lemmas.List.Quantifiers.{position-Some}
use Rattle.tfpg_base.specs.Set.{with_member}
use Rattle.tfpg_base.proofs.lemmas.Sets.{All-with_member}
use Rattle.tfpg_graph.specs.Graph.{Tfpg, failures, position_of_failure}
use Rattle.tfpg_sim.specs.declared.entry.Entry.{Entry}
use Rattle.tfpg_sim.specs.declared.entry.Entry.TheVariants.{Start, Mode, Sweep, Tick, Stop}
use Rattle.tfpg_sim.specs.declared.simulated.Simulated.{Simulated}
use Rattle.tfpg_sim.specs.Simulated.{IsSimulationOf}
use Rattle.tfpg_sim.specs.SimulatedLog.{with_started}

module _ (graph : Tfpg) where
  abbrev InGraph : ℕ → Type 0
  InGraph index = index < length (failures graph)

  -- a line starts failure modes of the graph
  started_in : (entry : Entry) (set : List ℕ) → All InGraph set → All InGraph (with_started graph set entry)
  started_in (Start time node) set all = by (position_of_failure graph node) refl
    where
      by : (o : Option ℕ) → position_of_failure graph node ≡ o → All InGraph (unwrap_or (option_map (λ index. with_member index set) o) set)
      by None is = all
      by (Some index) is = All-with_member InGraph index set (position-Some (λ failure. failure == node) (failures graph) index 0 is).0 all
  started_in (Mode time mode) set all = all
  started_in (Sweep time) set all = all
  started_in (Tick time) set all = all
  started_in (Stop time) set all = all

  all_started_in : (entries : List Entry) (set : List ℕ) → All InGraph set → All InGraph (fold (with_started graph) set entries)
  all_started_in [] set all = all
  all_started_in (entry ∷ entries) set all = all_started_in entries (with_started graph set entry) (started_in entry set all)

  -- the members of a simulated set are failure modes of the graph
  pub simulated_members : (script : List ℕ) (number : ℕ) (simulated : Simulated) → IsSimulationOf graph script number simulated
      → All (λ index. index < length (failures graph)) simulated.set
  simulated_members script number simulated is = subst (All InGraph) (sym is.set) (all_started_in is.entries [] (All-nil InGraph))
