-- A copy of a search represents the steps that the search does.
use Rattle.std.proofs.Common.{◌≡◌, ℕ, sym, subst}
use Rattle.tfpg_graph.specs.Graph.{Tfpg}
use Rattle.tfpg_log.specs.Log.{Logbook}
use Rattle.tfpg_search.specs.SearchState.{SearchState}
use Rattle.tfpg_search.specs.Represents.{RepresentsSome}

-- which system a search has does not matter to what it represents
other_system : (graph : Tfpg) (log : Logbook) (search : SearchState) (identity : ℕ) → RepresentsSome graph log search
    → RepresentsSome graph log (record search { leaf = record search.leaf { identity = identity } })
other_system graph log search identity (steps, is) = (
  steps,
  record {
    seen = is.seen;
    leaf = is.leaf;
    names = is.names;
    horizons = is.horizons;
    system = record {
      reach_is = is.system.reach_is;
      variables = is.system.variables;
      allowed = is.system.allowed;
      range = is.system.range;
      stated = is.system.stated;
      picks = record {
        few = is.system.picks.few;
        many = is.system.picks.many;
        counts = is.system.picks.counts;
        reasons = is.system.picks.reasons;
      };
    };
    all_entered = is.all_entered;
    bounds = is.bounds;
  },
)

-- A copy, which has another system, represents some steps where the search does.
pub copy_represents : (graph : Tfpg) (log : Logbook) (search copy : SearchState) → copy ≡ record search { leaf = record search.leaf { identity = copy.leaf.identity } }
    → RepresentsSome graph log search → RepresentsSome graph log copy
copy_represents graph log search copy is represents =
    subst (RepresentsSome graph log) (sym is) (other_system graph log search copy.leaf.identity represents)
