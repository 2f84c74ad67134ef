-- What a set explains, a larger one does too: its members are members of the larger one.
use Rattle.std.proofs.Common.{ℕ, List}
use Rattle.std.specs.Prelude.{IsTrue, Contains}
use Rattle.std.proofs.lemmas.List.Elements.{All-contains, All-weaker}
use Rattle.tfpg_base.specs.declared.activation.Activation.{Activation}
use Rattle.tfpg_base.specs.Set.{IsSubset}
use Rattle.tfpg_graph.specs.Graph.{Tfpg, is_kind_at, is_failure}
use Rattle.tfpg_log.specs.Log.{Logbook}
use Rattle.tfpg_log.specs.Explains.{IsMember, Explains, Fits}

module _ (graph : Tfpg) (log : Logbook) (set larger : List ℕ) where
  -- A trace that explains the log from a set explains it from a larger one.
  pub larger_explains : (trace : List Activation) → IsSubset set larger → Explains graph log set trace → Explains graph log larger trace
  larger_explains trace subset explains = record {
    trace_of = explains.trace_of;
    by_now = explains.by_now;
    from_set =
        All-weaker (λ (activation : Activation). IsTrue (is_kind_at is_failure graph activation.node) → IsMember graph set activation.node)
        (λ (activation : Activation). IsTrue (is_kind_at is_failure graph activation.node) → IsMember graph larger activation.node)
        (λ activation own failure. let member = own failure in
        (member.0, All-contains (Contains larger) set member.0 subset member.1, member.2))
        trace explains.from_set;
    rules = explains.rules;
    shows = explains.shows;
  }

  -- So a larger set fits too.
  pub larger_fits : IsSubset set larger → Fits graph log set → Fits graph log larger
  larger_fits subset fits = (fits.0, larger_explains fits.0 subset fits.1)
