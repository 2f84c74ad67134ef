-- Times between the bounds of a loaded leaf meet each fact, wherever they come from.
use Rattle.std.proofs.Common.{◌≡◌, ℕ, ◌<◌, ◌≤◌, List, [], length, get_or, Some, sym, subst, ◌∙◌, arith}
use Rattle.std.specs.Prelude.{pos}
use Rattle.std.proofs.lemmas.Option.{slice_get_within, slice_get-get_or, same_Some}
use Rattle.tfpg_base.specs.declared.constraint.Constraint.{Constraint}
use Rattle.tfpg_base.specs.declared.limits.TheConstants.{NEVER}
use Rattle.tfpg_base.specs.Constraint.{Meets}
use Rattle.tfpg_base.specs.Bounds.{at_most}
use Rattle.tfpg_base.proofs.lemmas.lists.Elements.{All-from_indexes}
use Rattle.tfpg_graph.specs.Graph.{Tfpg}
use Rattle.tfpg_log.specs.Log.{Logbook, IsLogOf}
use Rattle.tfpg_evidence.specs.declared.reason.Reason.{Reason}
use Rattle.tfpg_evidence.specs.declared.reason.Reason.TheVariants.{Top}
use Rattle.tfpg_clause.specs.Case.{case_of}
use Rattle.tfpg_clause.specs.Cut.{AreNumbers}
use Rattle.tfpg_clause.specs.Facts.{fact}
use Rattle.tfpg_diff.specs.Demands.{demands_of}
use Rattle.tfpg_diff.specs.Solution.{IsSolution}
use Rattle.tfpg_search.specs.SearchState.{SearchState}
use Rattle.tfpg_search.specs.inside.AtItsLeaf.{IsAtItsLeaf}
use Rattle.tfpg_search.specs.inside.ClauseLaws.{ClauseLaws}
use Rattle.tfpg_search.specs.inside.Moves.{IsLoaded}
use Rattle.tfpg_search.proofs.lemmas.calls.NewSearch.{top_is}
use Rattle.tfpg_search.proofs.lemmas.facts.FactsAdded.{facts_met}
use Rattle.tfpg_search.proofs.lemmas.work.BoundsGiven.{given_says}

module _ (laws : ClauseLaws) (graph : Tfpg) (log : Logbook) (of : IsLogOf graph log) (search : SearchState) (at : IsAtItsLeaf graph log search) (loaded : IsLoaded graph log search)
    (times : List ℕ) (between : IsSolution (demands_of search.leaf.demands.bounds []) times) where
  -- they meet each fact
  pub facts_met_between : (reason : Reason) (constraint : Constraint) → fact (case_of graph log search.reach) reason ≡ Some constraint → Meets times constraint
  facts_met_between reason constraint is =
      facts_met graph log of laws search.reach (demands_of search.leaf.demands.bounds []) at.variables
      (λ node within. let says = given_says (case_of graph log search.reach) search.leaf loaded.bounds node in record { floors = says.floors; ceilings = says.ceilings })
      reason constraint is times between

  -- there is one for each node, in range
  pub numbers_between : AreNumbers graph times
  numbers_between = record {
    one_each = between.complete ∙ at.variables;
    in_range = All-from_indexes (λ (time : ℕ). time ≤ NEVER) times
        (λ node time there.
        let short : node < length times = slice_get_within times node time there in
        let within : node < length graph.nodes = let one = between.complete in let two = at.variables in omega arith in
        let same : get_or times node 0 ≡ time = same_Some (get_or times node 0) time (sym (slice_get-get_or times node 0 short) ∙ there) in
        subst (λ (t : ℕ). t ≤ NEVER) same ((laws.upper times node NEVER).0 (facts_met_between (Top node) (at_most node (pos NEVER)) (top_is graph search.reach log node within))));
  }
