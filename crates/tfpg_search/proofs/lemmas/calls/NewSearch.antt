-- A new search represents no steps, and steps keep their names apart at a log that goes on.
use Rattle.std.proofs.Common.{◌≡◌, ℕ, ◌<◌, List, [], ◌∷◌, ◌++◌, length, Bool, Some, refl, sym, ap, subst, arith}
use Rattle.std.specs.Prelude.{pos}
use Rattle.std.specs.Bool.{then_some}
use Rattle.std.proofs.lemmas.List.Elements.{All-nil}
use Rattle.std.proofs.lemmas.Bool.{lt-ltb}
use Rattle.tfpg_base.specs.declared.limits.TheConstants.{NEVER}
use Rattle.tfpg_graph.specs.Graph.{Tfpg}
use Rattle.tfpg_graph.specs.Reach.{IsReach}
use Rattle.tfpg_log.specs.Log.{Logbook, GoesOn, IsOrdered, first_events}
use Rattle.tfpg_evidence.specs.declared.reason.Reason.TheVariants.{Zero, Top}
use Rattle.tfpg_base.specs.Bounds.{at_most, at_least}
use Rattle.tfpg_clause.specs.Facts.{fact}
use Rattle.tfpg_clause.specs.Trees.{Judged, TreePlace, IsPartial, IsPresentLeaf}
use Rattle.tfpg_clause.specs.inside.MarkedTrees.{stated_on}
use Rattle.tfpg_clause.specs.Laws.{FrontsOfPartialTreesArePartial, PartialTreesHaveAPresentLeaf, PresentLeavesAreAlone, PresentLeavesStay}
use Rattle.tfpg_clause.specs.declared.path.PathSplit.{PathSplit}
use Rattle.tfpg_clause.specs.Order.{horizon_of}
use Rattle.tfpg_search.specs.Enough.{IsEventTime}
use Rattle.tfpg_search.specs.inside.Leaf.{bounds_in, pick_reasons, IsStated}
use Rattle.tfpg_search.specs.Work.{widest_bounds}
use Rattle.tfpg_search.specs.Live.{HasDistinctNames, HasNoNameTwice}
use Rattle.tfpg_search.specs.inside.Picks.{IsAllowed, IsInRange}
use Rattle.tfpg_search.specs.SearchState.{SearchState}
use Rattle.tfpg_search.specs.Represents.{SearchRepresents}
use Rattle.tfpg_search.specs.inside.ClauseLaws.{ClauseLaws}
use Rattle.tfpg_search.proofs.lemmas.leaves.AtItsLeaf.{restated, fact_stated}
use Rattle.tfpg_clause.specs.Case.{Case, case_of, at_log}
use Rattle.tfpg_clause.proofs.lemmas.trees.PresentLeaf.{leaf_of_none}

-- Without a step no name stands twice, since the one present leaf is the root.
pub none_twice : (case : Case) → HasNoNameTwice case []
none_twice case [] back place is leaf =
    subst HasDistinctNames (ap (λ (p : TreePlace). p.path) (sym (leaf_of_none case place leaf))) (λ i j d before inside. absurd (omega (arith, inside)))
none_twice case (first ∷ front) back place is leaf = cc

module _ (leaf_there : PartialTreesHaveAPresentLeaf) (one_leaf : PresentLeavesAreAlone) (leaf_stays : PresentLeavesStay)
    (case : Case) (later : Logbook) (ordered : IsOrdered later) (goes_on : GoesOn case.log later) (steps : List Judged) where
  -- No name stands twice at a log that goes on, where each front that has a present leaf there was a partial tree before.
  pub names_stay : ((front back : List Judged) (place : TreePlace) → steps ≡ front ++ back → IsPresentLeaf (at_log case later) front place → IsPartial case front)
      → HasNoNameTwice case steps → HasNoNameTwice (at_log case later) steps
  names_stay fronts names front back place is leaf =
      let there = leaf_there case front (fronts front back place is leaf) in
      let alike = one_leaf (at_log case later) front there.0 place (leaf_stays case later front there.0 ordered goes_on there.1) leaf in
      subst HasDistinctNames alike.0 (names front back there.0 is there.1)

  -- So it is for the steps of a partial tree, whose fronts are partial trees.
  pub names_of_partial : FrontsOfPartialTreesArePartial → IsPartial case steps → HasNoNameTwice case steps → HasNoNameTwice (at_log case later) steps
  names_of_partial partial_front partial = names_stay (λ front back place is leaf. partial_front case front back (subst (IsPartial case) is partial))

module _ (graph : Tfpg) (reach : List ℕ) where
  pub zero_is : (log : Logbook) (node : ℕ) → node < length graph.nodes → fact (case_of graph log reach) (Zero node) ≡ Some (at_least node 0)
  zero_is log node less = ap (λ (b : Bool). then_some b (at_least node 0)) (lt-ltb node (length graph.nodes) less)

  pub top_is : (log : Logbook) (node : ℕ) → node < length graph.nodes → fact (case_of graph log reach) (Top node) ≡ Some (at_most node (pos NEVER))
  top_is log node less = ap (λ (b : Bool). then_some b (at_most node (pos NEVER))) (lt-ltb node (length graph.nodes) less)

  pub new_represents : (log : Logbook) → ClauseLaws → (search : SearchState) → search.reach ≡ reach → IsReach graph search.set reach → search.seen ≡ 0 → search.path ≡ [] → search.entered ≡ []
      → length search.leaf.demands.bounds ≡ length graph.nodes → pick_reasons search.leaf ≡ [] → IsStated (fact (case_of graph (first_events log 0) reach)) (fact (case_of graph (first_events log 0) reach)) search.leaf
      → bounds_in search.leaf ≡ widest_bounds (length graph.nodes) → SearchRepresents graph (first_events log 0) search []
  new_represents log laws search reach_is is_reach seen path entered variables picks is_stated widest =
      let same : search ≡ record search { reach = reach; seen = 0; path = []; entered = [] } = λ i. record search { reach = reach_is i; seen = seen i; path = path i; entered = entered i } in
      subst (λ (s : SearchState). SearchRepresents graph (first_events log 0) s []) (sym same)
      (record {
        seen = refl;
        leaf = laws.path_begins (case_of graph (first_events log 0) reach);
        names = none_twice (case_of graph (first_events log 0) reach);
        horizons = All-nil (λ (split : PathSplit). IsEventTime (first_events log 0) (horizon_of split.name));
        system = record {
          reach_is = is_reach;
          variables = variables;
          allowed = All-nil (IsAllowed graph (first_events log 0));
          range = All-nil IsInRange;
          stated =
              restated (fact (case_of graph (first_events log 0) reach)) (fact (case_of graph (first_events log 0) reach)) (stated_on (case_of graph (first_events log 0) reach) []) search.leaf is_stated
              (λ r c states. fact_stated graph (first_events log 0) reach [] r c states)
              (λ index r c there states. fact_stated graph (first_events log 0) reach [] r c states);
          picks = record { few = omega arith; many = omega arith; counts = λ split before there. cc; reasons = picks };
        };
        all_entered = refl;
        bounds = record { unseen = λ none. widest; given = λ some. absurd (omega (arith, some)) };
      })
