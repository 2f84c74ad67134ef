-- What a search keeps stays right at a log that goes on.
use Rattle.std.proofs.Common.{◌≡◌, ℕ, ◌+◌, List, [], ◌∷◌, ◌++◌, length, take, Option, Some, None, refl, sym, ap, ◌∙◌}
use Rattle.std.specs.Prelude.{All, slice_get, option_map, option_and_then}
use Rattle.std.specs.Option.{option_map_or}
use Rattle.std.proofs.lemmas.List.Elements.{All-head, All-tail, All-weaker, All-take}
use Rattle.tfpg_base.specs.declared.constraint.Constraint.{Constraint}
use Rattle.tfpg_graph.specs.Graph.{Tfpg}
use Rattle.tfpg_log.specs.Log.{Logbook, GoesOn, IsOrdered}
use Rattle.tfpg_evidence.specs.declared.reason.Reason.{Reason}
use Rattle.tfpg_evidence.specs.declared.reason.Reason.TheVariants.{Zero, Top}
use Rattle.tfpg_clause.specs.Facts.{fact}
use Rattle.tfpg_clause.specs.Clauses.{alternatives}
use Rattle.tfpg_base.specs.Choice.{item_at}
use Rattle.tfpg_clause.specs.declared.path.PathSplit.{PathSplit}
use Rattle.tfpg_diff.specs.declared.why.Why.{Why}
use Rattle.tfpg_diff.specs.declared.why.Why.TheVariants.{Floor, Ceiling, Given}
use Rattle.tfpg_search.specs.inside.Leaf.{Leaf, tagged_by, pick_reasons, IsStated}
use Rattle.tfpg_search.specs.inside.Picks.{IsAllowed, constraint_count, picks_from, picks_of_from}
use Rattle.tfpg_search.specs.SearchState.{SearchState}
use Rattle.tfpg_search.specs.inside.AtItsLeaf.{IsAtItsLeaf}
use Rattle.tfpg_search.specs.inside.ClauseLaws.{ClauseLaws}
use Rattle.tfpg_clause.specs.Paths.{chosen_on}
use Rattle.tfpg_clause.proofs.lemmas.logs.StaysAllowed.{alternatives_stay}
use Rattle.tfpg_clause.proofs.lemmas.trees.Unmarked.{stated_same}
use Rattle.tfpg_search.proofs.lemmas.leaves.AtItsLeaf.{fact_stated}
use Rattle.tfpg_clause.specs.inside.MarkedTrees.{stated_on}
use Rattle.tfpg_clause.specs.Case.{case_of}

module _ (laws : ClauseLaws) (graph : Tfpg) (earlier later : Logbook) (ordered : IsOrdered later) (goes_on : GoesOn earlier later) where
  -- an allowed split names the same alternatives
  same_clause : (taken : PathSplit) → IsAllowed graph earlier taken → alternatives graph later taken.name ≡ alternatives graph earlier taken.name
  same_clause taken allowed = alternatives_stay graph earlier later ordered goes_on taken.name taken.alternatives allowed

  still_allowed : (taken : PathSplit) → IsAllowed graph earlier taken → IsAllowed graph later taken
  still_allowed taken allowed = ap (option_map length) (same_clause taken allowed) ∙ allowed

  pub all_allowed : (path : List PathSplit) → All (IsAllowed graph earlier) path → All (IsAllowed graph later) path
  all_allowed path allowed = All-weaker (IsAllowed graph earlier) (IsAllowed graph later) still_allowed path allowed

  same_count : (taken : PathSplit) → IsAllowed graph earlier taken → constraint_count graph later taken ≡ constraint_count graph earlier taken
  same_count taken allowed =
      ap (λ (o : Option (List (List Constraint))). option_map_or length (option_and_then (λ clause. item_at clause taken.alternative) o) 0) (same_clause taken allowed)

  same_picks : (start : ℕ) (path : List PathSplit) → All (IsAllowed graph earlier) path → picks_of_from graph later start path ≡ picks_of_from graph earlier start path
  same_picks start [] allowed = refl
  same_picks start (taken ∷ deeper) allowed =
      ap (λ (n : ℕ). picks_from start 1 n ++ picks_of_from graph later (start + 1) deeper) (same_count taken (All-head (IsAllowed graph earlier) taken deeper allowed))
      ∙ ap (λ (rs : List Reason). picks_from start 1 (constraint_count graph earlier taken) ++ rs) (same_picks (start + 1) deeper (All-tail (IsAllowed graph earlier) taken deeper allowed))

  module _ (reach : List ℕ) where
    abbrev still : (r : Reason) (c : Constraint) → fact (case_of graph earlier reach) r ≡ Some c → fact (case_of graph later reach) r ≡ Some c
    still r c is = laws.fact_stays (case_of graph earlier reach) later r c ordered goes_on is

    named_stays : (reasons : List Reason) (why : Why) (c : Constraint) → tagged_by (fact (case_of graph earlier reach)) reasons why ≡ Some c → tagged_by (fact (case_of graph later reach)) reasons why ≡ Some c
    named_stays reasons (Floor node) c is = still (Zero node) c is
    named_stays reasons (Ceiling node) c is = still (Top node) c is
    named_stays reasons (Given tag) c is = by (slice_get reasons tag) is
      where
        by : (o : Option Reason) → option_and_then (fact (case_of graph earlier reach)) o ≡ Some c → option_and_then (fact (case_of graph later reach)) o ≡ Some c
        by None none = cc
        by (Some r) some = still r c some

    all_stated : (path : List PathSplit) (leaf : Leaf) → IsStated (fact (case_of graph earlier reach)) (stated_on (case_of graph earlier reach) path) leaf
        → IsStated (fact (case_of graph later reach)) (stated_on (case_of graph later reach) path) leaf
    all_stated path leaf is = record {
      wider = λ r c states. fact_stated graph later reach path r c states;
      bounds = record {
        floors = λ node bounds there. named_stays leaf.reasons bounds.floor_why _ (is.bounds.floors node bounds there);
        ceilings = λ node bounds there. named_stays leaf.reasons bounds.ceiling_why _ (is.bounds.ceilings node bounds there);
      };
      picks = λ index pick there. through (slice_get (pick_reasons leaf) index) pick.constraint (is.picks index pick there);
    }
      where
        through : (o : Option Reason) (c : Constraint) → option_and_then (stated_on (case_of graph earlier reach) path) o ≡ Some c → option_and_then (stated_on (case_of graph later reach) path) o ≡ Some c
        through None c none = cc
        through (Some r) c some =
            sym (λ i. stated_same (case_of graph later reach) path i r)
            ∙ laws.stated_stays (case_of graph earlier reach) later (chosen_on path) r c ordered goes_on ((λ i. stated_same (case_of graph earlier reach) path i r) ∙ some)

  -- The search stands at its leaf at the later log, whatever it has seen.
  pub carried : (search : SearchState) (seen : ℕ) → IsAtItsLeaf graph earlier search → IsAtItsLeaf graph later (record search { seen = seen })
  carried search seen at = record {
    reach_is = at.reach_is;
    variables = at.variables;
    allowed = all_allowed search.path at.allowed;
    range = at.range;
    stated = all_stated search.reach search.path search.leaf at.stated;
    picks = record {
      few = at.picks.few;
      many = at.picks.many;
      counts = λ split before there.
          at.picks.counts split before there
          ∙ ap (λ (rs : List Reason). length rs) (sym (same_picks 1 (take split search.path) (All-take (IsAllowed graph earlier) split search.path at.allowed)));
      reasons =
          at.picks.reasons ∙ sym (same_picks 1 (take (length search.entered) search.path) (All-take (IsAllowed graph earlier) (length search.entered) search.path at.allowed));
    };
  }
