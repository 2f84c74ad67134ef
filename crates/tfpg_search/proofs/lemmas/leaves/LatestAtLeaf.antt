-- At a loaded leaf the solutions of the system are the times that solve what holds at the leaf.
use Rattle.std.proofs.Common.{◌≡◌, ℕ, zero, suc, ◌+◌, ◌<◌, List, length, get_or, Option, Some, sym, ap, subst, ◌∙◌, arith}
use Rattle.std.specs.Prelude.{slice_get, option_and_then, pos}
use Rattle.std.proofs.lemmas.List.{take_all}
use Rattle.std.proofs.lemmas.List.Elements.{All-get_or}
use Rattle.std.proofs.lemmas.Option.{slice_get_within, slice_get-get_or}
use Rattle.tfpg_base.specs.declared.constraint.Constraint.{Constraint}
use Rattle.tfpg_base.specs.Constraint.{Meets}
use Rattle.tfpg_graph.specs.Graph.{Tfpg}
use Rattle.tfpg_log.specs.Log.{Logbook, IsLogOf}
use Rattle.tfpg_evidence.specs.declared.reason.Reason.{Reason}
use Rattle.tfpg_evidence.specs.declared.reason.Reason.TheVariants.{Zero, Top, Unreached, From, Upto, Quiet, Pick}
use Rattle.tfpg_base.specs.Bounds.{at_most, at_least}
use Rattle.tfpg_clause.specs.Facts.{fact}
use Rattle.tfpg_clause.specs.declared.path.PathSplit.{PathSplit}
use Rattle.tfpg_diff.specs.declared.why.Why.{Why}
use Rattle.tfpg_diff.specs.declared.why.Why.TheVariants.{Floor, Ceiling, Given}
use Rattle.tfpg_diff.specs.declared.pick.Pick.{Pick as PickOf}
use Rattle.tfpg_diff.specs.Solution.{IsSolution, IsLatest}
use Rattle.tfpg_search.specs.inside.ClauseLaws.{ClauseLaws}
use Rattle.tfpg_search.specs.inside.Leaf.{tagged_by, pick_reasons}
use Rattle.tfpg_search.specs.inside.Picks.{picks_of}
use Rattle.tfpg_search.specs.SearchState.{SearchState}
use Rattle.tfpg_search.specs.inside.AtItsLeaf.{IsAtItsLeaf}
use Rattle.tfpg_search.specs.inside.Moves.{IsLoaded}
use Rattle.tfpg_base.proofs.lemmas.lists.Choices.{option_and_then-some}
use Rattle.tfpg_base.proofs.lemmas.lists.Elements.{All-from_indexes}
use Rattle.tfpg_search.proofs.lemmas.facts.FactsAdded.{facts_met}
use Rattle.tfpg_search.proofs.lemmas.work.BoundsGiven.{given_says}
use Rattle.tfpg_search.proofs.lemmas.leaves.PicksOfPath.{picks_have}
use Rattle.tfpg_clause.specs.inside.MarkedTrees.{picked_on, stated_on}
use Rattle.tfpg_clause.specs.Case.{case_of}
use Rattle.tfpg_clause.specs.Paths.{chosen_on}
use Rattle.tfpg_clause.proofs.lemmas.trees.Unmarked.{picked_same}
use Rattle.tfpg_search.specs.Solutions.{SolvesAt, IsLatestAt}

-- the reason by which something is named
named_fact : (facts : Reason → Option Constraint) (reasons : List Reason) (why : Why) (c : Constraint) → tagged_by facts reasons why ≡ Some c → (r : Reason) × (facts r ≡ Some c)
named_fact facts reasons (Floor node) c is = (Zero node, is)
named_fact facts reasons (Ceiling node) c is = (Top node, is)
named_fact facts reasons (Given tag) c is = let found = option_and_then-some facts (slice_get reasons tag) c is in (found.0, found.2)

module _ (laws : ClauseLaws) (graph : Tfpg) (log : Logbook) (of : IsLogOf graph log) (search : SearchState) (at : IsAtItsLeaf graph log search) (loaded : IsLoaded graph log search)
    (as_many : length search.leaf.demands.picks ≡ length (pick_reasons search.leaf)) where
  abbrev states : Reason → Option Constraint
  states = stated_on (case_of graph log search.reach) search.path

  all_picks : pick_reasons search.leaf ≡ picks_of graph log search.path
  all_picks =
      at.picks.reasons ∙ ap (λ (fs : List PathSplit). picks_of graph log fs) (take_all (length search.entered) search.path (let all = loaded.all_entered in omega arith))

  module _ (times : List ℕ) (solution : IsSolution search.leaf.demands times) where
    -- the constraint of each pick on the path is met
    pick_met : (i split number : ℕ) (c : Constraint) → slice_get (pick_reasons search.leaf) i ≡ Some (Pick split number) → picked_on graph log search.path split number ≡ Some c → Meets times c
    pick_met i split number c there is =
        let within : i < length search.leaf.demands.picks = let w = slice_get_within (pick_reasons search.leaf) i (Pick split number) there in omega arith in
        let unread : PickOf = record { constraint = c; tag = 0 } in
        let pick : PickOf = get_or search.leaf.demands.picks i unread in
        let states_it : option_and_then states (slice_get (pick_reasons search.leaf) i) ≡ Some pick.constraint =
        at.stated.picks i pick (slice_get-get_or search.leaf.demands.picks i unread within) in
        let both : Some c ≡ Some pick.constraint = sym is ∙ sym (ap (option_and_then states) there) ∙ states_it in
        let same : c ≡ pick.constraint = cc in
        subst (Meets times) (sym same) (All-get_or (λ (p : PickOf). Meets times p.constraint) search.leaf.demands.picks i unread within solution.met)

    picks_met : (split number : ℕ) (c : Constraint) → picked_on graph log search.path split number ≡ Some c → Meets times c
    picks_met zero number c is = absurd cc
    picks_met (suc k) number c is =
        let same_split : 1 + k ≡ suc k = omega arith in
        let have = picks_have graph log 1 search.path k number c is in
        let there : slice_get (pick_reasons search.leaf) have.0 ≡ Some (Pick (suc k) number) =
        ap (λ (rs : List Reason). slice_get rs have.0) all_picks ∙ have.1 ∙ ap (λ (n : ℕ). Some (Pick n number)) same_split in
        pick_met have.0 (suc k) number c there is

    solves : SolvesAt (case_of graph log search.reach) (chosen_on search.path) times
    solves = record {
      one_each = solution.complete ∙ at.variables;
      facts = λ reason constraint is.
          facts_met graph log of laws search.reach search.leaf.demands at.variables
          (λ node within. given_says (case_of graph log search.reach) search.leaf loaded.bounds node) reason constraint is times solution;
      picks = λ split number c is. picks_met split number c (sym (picked_same graph log search.path split number) ∙ is);
    }

  module _ (times : List ℕ) (solves : SolvesAt (case_of graph log search.reach) (chosen_on search.path) times) where
    met_by_reason : (r : Reason) (c : Constraint) → states r ≡ Some c → Meets times c
    met_by_reason (Pick split number) c is = solves.picks split number c (picked_same graph log search.path split number ∙ is)
    met_by_reason (Zero node) c is = solves.facts (Zero node) c is
    met_by_reason (Top node) c is = solves.facts (Top node) c is
    met_by_reason (Unreached node horizon) c is = solves.facts (Unreached node horizon) c is
    met_by_reason (From event) c is = solves.facts (From event) c is
    met_by_reason (Upto event) c is = solves.facts (Upto event) c is
    met_by_reason (Quiet event node) c is = solves.facts (Quiet event node) c is

    is_solution : IsSolution search.leaf.demands times
    is_solution = record {
      complete = solves.one_each ∙ sym at.variables;
      between = λ node bounds there.
          let low = named_fact (fact (case_of graph log search.reach)) search.leaf.reasons bounds.floor_why (at_least node bounds.floor) (at.stated.bounds.floors node bounds there) in
          let high = named_fact (fact (case_of graph log search.reach)) search.leaf.reasons bounds.ceiling_why (at_most node (pos bounds.ceiling)) (at.stated.bounds.ceilings node bounds there) in
          record {
            above = (laws.lower times node bounds.floor).0 (solves.facts low.0 (at_least node bounds.floor) low.1);
            below = (laws.upper times node bounds.ceiling).0 (solves.facts high.0 (at_most node (pos bounds.ceiling)) high.1);
          };
      met = All-from_indexes (λ (p : PickOf). Meets times p.constraint) search.leaf.demands.picks
          (λ index pick there.
          let reason = option_and_then-some states (slice_get (pick_reasons search.leaf) index) pick.constraint (at.stated.picks index pick there) in
          met_by_reason reason.0 pick.constraint reason.2);
    }

  -- The latest solution of the system is the latest at the leaf.
  pub latest_here : (times : List ℕ) → IsLatest search.leaf.demands times → IsLatestAt (case_of graph log search.reach) (chosen_on search.path) times
  latest_here times latest = record {
    solves = solves times latest.solution;
    latest = λ other also node within.
        latest.greatest other (is_solution other also) node (let one = latest.solution.complete in let two = at.variables in omega arith);
  }
