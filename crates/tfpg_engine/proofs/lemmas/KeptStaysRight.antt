-- What is kept of a hypothesis stays right at a log that goes on.
use Rattle.std.proofs.Common.{◌≡◌, ℕ, List, [], ◌∷◌, ◌++◌, refl, sym, subst}
use Rattle.std.specs.Prelude.{false, Result, Ok, Err, IfOk}
use Rattle.std.proofs.lemmas.List.{append-nil}
use Rattle.tfpg_log.specs.Log.{Logbook, GoesOn, IsOrdered, first_events}
use Rattle.tfpg_base.specs.declared.no_memory.NoMemory.{NoMemory}
use Rattle.tfpg_base.specs.Hypothesis.{Hypothesis}
use Rattle.tfpg_graph.specs.Graph.{Tfpg}
use Rattle.tfpg_clause.specs.Case.{Case, case_of, at_log}
use Rattle.tfpg_clause.specs.Trees.{Judged, TreePlace, IsPartial, IsPresentLeaf, IsRefutation}
use Rattle.tfpg_hyp.specs.Views.{log_for, case_for}
use Rattle.tfpg_search.specs.Live.{HasNoNameTwice}
use Rattle.tfpg_search.specs.SearchState.{SearchState}
use Rattle.tfpg_search.specs.Represents.{SearchRepresents}
use Rattle.tfpg_log.proofs.lemmas.events.PastKept.{first_events_kept}
use Rattle.tfpg_search.proofs.lemmas.calls.NewSearch.{none_twice, names_stay, names_of_partial}
use Rattle.tfpg_engine.specs.declared.slot.Slot.{Slot}
use Rattle.tfpg_engine.specs.declared.slot.Slot.TheVariants.{Untouched, Searched, Rejected}
use Rattle.tfpg_engine.specs.EngineState.{SlotRepresents, is_rejected_slot}
use Rattle.tfpg_engine.specs.inside.TreeLaws.{TreeLaws}
use Rattle.tfpg_engine.proofs.lemmas.Ignoring.{ordered_for}

-- ---- names on paths

module _ (laws : TreeLaws) (case : Case) (later : Logbook) (ordered : IsOrdered later) (goes_on : GoesOn case.log later) where
  front_of : (front back : List Judged) (place : TreePlace) → IsRefutation case (front ++ back) → IsPresentLeaf (at_log case later) front place → IsPartial case front
  front_of front [] place refutation leaf =
      absurd (laws.finished (at_log case later) front (laws.refutation_stays case later front ordered goes_on (subst (IsRefutation case) (append-nil front) refutation)) leaf.partial)
  front_of front (next ∷ back) place refutation leaf = laws.refutation_front case front next back refutation

  names_of_refutation : (steps : List Judged) → IsRefutation case steps → HasNoNameTwice case steps → HasNoNameTwice (at_log case later) steps
  names_of_refutation steps refutation names =
      names_stay laws.leaf_there laws.one_leaf laws.leaf_stays case later ordered goes_on steps
      (λ front back place is leaf. front_of front back place (subst (IsRefutation case) is refutation) leaf) names

  -- What is kept of a hypothesis represents the same steps at the later log.
  pub slot_stays : (hypothesis : Hypothesis) (slot : Slot) (steps : List Judged) → SlotRepresents case hypothesis slot steps → SlotRepresents (at_log case later) hypothesis slot steps
  slot_stays hypothesis Untouched steps is = is
  slot_stays hypothesis (Searched search) steps is =
      (is.0, is.1, subst (λ (log : Logbook). SearchRepresents case.graph log search steps) (first_events_kept case.log later goes_on search.seen is.2.seen) is.2)
  slot_stays hypothesis (Rejected calls) steps is = (laws.refutation_stays case later steps ordered goes_on is.0, names_of_refutation steps is.0 is.1)

-- So it does at what a hypothesis sees of the later log.
pub stays_for : TreeLaws → (graph : Tfpg) (earlier later : Logbook) → IsOrdered later → GoesOn earlier later → (hypothesis : Hypothesis) (reach : List ℕ) (slot : Slot) (steps : List Judged)
    → SlotRepresents (case_for graph earlier hypothesis reach) hypothesis slot steps → SlotRepresents (case_for graph later hypothesis reach) hypothesis slot steps
stays_for laws graph earlier later ordered goes_on hypothesis reach slot steps is =
    slot_stays laws (case_for graph earlier hypothesis reach) (log_for later hypothesis) (ordered_for later hypothesis.doubts ordered)
    (record { more = goes_on.more; events = goes_on.events; ignored = refl }) hypothesis slot steps is

-- ---- what is kept of a hypothesis that is not rejected

-- a partial tree, on no path of which a name stands twice
pub record IsGoodPartial (case : Case) (steps : List Judged) : Type 0 where
  pub partial : IsPartial case steps
  pub names : HasNoNameTwice case steps

pub slot_partial : TreeLaws → (case : Case) → IsOrdered case.log → (hypothesis : Hypothesis) (slot : Slot) (steps : List Judged) → is_rejected_slot slot ≡ false → SlotRepresents case hypothesis slot steps
    → IsGoodPartial case steps
slot_partial laws case ordered hypothesis Untouched steps open_yet is =
    subst (IsGoodPartial case) (sym is) (record { partial = (laws.leaf_begins case).partial; names = none_twice case })
slot_partial laws case ordered hypothesis (Searched search) steps open_yet is =
    let seen : Case = case_of case.graph (first_events case.log search.seen) search.reach in
    subst (λ (reach : List ℕ). IsGoodPartial (case_of case.graph case.log reach) steps) is.1
    (record {
      partial = laws.partial_stays seen case.log steps ordered (laws.first case.log search.seen) is.2.leaf.partial;
      names = names_of_partial laws.leaf_there laws.one_leaf laws.leaf_stays seen case.log ordered (laws.first case.log search.seen) steps
          laws.partial_front is.2.leaf.partial is.2.names;
    })
slot_partial laws case ordered hypothesis (Rejected calls) steps open_yet is = cc

-- ---- a hypothesis that was never searched

-- a new search represents the steps of a hypothesis that was never searched
pub begins_untouched : (graph : Tfpg) (hypothesis : Hypothesis) (reach : List ℕ) (slot : Slot) (result : Result SearchState NoMemory) → slot ≡ Untouched → IfOk result (λ search. search.set ≡ hypothesis.set)
    → IfOk result (λ search. search.reach ≡ reach) → IfOk result (λ search. search.seen ≡ 0) → ((log : Logbook) → IfOk result (λ search. SearchRepresents graph (first_events log 0) search []))
    → IfOk result (λ search. (log : Logbook) (steps : List Judged) → is_rejected_slot slot ≡ false → SlotRepresents (case_of graph log reach) hypothesis slot steps
    → SlotRepresents (case_of graph log reach) hypothesis (Searched search) steps)
begins_untouched graph hypothesis reach slot (Ok search) is set_is reach_is seen represents = λ log steps open_yet own.
    let none : steps ≡ [] = subst (λ (s : Slot). SlotRepresents (case_of graph log reach) hypothesis s steps) is own in (
      set_is,
      reach_is,
      subst (λ (n : ℕ). SearchRepresents graph (first_events log n) search steps) (sym seen)
          (subst (λ (ss : List Judged). SearchRepresents graph (first_events log 0) search ss) (sym none) (represents log)),
    )
begins_untouched graph hypothesis reach slot (Err no_memory) is set_is reach_is seen represents = tt
