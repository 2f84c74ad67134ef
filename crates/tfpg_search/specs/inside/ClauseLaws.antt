-- What the laws of clauses and of refutations say that the proofs of this crate rest on.
use Rattle.tfpg_clause.specs.Laws.{LowerBoundsHold, UpperBoundsHold, AllowedClausesHaveAlternatives, AllowedClausesAreShort, AllowedClausesAreSmall, LogsGoOnFromTheirFirstEvents, AllowedClausesStay, FactsStay, StatedConstraintsStay, FrontsOfPartialTreesArePartial, TreesBeginAtTheRoot, PathsFollowSteps, LastLeavesEndInRefutations, PartialTreesHaveAPresentLeaf, PresentLeavesAreAlone, PresentLeavesStay, PathsStay, PathsAreThoseOfPresentLeaves, RefutationsAreNotPartial}

-- What each law says, in the order of bounds, clauses and leaves.
pub record ClauseLaws : Type 0 where
  -- bounds hold of the times of nodes
  pub lower : LowerBoundsHold
  pub upper : UpperBoundsHold
  -- an allowed clause has an alternative, and not many, each of which is small
  pub some : AllowedClausesHaveAlternatives
  pub few : AllowedClausesAreShort
  pub small : AllowedClausesAreSmall
  -- a log goes on from its first events, and keeps what is allowed at them
  pub first : LogsGoOnFromTheirFirstEvents
  pub clause_stays : AllowedClausesStay
  pub fact_stays : FactsStay
  pub stated_stays : StatedConstraintsStay
  -- what a partial tree begins with is one
  pub partial_front : FrontsOfPartialTreesArePartial
  -- a partial tree has one present leaf and is no refutation; the path to the leaf follows the steps; and both stay
  pub path_begins : TreesBeginAtTheRoot
  pub path_moves : PathsFollowSteps
  pub leaf_ends : LastLeavesEndInRefutations
  pub leaf_there : PartialTreesHaveAPresentLeaf
  pub one_leaf : PresentLeavesAreAlone
  pub leaf_stays : PresentLeavesStay
  pub path_stays : PathsStay
  pub path_is : PathsAreThoseOfPresentLeaves
  pub finished : RefutationsAreNotPartial
