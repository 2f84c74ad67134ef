-- What the laws of trees say that the proofs of this crate rest on.
use Rattle.tfpg_clause.specs.Laws.{LogsGoOnFromTheirFirstEvents, FrontsOfPartialTreesArePartial, FrontsOfRefutationsArePartial, TreesBeginAtTheRoot, PartialTreesHaveAPresentLeaf, PresentLeavesAreAlone, PresentLeavesStay, PartialTreesStay, RefutationsStay, RefutationsAreNotPartial}

-- What each law says, in the order of logs, fronts, leaves and ends.
pub record TreeLaws : Type 0 where
  -- a log goes on from its first events
  pub first : LogsGoOnFromTheirFirstEvents
  -- what a partial tree or a refutation begins with is a partial tree
  pub partial_front : FrontsOfPartialTreesArePartial
  pub refutation_front : FrontsOfRefutationsArePartial
  -- a partial tree has one present leaf
  pub leaf_begins : TreesBeginAtTheRoot
  pub leaf_there : PartialTreesHaveAPresentLeaf
  pub one_leaf : PresentLeavesAreAlone
  -- trees stay at a log that goes on
  pub leaf_stays : PresentLeavesStay
  pub partial_stays : PartialTreesStay
  pub refutation_stays : RefutationsStay
  -- a refutation is no partial tree
  pub finished : RefutationsAreNotPartial
