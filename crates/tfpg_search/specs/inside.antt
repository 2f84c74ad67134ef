-- What the code and its proofs need besides. No public clause reaches it, but through what a search keeps and what ties that to
-- its steps, which need no belief.
pub mod Leaf
pub mod Picks
pub mod AtItsLeaf
pub mod Tags
pub mod EnteredPicks
pub mod KeptReasons
pub mod Closing
pub mod LeafCalls
pub mod Facts
pub mod Counted
pub mod Leaving
pub mod Moves
pub mod ClauseLaws
