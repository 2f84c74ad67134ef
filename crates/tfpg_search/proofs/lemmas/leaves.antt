-- At its leaf a search has the picks of its path, and stays there through each move.
pub mod AlternativePushed
pub mod AtItsLeaf
pub mod LatestAtLeaf
pub mod MovesStayAtLeaf
pub mod NextLeaf
pub mod PicksOfPath
pub mod ProposedTimes
pub mod StaysAtItsLeaf
