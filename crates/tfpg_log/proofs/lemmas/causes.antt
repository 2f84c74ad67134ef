-- Why a node is active, and that it is within the reach of the set.
pub mod AndNodes
pub mod WalkBack
pub mod Causes
pub mod InReach
pub mod NoFailures
pub mod LargerSets
