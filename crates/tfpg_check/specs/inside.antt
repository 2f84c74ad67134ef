-- What the code and its proofs need besides. No public clause reaches it.
pub mod Faults
pub mod BlockSteps
pub mod LineSteps
pub mod LogLines
pub mod InTurn
pub mod Parts
pub mod Lookups
pub mod LargestParts
pub mod KeptFlags
pub mod RankedKeys
pub mod Named
pub mod Kept
pub mod ReadRoundOf
pub mod AfterRound
