pub use Rattle.tfpg_clause.specs.Trees
pub use Rattle.tfpg_log.specs.Log
pub use Rattle.tfpg_log.specs.Explains
-- What the public contracts say.
pub mod Solutions
pub mod Live
pub mod Enough
pub mod SearchState
pub mod Work
pub mod WorkRows
pub mod Represents
pub mod Searched
pub mod Laws
-- What the code and its proofs need besides. No public clause reaches it, but through what a search keeps and what ties that to
-- its steps, which need no belief.
pub mod inside
