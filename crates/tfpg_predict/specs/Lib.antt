pub use Rattle.tfpg_log.specs.Explains
pub use Rattle.tfpg_clause.specs.Trees
pub use Rattle.tfpg_search.specs.Searched
-- What the public contracts say.
pub mod LeastTime
pub mod Kept
pub mod KeptRows
pub mod Probed
pub mod Outlooks
-- What the code and its proofs need besides. No public clause reaches it.
pub mod inside
