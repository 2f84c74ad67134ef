pub use Rattle.tfpg_clause.specs.Trees
-- What the public contracts say.
pub mod CheckerState
pub mod Breaks
pub mod Represents
-- What the code and its proofs need besides. No public clause reaches it.
pub mod inside
