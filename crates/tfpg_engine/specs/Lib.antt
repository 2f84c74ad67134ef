pub use Rattle.tfpg_hyp.specs.Rounds
pub use Rattle.tfpg_search.specs.Searched
-- What the public contracts say.
pub mod Earned
pub mod EngineState
pub mod Work
-- What the code and its proofs need besides. No public clause reaches it.
pub mod inside
