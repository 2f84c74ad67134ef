pub use Rattle.tfpg_engine.specs.EngineState
-- What the public contracts say.
pub mod Outcomes
pub mod Questions
pub mod Foresight
pub mod Laws
-- What the code and its proofs need besides. No public clause reaches it.
pub mod inside
