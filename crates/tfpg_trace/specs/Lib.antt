pub use Rattle.tfpg_log.specs.Explains
pub use Rattle.tfpg_log.specs.Rules
pub use Rattle.tfpg_log.specs.Log
pub use Rattle.tfpg_graph.specs.Graph
-- What the public contracts say.
pub mod Broken
pub mod FirstFault
-- What the code and its proofs need besides. No public clause reaches it.
pub mod inside
