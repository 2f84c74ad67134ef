pub use Rattle.tfpg_log.specs.Log
pub use Rattle.tfpg_log.specs.Spans
pub use Rattle.tfpg_graph.specs.Graph
pub use Rattle.tfpg_graph.specs.Reach
-- What the public contracts say.
pub mod Case
pub mod Facts
pub mod Clauses
pub mod Order
pub mod Cut
pub mod Trees
pub mod Paths
pub mod Laws
-- What the code and its proofs need besides. No public clause reaches it.
pub mod inside
