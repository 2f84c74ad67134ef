pub use Rattle.tfpg_clause.specs.Trees
pub use Rattle.tfpg_log.specs.Log
pub use Rattle.tfpg_log.specs.Explains
pub use Rattle.tfpg_graph.specs.Graph
pub use Rattle.tfpg_graph.specs.Reach
-- What the public contracts say.
pub mod Table
pub mod Views
pub mod Hypotheses
pub mod Ranking
pub mod Rounds
pub mod Fitting
-- What the code and its proofs need besides. No public clause reaches it.
pub mod inside
