pub use Rattle.tfpg_base.specs.Trace
pub use Rattle.tfpg_graph.specs.Graph
pub use Rattle.tfpg_graph.specs.Reach
pub use Rattle.tfpg_graph.specs.Statements
pub use Rattle.tfpg_graph.specs.Valid
-- What the public contracts say.
pub mod Log
pub mod Rules
pub mod Explains
pub mod Spans
pub mod Runs
pub mod AgeInWindow
pub mod LogStatements
pub mod Accepted
pub mod LogOfLines
pub mod AcceptedLog
pub mod EventLines
pub mod Quiet
pub mod LastAlarm
-- What the code and its proofs need besides. No public clause reaches it.
pub mod inside
