pub use Rattle.tfpg_graph.specs.Graph
-- What the public contracts say.
pub mod SetText
pub mod ReadSets
pub mod LineWords
pub mod ReportLines
pub mod Stands
pub mod ReadRounds
pub mod Blocks
pub mod InOrder
pub mod Reading
pub mod Represents
pub mod ReadBack
pub mod RenderedRounds
-- What the code and its proofs need besides. No public clause reaches it.
pub mod inside
