pub use Rattle.tfpg_evidence.specs.Findings
pub use Rattle.tfpg_graph.specs.Faults
-- What the public contracts say.
pub mod GraphData
pub mod RoundData
pub mod GraphSaid
pub mod GraphText
-- What the code and its proofs need besides. No public clause reaches it.
pub mod inside
