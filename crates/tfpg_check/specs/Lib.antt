pub use Rattle.tfpg_report.specs.Blocks
pub use Rattle.tfpg_hyp.specs.Rounds
pub use Rattle.tfpg_log.specs.Log
pub use Rattle.tfpg_graph.specs.Graph
-- What the public contracts say.
pub mod Report
pub mod Tests
pub mod Judging
pub mod Passing
pub mod Causes
pub mod HypothesesState
pub mod CauseNames
pub mod Judged
pub mod JudgeState
pub mod EqualReports
pub mod RightReports
-- What the code and its proofs need besides. No public clause reaches it.
pub mod inside
