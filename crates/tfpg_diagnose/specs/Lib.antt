-- What the public contracts say of a diagnosis that goes line by line: its report, what the panels are told, and its work.
pub mod Watched
pub mod TellsPanels
pub mod RightReport
pub mod Diagnosing
pub mod BlockFindings
pub mod Work
-- What they say of a diagnosis in memory.
pub mod Rounds
pub mod EngineReports
pub mod Diagnosed
-- What they say of a report that is judged.
pub mod JudgedReports
-- What they say of calls over texts in memory.
pub mod texts
-- What the code and its proofs need besides. No public clause reaches it.
pub mod inside
