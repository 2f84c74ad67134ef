-- What the public contracts say of each answer: the questions after a log, the forecasts of a node that is probed, and the verdict on a map.
pub mod Questions
pub mod Probing
pub mod Forecasts
pub mod Verdicts
-- What they say of calls over texts in memory.
pub mod texts
-- What the code and its proofs need besides. No public clause reaches it.
pub mod inside
