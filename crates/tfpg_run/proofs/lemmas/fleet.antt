-- On the command `fleet`.
pub mod Counts
pub mod OwnBlocks
pub mod FleetCalls
pub mod NextAnswers
pub mod AnsweredStreams
pub mod NewFleets
