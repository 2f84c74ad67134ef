-- What `fleet` writes, and how it ends.
pub mod Answers
pub mod Counting
pub mod FleetOutput
pub mod FleetEnds
pub mod FleetWork
