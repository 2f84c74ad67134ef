-- Traces and their numbers.
pub mod TraceAgrees
pub mod NumbersOfTrace
pub mod FactsMet
pub mod GivesTrace
pub mod OnlyMembers
pub mod NoTrace
