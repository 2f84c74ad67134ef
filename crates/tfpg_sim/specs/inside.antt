-- What the code and its proofs need besides. No public clause reaches it.
pub mod Flights
pub mod ModeSpans
pub mod Arrivals
pub mod Settling
pub mod Entries
pub mod ScriptReading
pub mod GraphText
