-- What the code and its proofs need besides. No public clause reaches it.
pub mod Tried
pub mod Quests
pub mod KeptEvents
pub mod ProbeNames
