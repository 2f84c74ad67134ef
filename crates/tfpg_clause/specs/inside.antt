-- What the code and its proofs need besides. No public clause reaches it.
pub mod Ranges
pub mod Alternatives
pub mod ClausesByKind
pub mod UnfinishedSplits
pub mod FirstSpan
pub mod KnownWindows
pub mod Musts
pub mod Overdue
pub mod MarkedTrees
