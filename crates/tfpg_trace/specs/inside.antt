-- What the parts of the judge say to each other. No public clause reaches it.
pub mod Due
pub mod FirstFaultIn
pub mod Gaps
pub mod RuleFaults
pub mod Shown
pub mod Strays
pub mod TimesByNode
