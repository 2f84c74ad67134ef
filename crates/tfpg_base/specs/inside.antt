-- What the code and its proofs need besides. No public clause reaches it.
pub mod LineSearch
pub mod Buffer
pub mod BitsOfMembers
pub mod NodeWords
pub mod TraceSearch
pub mod Insertion
