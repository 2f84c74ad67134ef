-- What the code and its proofs need besides. No public clause reaches it.
pub mod Asking
pub mod AtOnce
pub mod Early
pub mod Ordering
