-- What the body of a system keeps. No public clause reaches it.
pub mod Linked
pub mod Kept
pub mod Undone
pub mod Ready
pub mod KeptBounds
