-- What the code and its proofs need besides. No public clause reaches it.
pub mod Parts
pub mod Rules
pub mod Rows
pub mod Given
pub mod Numbers
pub mod PanelsOf
