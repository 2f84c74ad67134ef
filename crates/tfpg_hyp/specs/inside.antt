-- How the code lists and counts. No public clause reaches it.
pub mod Choices
pub mod Larger
