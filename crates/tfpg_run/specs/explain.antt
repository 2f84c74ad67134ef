-- How `explain` ends.
pub mod Explaining
