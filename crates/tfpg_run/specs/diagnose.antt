-- How `diagnose` ends.
pub mod Diagnosing
