-- How `generate` ends, what it diagnoses, and what it writes.
pub mod Terms
pub mod Summary
pub mod Generating
