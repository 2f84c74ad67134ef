-- How `simulate` ends.
pub mod Simulating
