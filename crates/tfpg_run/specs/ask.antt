-- How `ask` ends.
pub mod Asking
