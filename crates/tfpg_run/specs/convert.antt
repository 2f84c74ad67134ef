-- How `convert` ends.
pub mod Converting
