-- What was drawn and found.
pub mod Drawn
pub mod Summary
