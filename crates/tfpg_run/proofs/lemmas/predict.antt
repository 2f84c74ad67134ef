-- How a prediction ends.
pub mod Endings
