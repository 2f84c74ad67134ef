-- How `predict` ends.
pub mod Predicting
