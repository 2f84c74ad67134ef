-- Refusals of a graph that is converted.
pub mod Refusals
