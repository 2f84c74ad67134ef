-- The diagnosis of a drawn system, and what it says of the simulated set.
pub mod AcceptedEvents
pub mod FewHypotheses
pub mod Truths
