-- The map of what was simulated.
pub mod SimulatedMaps
-- How it ends.
pub mod Endings
