-- The finding that the line of a panel names.
pub mod BestFinding
