-- The faults of the layers below and the limits of numbers, and then the rooms of the source.
pub mod Faults
pub mod Plans
pub mod generate
pub mod convert
pub mod fleet
