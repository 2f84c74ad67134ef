pub mod Turns
pub mod TurnResults
pub mod StatementSeen
pub mod Shapes
pub mod WordValues
pub mod LineCauses
pub mod EdgeNames
