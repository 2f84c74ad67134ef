pub mod walk
pub mod Taken
pub mod Once
pub mod Commands
pub mod NamesTested
pub mod WithinLimits
pub mod PanelsRead
