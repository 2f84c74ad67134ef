pub mod Sources
pub mod Reaches
pub mod Onward
pub mod Growing
