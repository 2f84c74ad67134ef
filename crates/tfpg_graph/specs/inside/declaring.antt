pub mod Indexes
pub mod Declaring
