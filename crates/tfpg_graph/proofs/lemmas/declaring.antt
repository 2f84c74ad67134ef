pub mod Named
pub mod Leaving
pub mod Inserts
pub mod MoreDeclared
pub mod Copied
