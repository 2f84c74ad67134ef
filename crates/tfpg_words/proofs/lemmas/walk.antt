-- The walk of `clap` over the words, which is no folder of the source.
pub mod View
pub mod Turns
pub mod Walks
pub mod Rows
pub mod Main
pub mod Forms
