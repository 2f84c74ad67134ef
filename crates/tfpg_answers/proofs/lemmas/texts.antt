-- Which fault a call over texts returns.
pub mod Asking
pub mod Predicting
pub mod Explaining
