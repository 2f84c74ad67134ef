-- Lemmas, by what they are about.
pub mod logs
pub mod constraints
pub mod alternatives
pub mod rules
pub mod first_violated
pub mod traces
pub mod trees
