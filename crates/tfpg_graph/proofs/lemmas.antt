-- The lemmas of each part of the crate, in a folder named like that of the source.
pub mod declaring
pub mod reading
pub mod writing
pub mod reach
pub mod zero_cycle
pub mod probing
-- What stands at a number.
pub mod Numbered
pub mod NodeAt
