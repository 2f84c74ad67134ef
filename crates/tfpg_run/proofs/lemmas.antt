-- The lemmas of each command, in folders named like those of the source.
pub mod check
pub mod simulate
pub mod generate
pub mod fleet
pub mod predict
pub mod panel_lines
-- Lemmas that several commands need.
pub mod Refused
pub mod AskedInOrder
pub mod Written
pub mod Stops
pub mod PlannedNumbers
pub mod Completing
pub mod ConvertedBack
pub mod InTime

-- The lemmas of each room, in a folder named like that of the source.
