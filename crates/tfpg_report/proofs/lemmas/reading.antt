-- What the words of a report's lines say.
-- the first of them
pub mod FirstWords
-- lines without a set
pub mod SaidLines
pub mod ReadLines
pub mod ActivationsSaid
-- lines with a set
pub mod SetLines
-- each line
pub mod WordsOfLines
pub mod LinesSay
-- sets
pub mod SetParts
pub mod RisingMembers
pub mod CutMembers
