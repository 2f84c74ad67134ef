-- The shelf of lemmas on lists, options and numbers, whatever they hold. Each crate cites them from here.
-- Which elements a list has, and what holds of them.
pub mod Elements
pub mod Ordered
pub mod Inserted
pub mod Distinct
pub mod Below
pub mod Pigeons
-- What is at an index, and at which index something is.
pub mod Written
pub mod Positions
pub mod FirstFound
pub mod Cuts
pub mod Ranges
-- Lists made of others: images, those that pass, values that there are.
pub mod Images
pub mod Zipped
pub mod Appended
pub mod Filtered
pub mod Passing
pub mod Numbered
pub mod Valued
pub mod LookedUp
pub mod Choices
pub mod Scans
pub mod Groups
-- Bytes and numbers.
pub mod SameBytes
pub mod Digits
pub mod Lacking
pub mod Joined
pub mod Sequences
pub mod Trials
pub mod Fractions
pub mod Integers
pub mod Maxima
-- What can be decided.
pub mod Decided
