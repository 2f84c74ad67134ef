-- Their lines and words, reading them, and that each text spells at most one.
pub mod LineWords
pub mod Lines
pub mod NextLines
pub mod OneMap
pub mod MapFaults
pub mod WrittenMaps
