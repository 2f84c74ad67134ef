pub mod LineLengths
pub mod ModeBits
pub mod ModeNames
pub mod TextPieces
pub mod CleanLines
pub mod WrittenVersion
pub mod Spelled
