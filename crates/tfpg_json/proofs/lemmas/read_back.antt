-- What is written of a graph is read back.
pub mod LineEnds
pub mod WrittenData
pub mod WrittenGraphs
pub mod SaidAgain
pub mod SpelledAgain
