-- What lines say, and that they say it alone.
pub mod KeywordShapes
pub mod StatementLines
pub mod SaidWords
pub mod SaidModes
pub mod SaidValues
pub mod SaidLines
pub mod SaidBy
pub mod LinesSaying
pub mod LinesCounted
