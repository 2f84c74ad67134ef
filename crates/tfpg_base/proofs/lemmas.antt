-- On lists, options and numbers, by topic.
pub mod lists
pub use Rattle.tfpg_base.proofs.lemmas.lists.Elements
-- On the notions of this crate.
pub mod Appended
pub mod LinesByWord
pub mod Numbers
pub mod Separators
pub mod WordLengths
pub mod Sets
pub mod NodeSets
pub mod SetTests
pub mod Traces
pub mod TraceTimes
pub mod SameTraces
pub mod Taking
pub mod LinesOf
pub mod LinesAndParts
pub mod ReadingOn
-- On what its code does.
pub mod Histories
pub mod Searches
