-- The log of a text, and the verdict on a map.
pub mod LogTexts
pub mod ExplainedMaps
pub mod NamedNodes
