-- Which facts bound a node, and that the bounds of a system come to say all of them.
pub mod FactsAdded
pub mod StatedBounds
