-- The lines that spell a graph.
pub mod LinesSay
pub mod SpelledValues
pub mod SpelledEdges
pub mod SpelledSoFar
pub mod SpelledBy
pub mod SaidSoFar
