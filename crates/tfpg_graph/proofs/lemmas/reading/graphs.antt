-- The graph that lines declare.
pub mod GraphsSaid
pub mod DeclaredBy
pub mod RepresentedLines
pub mod ValidSoFar
pub mod ValidGraphs
pub mod FoundNames
