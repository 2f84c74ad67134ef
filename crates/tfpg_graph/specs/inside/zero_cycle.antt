pub mod ZeroSearch
pub mod ZeroEdges
pub mod SearchFrames
