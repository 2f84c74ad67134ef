-- Trees, their places, with marks and without, and the path of the present leaf.
pub mod Marks
pub mod LeafPaths
pub mod TreeWalk
pub mod Grafts
pub mod PresentLeaf
pub mod MarkedLeaf
pub mod TreeSteps
pub mod Unmarked
pub mod LedPaths
pub mod LeafSteps
pub mod TreeFronts
pub mod TreesStay
pub mod NamedSteps
