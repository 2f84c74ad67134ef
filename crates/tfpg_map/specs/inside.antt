-- Lines of a map, and its reading under way.
pub mod Lines
pub mod Reading
