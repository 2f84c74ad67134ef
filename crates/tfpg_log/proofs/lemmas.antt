pub mod events
pub mod changes
pub mod instants
pub mod ages
pub mod causes
pub mod logs_of_lines
