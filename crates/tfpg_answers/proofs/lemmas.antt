-- The lemmas of each room, in a folder named like that of the source.
pub mod ask
pub mod explain
pub mod predict
pub mod texts
pub mod Counted
