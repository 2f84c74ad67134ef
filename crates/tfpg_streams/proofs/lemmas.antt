-- The lines of the input, and writing one piece after another.
pub mod FewLines
pub mod InputLines
pub mod Putting
