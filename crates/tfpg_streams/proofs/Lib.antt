-- Lemmas that whoever reads line by line, or writes piece by piece, needs.
pub mod lemmas
