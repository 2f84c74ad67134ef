-- Lemmas on each answer.
pub mod lemmas
