-- Lemmas on maps.
pub mod lemmas
