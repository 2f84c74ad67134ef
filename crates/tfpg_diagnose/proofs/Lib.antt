-- Lemmas on diagnosing line by line, on judging a report, and on texts in memory.
pub mod lemmas
