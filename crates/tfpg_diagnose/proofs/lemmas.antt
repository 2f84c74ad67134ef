-- The blocks of a report, one after another, and what rounds say of a rejected set.
pub mod LineBlocks
pub mod NextBlocks
pub mod ToldBlocks
pub mod WrittenBlocks
pub mod LossLines
pub mod NeverRejected
pub mod StaysRejected
-- A diagnosis of lines in memory.
pub mod CountedHypotheses
pub mod Diagnosed
-- Judging a report: what each line leads to.
pub mod JudgedReports
pub mod NextReportLines
-- What calls over texts in memory come to.
pub mod texts
