-- The lines of a report can be read: each is within its limits and not too long, and each may come where it stands.
-- A line with small numbers that names what the graph has is within its limits, and it is short.
pub mod SmallNumbers
pub mod ShortLines
-- What right steps name has small numbers.
pub mod PathsOfTrees
pub mod SpansOfLogs
pub mod StepNumbers
-- So do the lines of a right block.
pub mod LogsWithin
pub mod LinesCounted
pub mod RoundNumbers
pub mod RightBlocks
-- So each line of a report can be read.
pub mod ReadReports
