-- What a reader of reports keeps of the lines that it was given.
-- lines with their numbers, and what may come after them
pub mod NumberedLines
pub mod Turns
-- the draft of a round that has not ended
pub mod SettledDrafts
pub mod FittingDrafts
pub mod GrowingDrafts
-- the round that lines begin, and one line more
pub mod BegunLines
-- where a block may begin
pub mod WholeBlocks
pub mod ReaderSteps
