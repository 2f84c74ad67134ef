-- What is right passes each test. A round of a report passes; rounds with equal lines are equal, so right lines determine their blocks;
-- and a report each of whose lines can be read has no cause.
pub mod MappedLists
-- What the lines of a round say.
pub mod RoundSayings
pub mod WhatIsSaid
-- A right round passes, and of what passes no test fails.
pub mod RightRoundFacts
pub mod RankedFindings
pub mod ReadLines
pub mod RightRoundPasses
pub mod NothingFails
-- Right lines determine their rounds and blocks.
pub mod EqualRounds
pub mod LinesOfBlocks
pub mod EqualBlocks
-- No block of a report fails, nor does its end.
pub mod RightBlocksPass
pub mod RightFronts
pub mod NoCause
-- What the lines of a report name, and that they have no cause.
pub mod NamedLines
pub mod ReportsRead
-- No lines have two causes, and none have one that are not judged.
pub mod OneRoundCause
pub mod OneCause
pub mod TooManyInHead
