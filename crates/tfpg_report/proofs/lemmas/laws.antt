-- What the lines of a right report come to.
-- they may come in their order
pub mod ReadInOrder
-- the round that was read from them
pub mod LinesOfOneRound
pub mod RoundsReadBack
-- what a reader returns for the lines of what is rendered
pub mod RenderedRounds
